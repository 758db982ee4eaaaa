-- Thirty calls of replay, merge, join and live writes, with the answers that the Rust gives to them. The same calls stand in
-- oracle/bench/script.txt; `oracle/target/release/oracle check oracle/bench/script.txt` compares those answers with the Rust.
use mathlib.Core.Path.{◌≡◌, refl}
use mathlib.Core.List.{List, [], ◌∷◌, ◌++◌, map}
use Rattle.std.specs.Prelude.{Option, None, Some}
use Prim.Native.Nat.{ℕ}
use Rattle.rules.specs.Causes.{Result, number_of, Ok, Err, left}
use Rattle.rules.specs.Items.{LogQueue, Append, Rewrite, EntryIndex, entries, command, clean, compact, kv, put, del, LogItem}
use Rattle.rules.specs.Table.{Table, first_index_of}
use Rattle.rules.specs.TableQueries.{fetch_entries_to, min_file_seq}
use Rattle.rules.specs.Context.{Context, fresh}
use Rattle.rules.specs.Calls.{replay, merge, join, append, rewrite}
use Rattle.rules.specs.Queries.{in_group, answered, live_entries, take_cleaned, after_taking}
use Rattle.maps.specs.Lists.{or_else}
use Rattle.maps.specs.Maps.{Map, lookup, insert, numbers}
use Rattle.rules.proofs.Opened.{opened}
use Rattle.rules.proofs.Terms.{several, item, key_put, mark, batch_of}

-- what a call answers: nothing, a refusal's number and position, numbers, or entry records
pub data Answer : Type 0 where
  done : Answer
  no : ℕ → Option ℕ → Answer
  counts : List ℕ → Answer
  records : List EntryIndex → Answer

abbrev pub answer_of : {A : Type 0} → (A → Answer) → Result A → Answer
answer_of f (Ok a) = f a
answer_of f (Err r) = no (number_of r.cause) r.place

-- contexts by the numbers that the script has for them; a call gives its answer and the contexts after it
abbrev pub World : Type 0
World = Map ℕ Context

pub record Step : Type 0 where
  pub next : World
  pub answer : Answer

abbrev pub Call : Type 0
Call = World → Step

abbrev pub context_at : ℕ → World → Context
context_at n w = or_else (fresh Append) (λ (c : Context). c) (lookup numbers n w)

-- a call that writes context n
abbrev pub written : ℕ → World → Result Context → Step
written n w r = record { next = insert numbers n (left (context_at n w) r) w; answer = answer_of (λ (c : Context). done) r }

abbrev pub replays : ℕ → LogQueue → ℕ → List LogItem → Call
replays n q seq xs w = written n w (replay (batch_of q seq xs) (context_at n w))

abbrev pub merges : ℕ → ℕ → Call
merges n newer w = written n w (merge (context_at newer w) (context_at n w))

abbrev pub joins : ℕ → ℕ → Call
joins n newer w = written n w (join (context_at newer w) (context_at n w))

abbrev pub appends : ℕ → LogQueue → ℕ → List LogItem → Call
appends n q seq xs w = written n w (append (batch_of q seq xs) (context_at n w))

abbrev pub rewrites : ℕ → LogQueue → ℕ → Option ℕ → List LogItem → Call
rewrites n q seq gate xs w = written n w (rewrite gate (batch_of q seq xs) (context_at n w))

-- a call that only reads
abbrev pub asks : ℕ → (Context → Answer) → Call
asks n f w = record { next = w; answer = f (context_at n w) }

abbrev pub live : Context → Answer
live c = counts (live_entries Append c ∷ live_entries Rewrite c ∷ [])

-- lent lists of eight
abbrev pub lent_records : List EntryIndex
lent_records = several Append 0 0 8

abbrev pub lent_numbers : List ℕ
lent_numbers = 0 ∷ 0 ∷ 0 ∷ 0 ∷ 0 ∷ 0 ∷ 0 ∷ 0 ∷ []

abbrev pub fetches : ℕ → ℕ → ℕ → Context → Answer
fetches g begin end c = answer_of records (answered lent_records (in_group g (fetch_entries_to begin end None) c))

abbrev pub number : Option ℕ → Answer
number n = counts (or_else [] (λ k. k ∷ []) n)

abbrev pub asks_number : ℕ → (Table → Option ℕ) → Context → Answer
asks_number g f c = answer_of number (in_group g (λ t. Ok (f t)) c)

abbrev pub taken : ℕ → World → Result (List ℕ) → Step
taken n w r = record { next = insert numbers n (after_taking r (context_at n w)) w; answer = answer_of counts r }

abbrev pub takes : ℕ → Call
takes n w = taken n w (take_cleaned lent_numbers (context_at n w))

-- a call with the Rust's answer
pub record Line : Type 0 where
  pub call : Call
  pub expected : Answer

abbrev pub ◌⇒◌ : Call → Answer → Line
c ⇒ a = record { call = c; expected = a }

infix 80 ◌⇒◌
-- n entries of one file from index i up, of group g
abbrev pub list_of : ℕ → LogQueue → ℕ → ℕ → ℕ → LogItem
list_of g q seq i n = item g (entries (several q seq i n))

-- contexts 0 and 1 are Append, 10 and 11 Rewrite
abbrev pub start : World
start = insert numbers 0 (fresh Append) (insert numbers 1 (fresh Append) (insert numbers 10 (fresh Rewrite) (insert numbers 11 (fresh Rewrite) [])))

abbrev pub script : List Line
script =
    -- Append runs: 14 in between, a Clean of an absent group
    replays 0 Append 1 (list_of 7 Append 1 4 3 ∷ item 7 (key_put (0x6b ∷ []) (0x76 ∷ []) Append 1) ∷ []) ⇒ done
    ∷ replays 0 Append 2 (list_of 8 Append 2 5 2 ∷ []) ⇒ done
    ∷ replays 0 Append 2 (list_of 8 Append 2 7 1 ∷ list_of 7 Append 2 9 1 ∷ []) ⇒ no 14 (Some 1)
    ∷ replays 1 Append 3 (item 7 (command (compact 3)) ∷ list_of 7 Append 3 6 3 ∷ item 7 (kv (0x6b ∷ []) del) ∷ item 9 (key_put (0x61 ∷ []) (0x62 ∷ []) Append 3) ∷ []) ⇒ done
    ∷ replays 1 Append 3 (item 6 (command clean) ∷ []) ⇒ done
    ∷ merges 0 1 ⇒ done
    -- Rewrite runs: group 7 is finished in one run, group 9 by the merge
    ∷ replays 10 Rewrite 1 (list_of 7 Rewrite 1 1 2 ∷ []) ⇒ done
    ∷ replays 10 Rewrite 2 (item 7 (mark 0) ∷ list_of 7 Rewrite 2 3 1 ∷ []) ⇒ done
    ∷ replays 10 Rewrite 3 (item 7 (mark 1) ∷ list_of 7 Rewrite 3 4 1 ∷ []) ⇒ done
    ∷ replays 10 Rewrite 2 (item 7 (mark 2) ∷ []) ⇒ no 8 None
    ∷ replays 10 Rewrite 4 (item 7 (mark 2) ∷ item 7 (key_put (0x6d ∷ []) (0x77 ∷ []) Rewrite 4) ∷ item 7 (key_put (0x6e ∷ []) (0x78 ∷ []) Rewrite 4) ∷ []) ⇒ done
    ∷ replays 10 Rewrite 4 (item 7 (mark 0) ∷ item 8 (command clean) ∷ []) ⇒ no 7 (Some 1)
    ∷ replays 10 Rewrite 5 (item 9 (mark 0) ∷ list_of 9 Rewrite 5 1 2 ∷ []) ⇒ done
    ∷ replays 11 Rewrite 6 (item 9 (mark 2) ∷ list_of 9 Rewrite 6 3 1 ∷ []) ⇒ done
    ∷ replays 11 Rewrite 6 (list_of 7 Rewrite 6 3 1 ∷ item 7 (kv (0x6e ∷ []) del) ∷ []) ⇒ done
    ∷ merges 10 11 ⇒ done
    ∷ merges 10 0 ⇒ no 1 None
    -- group 8 is adopted: the live counts leave it out
    ∷ joins 10 0 ⇒ done
    ∷ asks 10 live ⇒ counts (6 ∷ 5 ∷ [])
    -- live writes: 13, 16 and 17 in between; group 8 is cleaned and made again
    ∷ appends 10 Append 4 (list_of 7 Append 4 2 1 ∷ []) ⇒ no 13 (Some 0)
    ∷ appends 10 Append 4 (item 8 (command clean) ∷ list_of 8 Append 4 1 2 ∷ list_of 7 Append 4 9 1 ∷ []) ⇒ done
    ∷ rewrites 10 Rewrite 7 (Some 1) (list_of 7 Rewrite 7 4 2 ∷ []) ⇒ done
    ∷ rewrites 10 Rewrite 7 (Some 1) (list_of 7 Rewrite 7 5 2 ∷ []) ⇒ no 16 (Some 0)
    ∷ rewrites 10 Rewrite 8 None (list_of 7 Rewrite 8 3 4 ∷ []) ⇒ done
    ∷ rewrites 10 Rewrite 3 None (item 7 (kv (0x6d ∷ []) (put None None)) ∷ []) ⇒ no 17 (Some 0)
    -- queries
    ∷ asks 10 live ⇒ counts (7 ∷ 7 ∷ [])
    ∷ takes 10 ⇒ counts (6 ∷ 8 ∷ [])
    ∷ asks 10 (fetches 7 3 10) ⇒ records (several Rewrite 8 3 3 ++ several Append 3 6 3 ++ several Append 4 9 1)
    ∷ asks 10 (asks_number 7 (min_file_seq Rewrite)) ⇒ counts (2 ∷ [])
    ∷ asks 10 (asks_number 5 (λ t. first_index_of t.entries)) ⇒ no 9 None
    ∷ []

-- the rules' answers to calls in order
abbrev pub answers : List Line → World → List Answer
answers [] w = []
answers (l ∷ ls) w = (l.call w).answer ∷ answers ls (l.call w).next

pub script-answered : answers script start ≡ map (λ (l : Line). l.expected) script
unfolding opened
script-answered = refl
