-- Facts that tell 01's numbers, limits and positions from others. Positions count from 0.
use mathlib.Core.Path.{◌≡◌, refl}
use mathlib.Core.Bool.{false}
use mathlib.Core.List.{List, [], ◌∷◌, ◌++◌}
use Rattle.std.specs.Prelude.{None, Some}
use Prim.Native.Nat.{ℕ, zero, suc, ◌^◌}
use lib.ListN.{length}
use Rattle.rules.specs.Causes.{Result, Ok, and_then}
use Rattle.rules.specs.Items.{LogQueue, Append, Rewrite, Content, LogItem, Batch, entries, command, clean, compact, kv, put}
use Rattle.rules.specs.Table.{Table, empty_table, with_entries, rewritten}
use Rattle.rules.specs.TableQueries.{fetch_entries_to, scan}
use Rattle.rules.specs.Context.{Context}
use Rattle.rules.specs.Calls.{rewrite}
use Rattle.rules.specs.Queries.{answered, group_numbers}
use Rattle.rules.proofs.Opened.{opened}
use Rattle.rules.proofs.Terms.{several, item, key_put, mark, batch_of, batch, part, recovered, merged, empty_index, appended_to, held, groups_in, no, no_at}

-- n items, one for each group from g up
abbrev pub of_groups : ℕ → ℕ → Content → List LogItem
of_groups zero g c = []
of_groups (suc n) g c = item g c ∷ of_groups n (suc g) c

-- n times a content
abbrev pub times : ℕ → Content → List Content
times zero c = []
times (suc n) c = c ∷ times n c

-- n Puts, of the keys of one byte from b up
abbrev pub puts : ℕ → ℕ → List Content
puts zero b = []
puts (suc n) b = key_put (b ∷ []) [] Append 1 ∷ puts n (suc b)

-- an empty list of entries, and one of the entry at i
abbrev pub empty_list : Content
empty_list = entries []

abbrev pub one_entry : LogQueue → ℕ → Content
one_entry q i = entries (several q 1 i 1)

-- entries 1..64 of group 7
abbrev pub full : LogQueue → Batch
full q = batch q 1 (entries (several q 1 1 32) ∷ entries (several q 1 33 32) ∷ [])

-- a Begin of group g in file 1 with n items
abbrev pub begins : ℕ → ℕ → Batch
begins g n = batch_of Rewrite 1 (item g (mark 0) ∷ same n)
  where
    same : ℕ → List LogItem
    same zero = []
    same (suc k) = item g empty_list ∷ same k

-- a Begin of one item for each of n groups from g up
abbrev pub begin_of_each : ℕ → ℕ → List Batch
begin_of_each zero g = []
begin_of_each (suc n) g = begins g 1 ∷ begin_of_each n (suc g)

abbrev pub count_of : Result Context → Result ℕ
count_of r = and_then (held r) (λ is. Ok (length is))

abbrev pub live : Table
live = with_entries (several Append 1 5 4) empty_table

-- Begins of groups 1 and 2 with 31 items each
abbrev pub sixty_two : List Batch
sixty_two = begins 1 31 ∷ begins 2 31 ∷ []

pub record LimitExamples : Type 0 where
  -- numbers: 33 items, a Put without value, a target of 2^63, a Rewrite entry in Append replay, a Compact in a live rewrite
  pub number-2 : recovered Append (batch Append 1 (times 33 empty_list) ∷ []) ≡ no_at 2 32
  pub number-3 : recovered Append (batch Append 1 (kv [] (put None None) ∷ []) ∷ []) ≡ no_at 3 0
  pub number-4 : recovered Append (batch Append 1 (command (compact (2 ^ 63)) ∷ []) ∷ []) ≡ no_at 4 0
  pub number-5 : recovered Append (batch Append 1 (one_entry Rewrite 1 ∷ []) ∷ []) ≡ no_at 5 0
  pub number-6 : and_then empty_index (rewrite None (batch Rewrite 1 (command (compact 1) ∷ []))) ≡ no_at 6 0
  -- a mark of status 3
  pub number-7 : recovered Rewrite (part 3 1 1 ∷ []) ≡ no_at 7 0
  -- the least number of 2 to 7, then the first item that meets it, before anything that depends on what is held
  pub least-number : recovered Append (batch Append 1 (one_entry Rewrite 1 ∷ empty_list ∷ kv [] (put None None) ∷ []) ∷ []) ≡ no_at 3 2
  pub first-item : recovered Append (batch Append 1 (empty_list ∷ kv [] (put None None) ∷ kv [] (put None None) ∷ []) ∷ []) ≡ no_at 3 1
  pub before-held : recovered Append (batch Append 1 (one_entry Append 1 ∷ []) ∷ batch Append 1 (one_entry Append 9 ∷ command (compact (2 ^ 63)) ∷ []) ∷ []) ≡ no_at 4 1
  -- a scan of count 0; 5..8 held: a fetch of [4,6) and of [8,10), a rewrite of 7..8; an answer of one in a list of none
  pub number-10 : scan None None false 0 empty_table ≡ no 10
  pub number-11 : fetch_entries_to 4 6 None live ≡ no 11
  pub number-12 : fetch_entries_to 8 10 None live ≡ no 12
  pub number-15 : rewritten (Some 9) (several Rewrite 1 7 2) live ≡ no 15
  pub number-19 : answered {A = ℕ} [] (Ok (1 ∷ [])) ≡ no 19
  -- groups: eight, and a ninth
  pub eight-groups : groups_in (recovered Append (batch_of Append 1 (of_groups 8 1 empty_list) ∷ [])) ≡ Ok (1 ∷ 2 ∷ 3 ∷ 4 ∷ 5 ∷ 6 ∷ 7 ∷ 8 ∷ [])
  pub nine-groups : recovered Append (batch_of Append 1 (of_groups 9 1 empty_list) ∷ []) ≡ no_at 18 8
  -- entries: 64, and one more; keys: 16, and one more
  pub full-entries : count_of (recovered Append (full Append ∷ [])) ≡ Ok 64
  pub more-entries : recovered Append (full Append ∷ batch Append 1 (one_entry Append 65 ∷ []) ∷ []) ≡ no_at 18 0
  pub full-keys : groups_in (recovered Append (batch Append 1 (puts 16 1) ∷ [])) ≡ Ok (7 ∷ [])
  pub more-keys : recovered Append (batch Append 1 (puts 17 1) ∷ []) ≡ no_at 18 16
  -- tombstones: 64 Compacts, and one more; cleaned numbers: 64 live Cleans, and one more
  pub full-tombstones : groups_in (recovered Append (batch Append 1 (times 32 (command (compact 1))) ∷ batch Append 1 (times 32 (command (compact 1))) ∷ [])) ≡ Ok (7 ∷ [])
  pub more-tombstones :
      recovered Append (batch Append 1 (times 32 (command (compact 1))) ∷ batch Append 1 (times 32 (command (compact 1))) ∷ batch Append 1 (command (compact 1) ∷ []) ∷ [])
      ≡ no_at 18 0
  pub full-cleaned : and_then (appended_to empty_index (batch Append 1 (times 32 (command clean)) ∷ batch Append 1 (times 32 (command clean)) ∷ [])) (λ c. Ok (length c.cleaned)) ≡ Ok 64
  pub more-cleaned :
      appended_to empty_index (batch Append 1 (times 32 (command clean)) ∷ batch Append 1 (times 32 (command clean)) ∷ batch Append 1 (command clean ∷ []) ∷ [])
      ≡ no_at 18 0
  -- waiting parts: of eight groups, and of a ninth; of 64 items, of which the mark is none, and of 65; of 128 entries, and of 129
  pub nine-waiting : recovered Rewrite (begin_of_each 8 1 ++ (batch_of Rewrite 1 (item 9 empty_list ∷ item 9 (mark 0) ∷ []) ∷ [])) ≡ no_at 18 1
  pub full-waiting : groups_in (recovered Rewrite (sixty_two ++ (begins 3 2 ∷ []))) ≡ Ok []
  pub more-waiting : recovered Rewrite (sixty_two ++ (begins 3 3 ∷ [])) ≡ no_at 18 0
  pub full-waiting-entries : groups_in (recovered Rewrite (batch Rewrite 1 (mark 0 ∷ times 4 (entries (several Rewrite 1 1 32))) ∷ [])) ≡ Ok []
  pub more-waiting-entries :
      recovered Rewrite (batch Rewrite 1 (mark 0 ∷ times 4 (entries (several Rewrite 1 1 32))) ∷ batch_of Rewrite 1 (item 8 (mark 0) ∷ item 8 (one_entry Rewrite 1) ∷ []) ∷ [])
      ≡ no_at 18 0
  -- what does not wait: a part that a Begin replaces, and the items of an End that finishes one
  pub replaced-leaves : groups_in (recovered Rewrite (sixty_two ++ (begins 1 31 ∷ []))) ≡ Ok []
  pub finishing-goes : groups_in (recovered Rewrite (sixty_two ++ (batch_of Rewrite 1 (item 1 (mark 2) ∷ item 1 empty_list ∷ item 1 empty_list ∷ item 1 empty_list ∷ []) ∷ []))) ≡ Ok (1 ∷ [])
  -- a group whose part was finished waits no more: a ninth takes its place
  pub place-again : groups_in (recovered Rewrite (begin_of_each 8 1 ++ (batch_of Rewrite 1 (item 1 (mark 2) ∷ []) ∷ begins 9 1 ∷ []))) ≡ Ok (1 ∷ [])
  -- a merge may pass a limit on its way: 65 entries are held before the newer Compact is replayed
  pub merge-passes :
      count_of (merged (recovered Rewrite (full Rewrite ∷ batch Rewrite 1 (mark 0 ∷ []) ∷ [])) (recovered Rewrite (batch Rewrite 2 (command (compact 2) ∷ []) ∷ part 2 2 65 ∷ [])))
      ≡ Ok 64
  -- and is refused by its end state, without a position
  pub merge-limit : merged (recovered Append (batch_of Append 1 (of_groups 8 1 empty_list) ∷ [])) (recovered Append (batch_of Append 1 (of_groups 1 9 empty_list) ∷ [])) ≡ no 18
  -- positions of an 18: in an item of the part that waited it is the mark's, in an item of the End batch the item's own
  pub waited-at-mark : recovered Rewrite (full Rewrite ∷ part 0 1 65 ∷ batch Rewrite 2 (empty_list ∷ mark 2 ∷ []) ∷ []) ≡ no_at 18 1
  pub own-place : recovered Rewrite (full Rewrite ∷ batch Rewrite 1 (mark 0 ∷ []) ∷ batch Rewrite 2 (mark 2 ∷ empty_list ∷ one_entry Rewrite 65 ∷ []) ∷ []) ≡ no_at 18 2
  -- a ninth group that the span makes, after a Clean that needs no place: the mark's
  pub span-at-mark :
      recovered Rewrite (batch_of Rewrite 1 (of_groups 8 1 empty_list) ∷ batch_of Rewrite 1 (item 9 (mark 0) ∷ []) ∷ batch_of Rewrite 2 (item 9 (command clean) ∷ item 9 (mark 2) ∷ []) ∷ [])
      ≡ no_at 18 1

pub limit-examples : LimitExamples
unfolding opened
limit-examples =
    record {
      number-2 = refl;
      number-3 = refl;
      number-4 = refl;
      number-5 = refl;
      number-6 = refl;
      number-7 = refl;
      least-number = refl;
      first-item = refl;
      before-held = refl;
      number-10 = refl;
      number-11 = refl;
      number-12 = refl;
      number-15 = refl;
      number-19 = refl;
      eight-groups = refl;
      nine-groups = refl;
      full-entries = refl;
      more-entries = refl;
      full-keys = refl;
      more-keys = refl;
      full-tombstones = refl;
      more-tombstones = refl;
      full-cleaned = refl;
      more-cleaned = refl;
      nine-waiting = refl;
      full-waiting = refl;
      more-waiting = refl;
      full-waiting-entries = refl;
      more-waiting-entries = refl;
      replaced-leaves = refl;
      finishing-goes = refl;
      place-again = refl;
      merge-passes = refl;
      merge-limit = refl;
      waited-at-mark = refl;
      own-place = refl;
      span-at-mark = refl;
    }
