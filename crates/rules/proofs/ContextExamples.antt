-- Facts that tell 01's rules of waiting parts, merge, join, kinds and live writes from others.
use mathlib.Core.Path.{◌≡◌, refl}
use mathlib.Core.Bool.{Bool, true, false}
use mathlib.Core.List.{List, [], ◌∷◌, ◌++◌, map}
use Rattle.std.specs.Prelude.{Option, None, Some}
use Prim.Native.Nat.{ℕ}
use lib.ListN.{length}
use Rattle.maps.specs.Lists.{or_else}
use Rattle.maps.specs.Maps.{Map, lookup, numbers}
use Rattle.rules.specs.Limits.{reserved_key}
use Rattle.rules.specs.Causes.{Result, Ok, and_then, in_order}
use Rattle.rules.specs.Items.{LogQueue, Append, Rewrite, Content, LogItem, Batch, Status, begin, middle, end, entries, command, clean, compact, kv, put, del}
use Rattle.rules.specs.Table.{Span, Table}
use Rattle.rules.specs.TableQueries.{KeyValue, scan}
use Rattle.rules.specs.Context.{Part, Context, fresh}
use Rattle.rules.specs.Calls.{replay, merge, join, append, rewrite}
use Rattle.rules.specs.Queries.{in_group, answered, lent_after, is_empty, live_entries, take_cleaned, after_taking}
use Rattle.rules.proofs.Opened.{opened}
use Rattle.rules.proofs.Terms.{entry, several, item, key_put, mark, batch_of, batch, part, recovered, merged, joined, empty_index, appended_to, held, groups_in, no, no_at}
use Rattle.rules.proofs.Examples.{plain, value_at}
use Rattle.rules.proofs.LimitExamples.{empty_list, full}

-- ---- what a result has

-- a waiting part: its status (0 Begin, 1 Middle, 2 End), its files, the number of its items
abbrev pub status_number : Status → ℕ
status_number begin = 0
status_number middle = 1
status_number end = 2

abbrev pub part_numbers : Part → List ℕ
part_numbers p = status_number p.status ∷ p.start ∷ p.end ∷ length p.items ∷ []

-- the waiting parts of group 7, newest first
abbrev pub waits : Result Context → Result (List (List ℕ))
waits r = and_then r (λ c. Ok (or_else [] (λ ps. map part_numbers ps) (lookup numbers 7 c.waiting)))

abbrev pub span_numbers : Option Span → List ℕ
span_numbers None = []
span_numbers (Some s) = s.start ∷ s.end ∷ []

abbrev pub span_in : Result Context → Result (List ℕ)
span_in r = and_then r (λ c. in_group 7 (λ t. Ok (span_numbers t.span)) c)

abbrev pub tombstones_in : Result Context → Result (List LogItem)
tombstones_in r = and_then r (λ c. Ok c.tombstones)

abbrev pub cleaned_in : Result Context → Result (List ℕ)
cleaned_in r = and_then r (λ c. Ok c.cleaned)

-- the Append and the Rewrite live count
abbrev pub live_in : Result Context → Result (List ℕ)
live_in r = and_then r (λ c. Ok (live_entries Append c ∷ live_entries Rewrite c ∷ []))

-- ---- runs

-- a run of one batch of group 7 in file seq; a list of n entries from i up of file seq
abbrev pub one_run : LogQueue → ℕ → List Content → Result Context
one_run q seq cs = recovered q (batch q seq cs ∷ [])

abbrev pub list_of : LogQueue → ℕ → ℕ → ℕ → Content
list_of q seq i n = entries (several q seq i n)

-- a marked batch of no items
abbrev pub bare : ℕ → ℕ → Batch
bare b seq = batch Rewrite seq (mark b ∷ [])

-- a part of status s in file f and then one of status t in file g
abbrev pub pair : ℕ → ℕ → ℕ → ℕ → Result (List (List ℕ))
pair f g s t = waits (recovered Rewrite (part s f 1 ∷ part t g 2 ∷ []))

-- all pairs, by the first one's status and then the second one's
abbrev pub pairs : ℕ → ℕ → List (Result (List (List ℕ)))
pairs f g = pair f g 0 0 ∷ pair f g 0 1 ∷ pair f g 0 2 ∷ pair f g 1 0 ∷ pair f g 1 1 ∷ pair f g 1 2 ∷ pair f g 2 0 ∷ pair f g 2 1 ∷ pair f g 2 2 ∷ []

-- a group finished in files f and g
abbrev pub finished : ℕ → ℕ → List Batch
finished f g = part 0 f 1 ∷ part 2 g 2 ∷ []

-- an index that holds entry 1 of a Rewrite file
abbrev pub one_held : Result Context
one_held = joined (one_run Rewrite 1 (list_of Rewrite 1 1 1 ∷ [])) (Ok (fresh Append))

abbrev pub rewritten_by : Result Context → Batch → Result Context
rewritten_by r b = and_then r (rewrite None b)

-- the keys that a scan of the keys 1, 2 and 3, of one byte each, answers
abbrev pub scanned : Option (List ℕ) → Option (List ℕ) → Bool → ℕ → Result (List (List ℕ))
scanned from to backwards count =
    and_then (one_run Append 1 (key_put (1 ∷ []) [] Append 1 ∷ key_put (2 ∷ []) [] Append 1 ∷ key_put (3 ∷ []) [] Append 1 ∷ []))
    (λ c. and_then (in_group 7 (scan from to backwards count) c) (λ rows. Ok (map (λ (r : KeyValue). r.key) rows)))

-- a Put of "k" without value and file, and with a value v of one byte
abbrev pub bare_put : Content
bare_put = kv plain (put None None)

abbrev pub plain_put : LogQueue → ℕ → Content
plain_put q v = key_put plain (v ∷ []) q 1

pub record ContextExamples : Type 0 where
  -- cleaned numbers are of the Append side, and live calls keep no tombstones
  pub rewrite-cleans-nothing : cleaned_in (merged (one_run Rewrite 1 (command clean ∷ [])) (one_run Rewrite 2 (command clean ∷ []))) ≡ Ok []
  pub live-keeps-none : tombstones_in (appended_to empty_index (batch Append 1 (command (compact 1) ∷ []) ∷ [])) ≡ Ok []
  pub live-rewrite-keeps-none : tombstones_in (rewritten_by empty_index (batch Rewrite 1 (command clean ∷ []))) ≡ Ok []
  -- two parts in files 1 and 2: what waits; a Begin stands behind an End, and what an End finishes waits no more
  pub pairs-forward :
      pairs 1 2
      ≡ Ok ((0 ∷ 2 ∷ 2 ∷ 1 ∷ []) ∷ [])
      ∷ Ok ((0 ∷ 1 ∷ 2 ∷ 2 ∷ []) ∷ [])
      ∷ Ok []
      ∷ Ok ((0 ∷ 2 ∷ 2 ∷ 1 ∷ []) ∷ [])
      ∷ Ok ((1 ∷ 1 ∷ 2 ∷ 2 ∷ []) ∷ [])
      ∷ Ok ((2 ∷ 1 ∷ 2 ∷ 2 ∷ []) ∷ [])
      ∷ Ok ((0 ∷ 2 ∷ 2 ∷ 1 ∷ []) ∷ (2 ∷ 1 ∷ 1 ∷ 1 ∷ []) ∷ [])
      ∷ Ok ((2 ∷ 1 ∷ 1 ∷ 1 ∷ []) ∷ [])
      ∷ Ok ((2 ∷ 1 ∷ 1 ∷ 1 ∷ []) ∷ [])
      ∷ []
  -- in files 2 and 1: 8 only where parts join or finish
  pub pairs-back :
      pairs 2 1
      ≡ Ok ((0 ∷ 1 ∷ 1 ∷ 1 ∷ []) ∷ [])
      ∷ no 8
      ∷ no 8
      ∷ Ok ((0 ∷ 1 ∷ 1 ∷ 1 ∷ []) ∷ [])
      ∷ no 8
      ∷ no 8
      ∷ Ok ((0 ∷ 1 ∷ 1 ∷ 1 ∷ []) ∷ (2 ∷ 2 ∷ 2 ∷ 1 ∷ []) ∷ [])
      ∷ Ok ((2 ∷ 2 ∷ 2 ∷ 1 ∷ []) ∷ [])
      ∷ Ok ((2 ∷ 2 ∷ 2 ∷ 1 ∷ []) ∷ [])
      ∷ []
  -- equal files are no step back; a joined part ends with the file of its last part
  pub equal-files : held (recovered Rewrite (part 0 1 1 ∷ part 1 1 2 ∷ part 2 1 3 ∷ [])) ≡ Ok (1 ∷ 2 ∷ 3 ∷ [])
  pub joined_end : recovered Rewrite (part 0 1 1 ∷ part 1 3 2 ∷ part 1 2 3 ∷ []) ≡ no 8
  -- an End finishes the Begin that stands behind another End, which waits on
  pub behind-end : held (recovered Rewrite (part 2 1 1 ∷ part 0 2 2 ∷ part 2 3 3 ∷ [])) ≡ Ok (2 ∷ 3 ∷ [])
  pub end-waits-on : waits (recovered Rewrite (part 2 1 1 ∷ part 0 2 2 ∷ part 2 3 3 ∷ [])) ≡ Ok ((2 ∷ 1 ∷ 1 ∷ 1 ∷ []) ∷ [])
  -- the span is set after the items: a Clean leaves an empty group with it, and an 18 of an item comes before its 8
  pub clean-then-span : span_in (recovered Rewrite (batch Rewrite 1 (mark 0 ∷ command clean ∷ []) ∷ bare 2 2 ∷ [])) ≡ Ok (1 ∷ 2 ∷ [])
  pub items-then-span :
      recovered Rewrite (finished 1 3 ++ (batch Rewrite 3 (list_of Rewrite 3 3 32 ∷ list_of Rewrite 3 35 30 ∷ []) ∷ bare 0 2 ∷ part 2 2 65 ∷ []))
      ≡ no_at 18 1
  -- parts that hold no item make nothing; a skipped one is an item
  pub no_items : groups_in (recovered Rewrite (bare 0 1 ∷ bare 2 2 ∷ [])) ≡ Ok []
  pub skipped-item : span_in (recovered Rewrite (batch Rewrite 1 (mark 0 ∷ key_put reserved_key (0 ∷ 0 ∷ []) Rewrite 1 ∷ []) ∷ bare 2 2 ∷ [])) ≡ Ok (1 ∷ 2 ∷ [])
  -- a span that starts before the last one's end goes back, without a position; one that starts there does not
  pub span-back : recovered Rewrite (finished 1 3 ++ finished 2 4) ≡ no 8
  pub span-on : span_in (recovered Rewrite (finished 1 3 ++ finished 3 4)) ≡ Ok (3 ∷ 4 ∷ [])
  -- a finished part is replayed as Rewrite, a gap dropping all
  pub finished-gap : held (recovered Rewrite (batch Rewrite 1 (list_of Rewrite 1 1 3 ∷ []) ∷ part 0 2 10 ∷ part 2 3 11 ∷ [])) ≡ Ok (10 ∷ 11 ∷ [])
  -- parts in a merge: oldest first; a finished part's tombstones stand behind the newer ones
  pub oldest-first : held (merged (recovered Rewrite (part 0 1 1 ∷ [])) (recovered Rewrite (part 2 2 2 ∷ part 0 3 3 ∷ []))) ≡ Ok (1 ∷ 2 ∷ [])
  pub newest-waits : waits (merged (recovered Rewrite (part 0 1 1 ∷ [])) (recovered Rewrite (part 2 2 2 ∷ part 0 3 3 ∷ []))) ≡ Ok ((0 ∷ 3 ∷ 3 ∷ 1 ∷ []) ∷ [])
  pub finished-tombstones :
      tombstones_in (merged (one_run Rewrite 1 (mark 0 ∷ kv plain del ∷ [])) (recovered Rewrite (batch_of Rewrite 2 (item 8 (command clean) ∷ []) ∷ bare 2 2 ∷ [])))
      ≡ Ok (item 8 (command clean) ∷ item 7 (kv plain del) ∷ [])
  -- what the older parts finish comes before the newer tombstones
  pub parts-before-tombstones : held (merged (recovered Rewrite (part 0 1 1 ∷ [])) (recovered Rewrite (batch Rewrite 2 (command (compact 5) ∷ []) ∷ part 2 2 2 ∷ []))) ≡ Ok []
  -- a merge: newer tombstones stand behind the older ones; Append Cleans are kept as cleaned numbers; newer keys and spans replace
  pub newer-behind : tombstones_in (merged (one_run Append 1 (command (compact 1) ∷ [])) (one_run Append 2 (command clean ∷ []))) ≡ Ok (item 7 (command (compact 1)) ∷ item 7 (command clean) ∷ [])
  pub merge-cleans : cleaned_in (merged (one_run Append 1 (command clean ∷ [])) (recovered Append (batch_of Append 2 (item 8 (command clean) ∷ []) ∷ []))) ≡ Ok (7 ∷ 8 ∷ [])
  pub merge-key : value_at plain (merged (one_run Rewrite 1 (plain_put Rewrite 1 ∷ [])) (one_run Rewrite 1 (plain_put Rewrite 2 ∷ []))) ≡ Ok (Some (2 ∷ []))
  pub merge-span : span_in (merged (recovered Rewrite (finished 1 3)) (recovered Rewrite (finished 3 4))) ≡ Ok (3 ∷ 4 ∷ [])
  -- an Append merge: a newer list above last + 1 is 14, without a position
  pub merge-above : merged (one_run Append 1 (list_of Append 1 1 3 ∷ [])) (one_run Append 2 (list_of Append 2 5 1 ∷ [])) ≡ no 14
  -- a Rewrite merge: a gap drops all; spans that go back are 8
  pub merge-gap : held (merged (one_run Rewrite 1 (list_of Rewrite 1 1 3 ∷ [])) (one_run Rewrite 2 (list_of Rewrite 2 9 2 ∷ []))) ≡ Ok (9 ∷ 10 ∷ [])
  pub merge-span-back : merged (recovered Rewrite (finished 1 3)) (recovered Rewrite (finished 2 4)) ≡ no 8
  -- a join: a gap drops all; a group that the Append tombstones removed is adopted, and one that they made is counted
  pub join-gap : held (joined (one_run Rewrite 1 (list_of Rewrite 1 1 3 ∷ [])) (one_run Append 1 (list_of Append 1 9 2 ∷ []))) ≡ Ok (9 ∷ 10 ∷ [])
  pub join-cleaned : held (joined (one_run Rewrite 1 (list_of Rewrite 1 1 3 ∷ [])) (one_run Append 1 (command clean ∷ list_of Append 1 5 2 ∷ []))) ≡ Ok (5 ∷ 6 ∷ [])
  pub adopted-uncounted : live_in (joined (one_run Rewrite 1 (list_of Rewrite 1 1 3 ∷ [])) (one_run Append 1 (command clean ∷ list_of Append 1 5 2 ∷ []))) ≡ Ok (0 ∷ 0 ∷ [])
  pub made_counted : live_in (joined (Ok (fresh Rewrite)) (one_run Append 1 (command (compact 1) ∷ list_of Append 1 1 2 ∷ []))) ≡ Ok (2 ∷ 0 ∷ [])
  pub empty-counted : live_in (joined (one_run Rewrite 1 (empty_list ∷ [])) (one_run Append 1 (list_of Append 1 1 2 ∷ []))) ≡ Ok (2 ∷ 0 ∷ [])
  -- tombstones and waiting parts go; 18 by the end state, without a position; the Append value of a key is the newer one
  pub join-drops-tombstones : tombstones_in (joined (one_run Rewrite 1 (command (compact 1) ∷ [])) (one_run Append 1 (command (compact 1) ∷ []))) ≡ Ok []
  pub join-drops-waiting : waits (joined (recovered Rewrite (part 0 1 1 ∷ [])) (Ok (fresh Append))) ≡ Ok []
  pub join-limit : joined (recovered Rewrite (full Rewrite ∷ [])) (one_run Append 1 (list_of Append 1 65 1 ∷ [])) ≡ no 18
  pub join-key : value_at plain (joined (one_run Rewrite 1 (plain_put Rewrite 1 ∷ [])) (one_run Append 1 (plain_put Append 2 ∷ []))) ≡ Ok (Some (2 ∷ []))
  -- kinds: an index merged, a join of other than Rewrite with Append, a live call with a file of the other queue, or on a context,
  -- where it comes before 3
  pub index-into-append : merged (Ok (fresh Append)) empty_index ≡ no 1
  pub append-into-index : merged empty_index (Ok (fresh Append)) ≡ no 1
  pub append-with-append : joined (Ok (fresh Append)) (Ok (fresh Append)) ≡ no 1
  pub rewrite-with-rewrite : joined (Ok (fresh Rewrite)) (Ok (fresh Rewrite)) ≡ no 1
  pub index-with-append : joined empty_index (Ok (fresh Append)) ≡ no 1
  pub rewrite-with-index : joined (Ok (fresh Rewrite)) empty_index ≡ no 1
  pub append-of-rewrite-file : appended_to empty_index (batch Rewrite 1 [] ∷ []) ≡ no 1
  pub rewrite-of-append-file : rewritten_by empty_index (batch Append 1 []) ≡ no 1
  pub append-to-context : appended_to (Ok (fresh Append)) (batch Append 1 [] ∷ []) ≡ no 1
  pub kind-before-3 : appended_to (Ok (fresh Append)) (batch Append 1 (bare_put ∷ []) ∷ []) ≡ no 1
  -- live writes: a mark is skipped; Clean in a live rewrite leaves the group and makes an absent one; an append below the first is 13
  pub live-mark : held (appended_to empty_index (batch Append 1 (mark 0 ∷ list_of Append 1 1 1 ∷ []) ∷ [])) ≡ Ok (1 ∷ [])
  pub rewritten-clean-leaves : held (rewritten_by one_held (batch Rewrite 2 (command clean ∷ []))) ≡ Ok (1 ∷ [])
  pub rewritten-clean-makes : groups_in (rewritten_by empty_index (batch Rewrite 2 (command clean ∷ []))) ≡ Ok (7 ∷ [])
  pub live_below : appended_to (joined (Ok (fresh Rewrite)) (one_run Append 1 (list_of Append 1 5 4 ∷ []))) (batch Append 2 (list_of Append 2 3 1 ∷ []) ∷ []) ≡ no_at 13 0
  -- reserved keys meet none of 3 to 6: a Del in a live rewrite, a Put of an Append file in Rewrite replay
  pub reserved-del-rewritten : groups_in (rewritten_by empty_index (batch Rewrite 2 (kv reserved_key del ∷ []))) ≡ Ok []
  pub reserved-other-queue : groups_in (one_run Rewrite 1 (key_put reserved_key (0 ∷ 0 ∷ []) Append 1 ∷ [])) ≡ Ok []
  -- a later Put gives the value and the file
  pub put-again : value_at plain (one_run Rewrite 1 (plain_put Rewrite 1 ∷ plain_put Rewrite 2 ∷ [])) ≡ Ok (Some (2 ∷ []))
  pub put-over-rewrite : live_in (appended_to (joined (one_run Rewrite 1 (plain_put Rewrite 1 ∷ [])) (Ok (fresh Append))) (batch Append 1 (plain_put Append 2 ∷ []) ∷ [])) ≡ Ok (1 ∷ 0 ∷ [])
  -- a scan takes its start and leaves its end out, runs either way up to a count, and is empty where they are the same
  pub scan-bounds : scanned (Some (1 ∷ [])) (Some (3 ∷ [])) false 9 ≡ Ok ((1 ∷ []) ∷ (2 ∷ []) ∷ [])
  pub scan-back : scanned None (Some (3 ∷ [])) true 1 ≡ Ok ((2 ∷ []) ∷ [])
  pub scan-open : scanned (Some (2 ∷ [])) None false 9 ≡ Ok ((2 ∷ []) ∷ (3 ∷ []) ∷ [])
  pub scan-same : scanned (Some (2 ∷ [])) (Some (2 ∷ [])) false 9 ≡ Ok []
  pub scan-above : scanned (Some (2 ∷ [])) (Some (1 ∷ [])) false 9 ≡ no 10
  -- a list that is just long enough is taken
  pub list_full : answered {A = ℕ} (0 ∷ []) (Ok (5 ∷ [])) ≡ Ok (5 ∷ [])
  -- lent lists: the answer from the first place, and what stands behind it as it was; a refusal leaves all
  pub lent-answer : lent_after {A = ℕ} (0 ∷ 0 ∷ []) (Ok (5 ∷ [])) ≡ 5 ∷ 0 ∷ []
  pub lent-refused : lent_after {A = ℕ} (0 ∷ 0 ∷ []) (no 9) ≡ 0 ∷ 0 ∷ []
  -- 9 before 10; the cleaned numbers are handed out by an index alone, and once
  pub absent-first : in_group 7 (scan None None false 0) (fresh Append) ≡ no 9
  pub context-takes-none : and_then (one_run Append 1 (command clean ∷ [])) (take_cleaned []) ≡ no 1
  pub taken-once : and_then (appended_to empty_index (batch Append 1 (command clean ∷ []) ∷ [])) (λ c. take_cleaned [] (after_taking (take_cleaned (0 ∷ []) c) c)) ≡ Ok []
  pub refused-take-leaves : cleaned_in (and_then (appended_to empty_index (batch Append 1 (command clean ∷ []) ∷ [])) (λ c. Ok (after_taking (take_cleaned [] c) c))) ≡ Ok (7 ∷ [])
  -- an empty list makes its group, and so does a Compact; a reserved Del is a tombstone and makes none
  pub empty-makes : groups_in (one_run Append 1 (empty_list ∷ [])) ≡ Ok (7 ∷ [])
  pub not-empty : and_then (one_run Append 1 (empty_list ∷ [])) (λ c. Ok (is_empty c)) ≡ Ok false
  pub compact-makes : groups_in (one_run Append 1 (command (compact 1) ∷ [])) ≡ Ok (7 ∷ [])
  pub reserved-del-kept : tombstones_in (one_run Append 1 (kv reserved_key del ∷ [])) ≡ Ok (item 7 (kv reserved_key del) ∷ [])
  pub reserved-del-makes-none : groups_in (one_run Append 1 (kv reserved_key del ∷ [])) ≡ Ok []

pub context-examples : ContextExamples
unfolding opened
context-examples =
    record {
      rewrite-cleans-nothing = refl;
      live-keeps-none = refl;
      live-rewrite-keeps-none = refl;
      pairs-forward = refl;
      pairs-back = refl;
      equal-files = refl;
      joined_end = refl;
      behind-end = refl;
      end-waits-on = refl;
      clean-then-span = refl;
      items-then-span = refl;
      no_items = refl;
      skipped-item = refl;
      span-back = refl;
      span-on = refl;
      finished-gap = refl;
      oldest-first = refl;
      newest-waits = refl;
      finished-tombstones = refl;
      parts-before-tombstones = refl;
      newer-behind = refl;
      merge-cleans = refl;
      merge-key = refl;
      merge-span = refl;
      merge-above = refl;
      merge-gap = refl;
      merge-span-back = refl;
      join-gap = refl;
      join-cleaned = refl;
      adopted-uncounted = refl;
      made_counted = refl;
      empty-counted = refl;
      join-drops-tombstones = refl;
      join-drops-waiting = refl;
      join-limit = refl;
      join-key = refl;
      index-into-append = refl;
      append-into-index = refl;
      append-with-append = refl;
      rewrite-with-rewrite = refl;
      index-with-append = refl;
      rewrite-with-index = refl;
      append-of-rewrite-file = refl;
      rewrite-of-append-file = refl;
      append-to-context = refl;
      kind-before-3 = refl;
      live-mark = refl;
      rewritten-clean-leaves = refl;
      rewritten-clean-makes = refl;
      live_below = refl;
      reserved-del-rewritten = refl;
      reserved-other-queue = refl;
      put-again = refl;
      put-over-rewrite = refl;
      scan-bounds = refl;
      scan-back = refl;
      scan-open = refl;
      scan-same = refl;
      scan-above = refl;
      list_full = refl;
      lent-answer = refl;
      lent-refused = refl;
      absent-first = refl;
      context-takes-none = refl;
      taken-once = refl;
      refused-take-leaves = refl;
      empty-makes = refl;
      not-empty = refl;
      compact-makes = refl;
      reserved-del-kept = refl;
      reserved-del-makes-none = refl;
    }
