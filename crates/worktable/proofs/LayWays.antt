-- Each way through laying a newer table over: entries that are refused, all steps taken, and a table that is adopted. Assumes nothing.
use mathlib.Core.Bool.{true, false}
use mathlib.Core.List.{List, [], ◌∷◌}
use Rattle.std.specs.Prelude.{None, Some}
use mathlib.Core.Path.{◌≡◌, refl, sym, ap, ◌∙◌}
use Prim.Native.Nat.{ℕ, ◌+◌, ◌-◌, ◌*◌, ◌≤◌}
use native.Mathlib.Omega.{arith}
use lib.ListN.{length, get_or, set, take, drop}
use Rattle.cells.specs.Part.{part, put}
use Rattle.cells.specs.PartLaws.{length_part, length-put, set-put}
use Rattle.rules.specs.Causes.{Cause, ByCause, Ok, Err, and_then}
use Rattle.rules.specs.Table.{Table, uncounted}
use Rattle.rules_by_group.proofs.RoomLaws.{table-room}
use Rattle.rules_by_group.specs.Kept.{Within}
use Rattle.rules_by_group.specs.Group.{keys_over, span_over, spanned_by}
use Rattle.memtable.specs.Views.{table_of}
use Rattle.stretch.specs.Stretch.{is_used, head_part, key_count, is_counted, entry_rows_at, key_rows_at, table_at, WfAt, entry_rows, key_rows, table_in}
use Rattle.stretch.specs.Stretch as stretch
use Rattle.stretch.specs.StretchLaws.{Holds, own, with-counted, table_of_lem, wf_of, front-put}
use Rattle.stretch.specs.Changes.{keys_laid, outcome_as, ChangedAt}
use Rattle.stretch.specs.Laws.{table-short, wf_any, wf-fits, front-used, unchanged, copied-length, copied-bytes-length, copied-table, copied_wf, copied-used}
use Rattle.groups.specs.PlaceLaws.{part-short}
use Rattle.worktable.specs.declared.Mode.{Mode}
use Rattle.worktable.specs.declared.Mode.TheVariants as mode
use Rattle.worktable.specs.Work.{long_keys_at, long_numbers, long_bytes, long_entries, long_keys, Stands}
use Rattle.worktable.specs.Calls.{Becomes, entries_over, span_laid, table_over, TableEnds}
use Rattle.worktable.specs.WorkLaws.{few_of, step-rule, step-stands, step_to, becomes}
use Rattle.worktable.specs.LayLaws.{entries-grown, span-beside, room-entries, room-keys, room-beside}

-- a group's table is within the limits
pub newer_few : (q d : List ℕ) → stretch.Wf q d → (length (table_in q d).entries ≤ 64) × (length (table_in q d).keys ≤ 16)
newer_few q d w = few_of 64 16 (table_in q d) (table-room (table_in q d) (wf-fits q d w))

module _ (m : Mode) (newer t : Table) (p b : List ℕ) (s : Stands t p b) (few : (length newer.entries ≤ 64) × (length newer.keys ≤ 16)) (room : Within 320 144 (Some t))
    (r : ByCause (Unit {0})) (p₁ : List ℕ) (c : ChangedAt long_keys_at (entries_over m newer.entries) p b r p₁ b) (k : length p₁ ≡ length p) where
  entries-rule : outcome_as r (table_at long_keys_at p₁ b) ≡ entries_over m newer.entries t
  entries-rule =
      step-rule t p b s (entries_over m newer.entries) r p₁ b c k refl (λ u e. room-entries newer t u few room (entries-grown m newer.entries t u e))

  entries_stand : Stands (table_at long_keys_at p₁ b) p₁ b
  entries_stand =
      step-stands t p b s (entries_over m newer.entries) r p₁ b c k refl (λ u e. room-entries newer t u few room (entries-grown m newer.entries t u e))

  pub lay-refused : (n : Cause) → r ≡ Err n → TableEnds (table_over m newer t) r p₁ b
  unfolding table_over and_then
  lay-refused n e =
      let f : Err (record { cause = n; place = None }) ≡ entries_over m newer.entries t = ap (λ (x : ByCause (Unit {0})). outcome_as x (table_at long_keys_at p₁ b)) (sym e) ∙ entries-rule in
      record { rule = rw (e, ← f) refl; stands = entries_stand }

  module _ (e : r ≡ (Ok tt)) where
    abbrev after : Table
    after = table_at long_keys_at p₁ b

    after_is : entries_over m newer.entries t ≡ Ok after
    after_is = sym (ap (λ (x : ByCause (Unit {0})). outcome_as x (table_at long_keys_at p₁ b)) (sym e) ∙ entries-rule)

    keys-room : Within long_entries long_keys (Some (keys_over newer after))
    keys-room = room-keys newer t after few room (entries-grown m newer.entries t after after_is)

    -- the keys, and then the span
    module _ (r₂ : ByCause (Unit {0})) (p₂ b₂ : List ℕ) (c₂ : ChangedAt long_keys_at (keys_laid newer.keys) p₁ b r₂ p₂ b₂) (k₂ : length p₂ ≡ length p₁) (l₂ : length b₂ ≡ length b) where
      pub keys_stand : Stands (keys_over newer after) p₂ b₂
      unfolding keys_laid keys_over
      keys_stand =
          step_to after p₁ b entries_stand (keys_laid newer.keys) r₂ p₂ b₂ c₂ k₂ l₂ (λ u d. (let h : keys_over newer after ≡ u = cc in rw (← h) keys-room)) (keys_over newer after) refl

      pub lay_done : (r₃ : ByCause (Unit {0})) (p₃ : List ℕ) → ChangedAt long_keys_at (span_laid m newer.span) p₂ b₂ r₃ p₃ b₂ → length p₃ ≡ length p₂ → TableEnds (table_over m newer t) r₃ p₃ b₂
      unfolding table_over and_then
      lay_done r₃ p₃ c₃ k₃ =
          let fits : (u : Table) → span_laid m newer.span (keys_over newer after) ≡ Ok u → Within long_entries long_keys (Some u) =
          λ u d. room-beside (keys_over newer after) u keys-room (span-beside m newer.span (keys_over newer after) u d) in
          record {
            rule = step-rule (keys_over newer after) p₂ b₂ keys_stand (span_laid m newer.span) r₃ p₃ b₂ c₃ k₃ refl fits ∙ rw after_is refl;
            stands = step-stands (keys_over newer after) p₂ b₂ keys_stand (span_laid m newer.span) r₃ p₃ b₂ c₃ k₃ refl fits;
          }

-- ---- the span

pub span_none : (m : Mode) (p b : List ℕ) → WfAt long_keys_at p b → ChangedAt long_keys_at (span_laid m None) p b (Ok tt) p b
unfolding span_laid span_over spanned_by
span_none mode.Append p b w = unchanged long_keys_at p b w
span_none mode.Rewrite p b w = unchanged long_keys_at p b w
span_none mode.Join p b w = unchanged long_keys_at p b w

-- ---- a table that is adopted

-- a part that was lent, as long as it is
pub width : (a n : ℕ) → a + n - a ≡ n
width a n = omega arith

lent-part : (a n e : ℕ) (l : List ℕ) → e ≡ a + n → take (e - a) (drop a l) ≡ part a n l
unfolding part
lent-part a n e l h = rw (h, width a n)

pub lent_short : (a n e : ℕ) (l : List ℕ) → e ≡ a + n → length (take (e - a) (drop a l)) ≤ n
lent_short a n e l h = rw (lent-part a n e l h) (part-short a n l)

-- the numbers of entries and keys in a group's header
pub header_few : (q d : List ℕ) → stretch.Wf q d → (get_or q 3 0 ≤ 64) × (get_or q 8 0 ≤ 16)
unfolding head_part key_count entry_rows key_rows
header_few q d w =
    let l = w.numbers.numbers-are in
    let e : length (entry_rows q) ≡ 512 = length_part 10 512 q (omega arith) in
    let k : length (key_rows q) ≡ 64 = length_part 522 64 q (omega arith) in
    let r = w.numbers.entries.room in
    let s = w.keys.rows_fit in
    (omega (arith, e, r), omega (arith, k, s))

module _ (p b q d : List ℕ) (l : length p ≡ long_numbers) (m : length b ≡ long_bytes) (w : stretch.Wf q d) (u : is_used q ≡ true) where
  o : WfAt 522 q d
  o = wf_any q d w

  few : ((head_part q).len ≤ 64) × (key_count q ≤ 16)
  unfolding head_part key_count
  few = header_few q d w

  abbrev numbers : List ℕ
  numbers = put (put p 0 (part 0 (10 + (head_part q).len * 8) q)) long_keys_at (part 522 (key_count q * 4) q)

  abbrev bytes : List ℕ
  bytes = put b 0 (part 0 (key_count q * 64) d)

  a₁ : 10 + (head_part q).len * 8 ≤ long_keys_at
  a₁ = omega (arith, few)

  a₂ : long_keys_at + key_count q * 4 ≤ length p
  a₂ = omega (arith, few)

  a₃ : key_count q * 64 ≤ length b
  a₃ = omega (arith, few)

  whole : WfAt long_keys_at numbers bytes
  whole = copied_wf 522 long_keys_at q d p b o a₁ a₂ a₃

  numbers-are : length numbers ≡ long_numbers
  numbers-are = copied-length 522 long_keys_at q d p b o a₁ a₂ a₃ ∙ l

  holds : Holds long_keys_at (put numbers 9 (0 ∷ [])) (head_part numbers) (entry_rows_at long_keys_at numbers) (key_count numbers) (key_rows_at long_keys_at numbers) false
  holds =
      with-counted long_keys_at numbers (head_part numbers) (entry_rows_at long_keys_at numbers) (key_count numbers) (key_rows_at long_keys_at numbers) (is_counted numbers)
      (own long_keys_at numbers whole.numbers.from whole.numbers.to) 0

  table_is : table_at long_keys_at (put numbers 9 (0 ∷ [])) bytes ≡ uncounted (table_at long_keys_at numbers bytes)
  unfolding table_at table_of uncounted
  table_is =
      table_of_lem long_keys_at (put numbers 9 (0 ∷ [])) (head_part numbers) (entry_rows_at long_keys_at numbers) (key_count numbers) (key_rows_at long_keys_at numbers) false holds bytes

  stands : Stands (uncounted (table_in q d)) (put numbers 9 (0 ∷ [])) bytes
  stands =
      let n = numbers-are in
      record {
        numbers-are = length-put numbers 9 (0 ∷ []) (omega arith) ∙ n;
        bytes-are = copied-bytes-length 522 long_keys_at q d p b o a₁ a₂ a₃ ∙ m;
        used = front-used numbers (put numbers 9 (0 ∷ [])) (front-put numbers 9 (0 ∷ []) (omega arith) (omega arith)) ∙ copied-used 522 long_keys_at q d p b o a₁ a₂ a₃ ∙ u;
        table = table_is ∙ ap uncounted (copied-table 522 long_keys_at q d p b o a₁ a₂ a₃ ∙ table-short q d w.numbers.numbers-are);
        wf = wf_of long_keys_at (put numbers 9 (0 ∷ [])) (head_part numbers) (entry_rows_at long_keys_at numbers) (key_count numbers) (key_rows_at long_keys_at numbers) false holds bytes whole.numbers.entries whole.keys;
      }

  adopted-parts : (p₁ p₂ b₁ : List ℕ) → p₁ ≡ put p 0 (part 0 (10 + (head_part q).len * 8) q) → p₂ ≡ put p₁ long_keys_at (part 522 (key_count q * 4) q) → b₁ ≡ put b 0 (part 0 (key_count q * 64) d)
      → Becomes (Some (uncounted (table_in q d))) (set p₂ 9 0) b₁
  adopted-parts p₁ p₂ b₁ e f g =
      let n = numbers-are in
      rw (f, e, g, set-put numbers 9 0 (omega arith)) (becomes (uncounted (table_in q d)) (put numbers 9 (0 ∷ [])) bytes stands)

  pub adopted : (p₁ p₂ b₁ : List ℕ) → p₁ ≡ put p 0 (take (10 + get_or q 3 0 * 8 - 0) (drop 0 q)) → p₂ ≡ put p₁ 3082 (take (522 + get_or q 8 0 * 4 - 522) (drop 522 q)) → b₁ ≡ put b 0 (take (get_or q 8 0 * 64 - 0) (drop 0 d))
      → Becomes (Some (uncounted (table_in q d))) (set p₂ 9 0) b₁
  unfolding head_part key_count
  adopted p₁ p₂ b₁ e f g =
      let x = lent-part 0 (10 + (head_part q).len * 8) (10 + (head_part q).len * 8) q (omega arith) in
      let y = lent-part 522 (key_count q * 4) (522 + key_count q * 4) q refl in
      let z = lent-part 0 (key_count q * 64) (key_count q * 64) d (omega arith) in
      adopted-parts p₁ p₂ b₁ (e ∙ ap (λ (v : List ℕ). put p 0 v) x) (f ∙ ap (λ (v : List ℕ). put p₁ long_keys_at v) y) (g ∙ ap (λ (v : List ℕ). put b 0 v) z)
