-- Each way through the end of the work on a group. Assumes nothing.
use mathlib.Core.Bool.{true, false, ◌&&◌}
use mathlib.Core.List.{List}
use Rattle.std.specs.Prelude.{Some}
use mathlib.Core.Path.{◌≡◌, refl}
use Prim.Native.Nat.{ℕ, ◌≤◌, ◌<◌}
use native.Mathlib.Omega.{arith}
use lib.Dec.{leb}
use lib.ListN.{length, get_or}
use borrow.Author.Tests.{le-leb, lt-leb}
use Rattle.rules.specs.Causes.{ByCause, Ok, and_then}
use Rattle.rules.specs.Table.{Span, Table, made, spanned}
use Rattle.rules.specs.Context.{table_fits}
use Rattle.rules_by_group.specs.Kept.{Within}
use Rattle.rules_by_group.specs.Group.{spanned_by}
use Rattle.kvs.specs.RowLaws as rows
use Rattle.memtable.specs.Views.{table_of}
use Rattle.memtable.specs.WindowLaws.{length-window}
use Rattle.stretch.specs.Stretch.{is_used, head_part, key_count, entry_rows_at, key_rows_at, table_at}
use Rattle.stretch.specs.StretchLaws.{length-entries, length-keys}
use Rattle.stretch.specs.Changes.{ChangedAt}
use Rattle.worktable.specs.declared.Mode.TheVariants as mode
use Rattle.worktable.specs.Work.{long_keys_at, long_entries, long_keys, work_in, Stands}
use Rattle.worktable.specs.Calls.{span_laid, Ends}
use Rattle.worktable.specs.WorkLaws.{work-some, made_some, step-rule, step-stands}
use Rattle.worktable.specs.LayLaws.{ends, within_of, span-beside, room-beside}

-- how many entries and keys a table has
count_entries : (p b : List ℕ) → length (table_at long_keys_at p b).entries ≡ get_or p 3 0
unfolding table_at table_of head_part
count_entries p b = length-window (head_part p).first_index (head_part p).len (entry_rows_at long_keys_at p)

count-keys : (p b : List ℕ) → length (table_at long_keys_at p b).keys ≡ get_or p 8 0
unfolding table_at table_of key_count
count-keys p b = rows.length-keys (key_count p) (key_rows_at long_keys_at p) b

-- ---- `set_span`

own-few : (p b : List ℕ) → Stands (table_at long_keys_at p b) p b → (get_or p 3 0 ≤ long_entries) × (get_or p 8 0 ≤ long_keys)
unfolding head_part key_count
own-few p b s =
    let l = s.numbers-are in
    let e = length-entries long_keys_at p (omega arith) (omega arith) in
    let k = length-keys long_keys_at p (omega arith) in
    let r = s.wf.numbers.entries.room in
    let f = s.wf.keys.rows_fit in
    (omega (arith, l, e, r), omega (arith, l, k, f))

own_room : (t : Table) (p b : List ℕ) → Stands t p b → Within long_entries long_keys (Some t)
own_room t p b s =
    let c = own-few p b (record { numbers-are = s.numbers-are; bytes-are = s.bytes-are; used = s.used; table = refl; wf = s.wf }) in
    let e = count_entries p b in
    let k = count-keys p b in
    rw (← s.table) (within_of (table_at long_keys_at p b) (omega (arith, c, e)) (omega (arith, c, k)))

pub span_set : (s : Span) (t : Table) (p b : List ℕ) → Stands t p b → (r : ByCause (Unit {0})) (p' : List ℕ) → ChangedAt long_keys_at (spanned s) p b r p' b → length p' ≡ length p → Ends (and_then (spanned s t) (λ u. Ok (Some u))) r p' b
span_set s t p b st r p' c k =
    let few : (u : Table) → spanned s t ≡ Ok u → Within long_entries long_keys (Some u) =
    λ u e. room-beside t u (own_room t p b st) (span-beside mode.Rewrite (Some s) t u (unfold span_laid spanned_by in e)) in
    ends (spanned s t) r p' b
    (record { rule = step-rule t p b st (spanned s) r p' b c k refl few; stands = step-stands t p b st (spanned s) r p' b c k refl few })

-- ---- `fits`

fits-is : (p b : List ℕ) → is_used p ≡ true → table_fits (made (work_in p b)) ≡ (leb (get_or p 3 0) 64 && leb (get_or p 8 0) 16)
unfolding table_fits
fits-is p b u =
    rw (work-some p b u, made_some (table_at long_keys_at p b), count_entries p b, count-keys p b)

pub too_large : (p b : List ℕ) → 64 < get_or p 3 0 → is_used p ≡ true → false ≡ table_fits (made (work_in p b))
too_large p b l u = rw (fits-is p b u, lt-leb (get_or p 3 0) 64 l)

pub fits_by : (p b : List ℕ) → get_or p 3 0 ≤ 64 → is_used p ≡ true → leb (get_or p 8 0) 16 ≡ table_fits (made (work_in p b))
fits_by p b l u = rw (fits-is p b u, le-leb (get_or p 3 0) 64 l)
