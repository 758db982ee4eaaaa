-- Each way through `apply` and `remove`: a group that stands at a stretch, one that is made at a free stretch, and no stretch.
-- Assumes nothing.
use mathlib.Core.Bool.{false, cond, ◌&&◌, and-false, false≢true}
use mathlib.Core.List.{List}
use Rattle.std.specs.Prelude.{None, Some}
use mathlib.Core.Path.{◌≡◌, refl, sym, ◌∙◌}
use Prim.Native.Nat.{ℕ, ◌+◌, ◌-◌, ◌*◌, ◌≤◌, ◌<◌}
use native.Mathlib.Nat.{add-zero}
use native.Mathlib.Omega.{arith}
use lib.Dec.{leb}
use lib.ListN.{length, get_or, set, take, drop}
use lib.Seq.{set-set, set-get_or}
use borrow.Author.Tests.{le-leb, lt-leb}
use borrow.Rule.Slice.PartMut.{put_mid}
use Rattle.cells.specs.Part.{part, put}
use Rattle.cells.specs.PartLaws.{length_part, part-set-in, part-set-before, part-put_same, part-put-after, part-put-around, put-part, loan-put, loan-put-in}
use Rattle.maps.specs.Lists.{or_else}
use Rattle.maps.specs.Maps.{Map, lookup, insert, numbers}
use Rattle.maps.specs.MapLaws.{pair, remove_absent, length-insert-none, length-insert-some}
use Rattle.maps.specs.OrderLaws.{split, numbers_lawful}
use Rattle.maps.specs.Cells.{map_of}
use Rattle.maps.proofs.CellLaws.{map-store_at, distinct-store_at, map-store-free, distinct-store-free, map-free, distinct-free, length-free}
use Rattle.rules.specs.Causes.{Cause, ByCause, Result, Ok, Err, Refusal, refuse, and_then, LimitPassed}
use Rattle.rules.specs.Limits.{max_groups}
use Rattle.rules.specs.Table.{Table, empty_table, made}
use Rattle.rules.specs.Context.{table_fits}
use Rattle.stretch.specs.Layout.{stretch_width, bytes_width, keys_at}
use Rattle.stretch.specs.Stretch.{is_used, head_part, made_header, entry_rows, key_rows, table_in}
use Rattle.stretch.specs.Stretch as stretch
use Rattle.stretch.specs.Changes.{outcome_as, limited_table, Changed}
use Rattle.stretch.specs.Changes as any
use Rattle.stretch.specs.declared.Change.{Change}
use Rattle.stretch.specs.Reach.{entry_most, row_from, writes_keys, LeavesAt, Leaves}
use Rattle.stretch.specs.ReachLaws.{leaves-short}
use Rattle.stretch.specs.Laws.{wf_any, changed-short, changed-cell, make-cell}
use Rattle.cells.specs.declared.Slot.TheVariants.{At, Free, Full}
use Rattle.groups.specs.Area.{slots, numbers_in_use, bytes_in_use, stretch_at, bytes_at, cell_at, cells, groups_of, Wf, Only, AtSlot, FreeSlot, NoSlot, OnlySlot}
use Rattle.groups.specs.AreaLaws.{length-cells, get_or-cells, only_none, only-put, only-again, only-cells, only_wf}
use Rattle.groups.specs.Calls.{on_group, ChangedAt, ChangedGroup, RemovedGroup, RowsStay, LeavesStretch, ChangeLeaves, LeavesSlot, RemovalLeaves}
use Rattle.groups.specs.Laws.{at-cell, free-cell, cell_at_lem, freed, lookup-found, lookup-free, lookup-full, groups-fit, groups-full, groups-ascend}

-- ---- the rule of a group, by what its table's rule gives

same_ok : {A : Type 0} (a b : A) → ◌≡◌ {A = Result A} (Ok a) (Ok b) → a ≡ b
same_ok a b e = cc

not-ok : {A : Type 0} {c : Refusal} {a : A} → Err c ≡ Ok a → ⊥
not-ok e = let z : ◌≡◌ {A = ℕ} 0 1 = cc in omega arith

-- a refusal is the same of any type
same-refused : {A B : Type 0} {c d : Refusal} → ◌≡◌ {A = Result A} (Err c) (Err d) → ◌≡◌ {A = Result B} (Err c) (Err d)
same-refused e = cc

module _ (g : ℕ) (m : Map ℕ Table) where
  result_ok : (r : Result Table) (t : Table) → limited_table r ≡ Ok t → length (insert numbers g t m) ≤ slots → and_then r (λ u. cond (table_fits u && leb (length (insert numbers g u m)) max_groups) (Ok (insert numbers g u m)) (refuse LimitPassed)) ≡ Ok (insert numbers g t m)
  unfolding limited_table and_then
  result_ok (Ok u) t e l =
      split (table_fits u)
      (λ f. let h : u ≡ t = same_ok u t (rw f at e) in rw (h, rw h at f, le-leb _ 8 l))
      (λ f. absurd (not-ok (rw f at e)))
  result_ok (Err c) t e l = absurd (not-ok e)

  result-refused : (r : Result Table) (c : Refusal) → limited_table r ≡ Err c → and_then r (λ u. cond (table_fits u && leb (length (insert numbers g u m)) max_groups) (Ok (insert numbers g u m)) (refuse LimitPassed)) ≡ Err c
  unfolding limited_table and_then
  result-refused (Ok u) c e =
      split (table_fits u)
      (λ f. absurd (not-ok (sym (rw f at e))))
      (λ f. rw f (same-refused (rw f at e)))
  result-refused (Err d) c e = same-refused e

module _ (by : Table → Result Table) (g : ℕ) (m : Map ℕ Table) (t : Table) (e : made (lookup numbers g m) ≡ t) where
  on_ok : (u : Table) → limited_table (by t) ≡ Ok u → length (insert numbers g u m) ≤ slots → Ok (insert numbers g u m) ≡ on_group by g m
  unfolding on_group
  on_ok u f l = rw e (sym (result_ok g m (by t) u f l))

  on-refused : (c : Refusal) → limited_table (by t) ≡ Err c → Err c ≡ on_group by g m
  unfolding on_group
  on-refused c f = rw e (sym (result-refused g m (by t) c f))

  -- the table is taken, and there is one group too many
  on-full : (u : Table) → by t ≡ Ok u → slots < length (insert numbers g u m) → refuse LimitPassed ≡ on_group by g m
  unfolding on_group and_then
  on-full u f l = rw (e, f, lt-leb _ 8 l, and-false)

made_some : (t : Table) → made (Some t) ≡ t
unfolding made or_else
made_some t = refl

made_none : made None ≡ empty_table
unfolding made or_else
made_none = refl

-- ---- the change of a lent stretch

-- the width of stretch k, from its first place and the place behind it
width : (a w : ℕ) → a + w - a ≡ w
width a w = omega arith

-- the numbers and the bytes of stretch k that are lent
pub lent_numbers : (k : ℕ) (xs : List ℕ) → take (k * stretch_width + stretch_width - k * stretch_width) (drop (k * stretch_width) xs) ≡ stretch_at k xs
unfolding stretch_at part
lent_numbers k xs = rw (width (k * stretch_width) stretch_width)

pub lent-bytes : (k : ℕ) (bs : List ℕ) → take (k * bytes_width + bytes_width - k * bytes_width) (drop (k * bytes_width) bs) ≡ bytes_at k bs
unfolding bytes_at part
lent-bytes k bs = rw (width (k * bytes_width) bytes_width)

pub made_back : (k g : ℕ) (xs p : List ℕ) → k < slots → numbers_in_use ≤ length xs → p ≡ put (take (k * stretch_width + stretch_width - k * stretch_width) (drop (k * stretch_width) xs)) 0 (made_header g) → put_mid (k * stretch_width) (k * stretch_width + stretch_width - k * stretch_width) xs p ≡ put xs (k * stretch_width) (made_header g)
unfolding made_header
made_back k g xs p l h e =
    loan-put-in (k * stretch_width) (k * stretch_width + stretch_width - k * stretch_width) xs p 0 (k * stretch_width) (made_header g) e (add-zero (k * stretch_width)) (omega arith) (omega arith)

pub changed_back : (by : Table → Result Table) (k : ℕ) (xs bs : List ℕ) (r : ByCause (Unit {0})) (p b : List ℕ) → k < slots → numbers_in_use ≤ length xs → bytes_in_use ≤ length bs → length p ≡ length (take (k * stretch_width + stretch_width - k * stretch_width) (drop (k * stretch_width) xs)) → length b ≡ length (take (k * bytes_width + bytes_width - k * bytes_width) (drop (k * bytes_width) bs)) → any.ChangedAt keys_at by (take (k * stretch_width + stretch_width - k * stretch_width) (drop (k * stretch_width) xs)) (take (k * bytes_width + bytes_width - k * bytes_width) (drop (k * bytes_width) bs)) r p b → ChangedAt by k xs bs r (put_mid (k * stretch_width) (k * stretch_width + stretch_width - k * stretch_width) xs p) (put_mid (k * bytes_width) (k * bytes_width + bytes_width - k * bytes_width) bs b)
unfolding stretch_at bytes_at
changed_back by k xs bs r p b l x y kp kb c =
    let u : length (stretch_at k xs) ≡ stretch_width = length_part (k * stretch_width) stretch_width xs (omega arith) in
    let v : length (bytes_at k bs) ≡ bytes_width = length_part (k * bytes_width) bytes_width bs (omega arith) in
    let d : Changed by (stretch_at k xs) (bytes_at k bs) r p b = changed-short u v (rw (lent_numbers k xs) at kp) (rw (lent-bytes k bs) at kb) (rw (lent_numbers k xs, lent-bytes k bs) at c) in
    let m = d.wf.numbers.numbers-are in
    let n = d.wf.bytes-are in
    let s : stretch_at k (put xs (k * stretch_width) p) ≡ p = part-put_same stretch_width xs (k * stretch_width) p m (omega arith) in
    let t : bytes_at k (put bs (k * bytes_width) b) ≡ b = part-put_same bytes_width bs (k * bytes_width) b n (omega arith) in
    rw (loan-put (k * stretch_width) _ xs p (m ∙ sym (width (k * stretch_width) stretch_width)), loan-put (k * bytes_width) _ bs b (n ∙ sym (width (k * bytes_width) bytes_width)))
    (record {
      changed = rw (s, t) d;
      only = record { numbers = rw s; bytes = rw t };
    })

pub leaves_back : (c : Change) (k : ℕ) (xs bs p b : List ℕ) → k < slots → numbers_in_use ≤ length xs → bytes_in_use ≤ length bs → length p ≡ length (take (k * stretch_width + stretch_width - k * stretch_width) (drop (k * stretch_width) xs)) → length b ≡ length (take (k * bytes_width + bytes_width - k * bytes_width) (drop (k * bytes_width) bs)) → LeavesAt keys_at (row_from c (head_part (take (k * stretch_width + stretch_width - k * stretch_width) (drop (k * stretch_width) xs)))) (writes_keys c) (take (k * stretch_width + stretch_width - k * stretch_width) (drop (k * stretch_width) xs)) (take (k * bytes_width + bytes_width - k * bytes_width) (drop (k * bytes_width) bs)) p b → LeavesStretch c k xs bs (put_mid (k * stretch_width) (k * stretch_width + stretch_width - k * stretch_width) xs p) (put_mid (k * bytes_width) (k * bytes_width + bytes_width - k * bytes_width) bs b)
unfolding stretch_at bytes_at
leaves_back c k xs bs p b l x y kp kb v =
    let u : length (stretch_at k xs) ≡ stretch_width = length_part (k * stretch_width) stretch_width xs (omega arith) in
    let w : length (bytes_at k bs) ≡ bytes_width = length_part (k * bytes_width) bytes_width bs (omega arith) in
    let i = rw (lent_numbers k xs) at kp in
    let j = rw (lent-bytes k bs) at kb in
    let m : length p ≡ stretch_width = i ∙ u in
    let n : length b ≡ bytes_width = j ∙ w in
    rw (loan-put (k * stretch_width) _ xs p (m ∙ sym (width (k * stretch_width) stretch_width)), loan-put (k * bytes_width) _ bs b (n ∙ sym (width (k * bytes_width) bytes_width)), part-put_same stretch_width xs (k * stretch_width) p m (omega arith), part-put_same bytes_width bs (k * bytes_width) b n (omega arith))
    (leaves-short u i (rw (lent_numbers k xs, lent-bytes k bs) at v))

-- ---- what a change of the header leaves

header-leaves : (p q b : List ℕ) → entry_rows q ≡ entry_rows p → key_rows q ≡ key_rows p → Leaves entry_most false p b q b
header-leaves p q b e k = record { rows = rw e; keys = λ f. (k, refl) }

first_rows : (p : List ℕ) (v : ℕ) → entry_rows (set p 0 v) ≡ entry_rows p
unfolding entry_rows
first_rows p v = part-set-before 10 512 p 0 v (omega arith)

first-keys : (p : List ℕ) (v : ℕ) → key_rows (set p 0 v) ≡ key_rows p
unfolding key_rows
first-keys p v = part-set-before 522 64 p 0 v (omega arith)

made-rows : (p : List ℕ) (g : ℕ) → entry_rows (put p 0 (made_header g)) ≡ entry_rows p
unfolding entry_rows made_header
made-rows p g = part-put-after 10 512 p 0 (made_header g) (omega arith) (omega arith)

made-keys : (p : List ℕ) (g : ℕ) → key_rows (put p 0 (made_header g)) ≡ key_rows p
unfolding key_rows made_header
made-keys p g = part-put-after 522 64 p 0 (made_header g) (omega arith) (omega arith)

-- a stretch that was freed
freed-stretch : (k : ℕ) (xs : List ℕ) → stretch_at k (set xs (k * stretch_width) 0) ≡ set (stretch_at k xs) 0 0
unfolding stretch_at
freed-stretch k xs = rw (add-zero (k * stretch_width)) at (part-set-in (k * stretch_width) stretch_width xs 0 0 (omega arith))

freed-leaves : (k : ℕ) (xs bs : List ℕ) → Leaves entry_most false (stretch_at k xs) (bytes_at k bs) (stretch_at k (set xs (k * stretch_width) 0)) (bytes_at k bs)
freed-leaves k xs bs = rw (freed-stretch k xs) (header-leaves (stretch_at k xs) (set (stretch_at k xs) 0 0) (bytes_at k bs) (first_rows (stretch_at k xs) 0) (first-keys (stretch_at k xs) 0))

-- ---- a group that stands at stretch k

-- the table that the rule is used on
pub at_table : (g k : ℕ) (xs bs : List ℕ) → Wf xs bs → AtSlot g xs k → made (lookup numbers g (groups_of xs bs)) ≡ table_in (stretch_at k xs) (bytes_at k bs)
at_table g k xs bs w a = rw (lookup-found g k xs bs w a) (made_some _)

-- its cell
at_place : (g k : ℕ) (xs bs : List ℕ) → AtSlot g xs k → get_or (cells xs bs) k None ≡ Some (pair g (table_in (stretch_at k xs) (bytes_at k bs)))
at_place g k xs bs a = get_or-cells k xs bs a.inside ∙ at-cell g k xs bs a

in_cells : (k : ℕ) (xs bs : List ℕ) → k < slots → k < length (cells xs bs)
in_cells k xs bs l = rw (length-cells xs bs) l

module _ (by : Table → Result Table) (g k : ℕ) (xs bs : List ℕ) (r : ByCause (Unit {0})) (xs' bs' : List ℕ) (w : Wf xs bs) (a : AtSlot g xs k) (c : ChangedAt by k xs bs r xs' bs') where
  abbrev was : Table
  was = table_in (stretch_at k xs) (bytes_at k bs)

  abbrev is : Table
  is = table_in (stretch_at k xs') (bytes_at k bs')

  small : k < 16
  small = omega (arith, a.inside)

  cell-is : cell_at k xs' bs' ≡ Some (pair g is)
  unfolding cell_at
  cell-is = changed-cell c.changed a.used ∙ rw a.number

  cells_are : cells xs' bs' ≡ set (cells xs bs) k (Some (pair g is))
  cells_are = only-cells small w.numbers_fit w.bytes_fit c.only a.inside ∙ rw cell-is

  groups-are : groups_of xs' bs' ≡ insert numbers g is (groups_of xs bs)
  unfolding groups_of
  groups-are = rw cells_are (map-store_at (cells xs bs) k g is was w.distinct (in_cells k xs bs a.inside) (at_place g k xs bs a))

  wf-is : Wf xs' bs'
  wf-is =
      only_wf small w.numbers_fit w.bytes_fit c.only a.inside w (λ u. c.changed.wf)
      (rw cells_are (distinct-store_at (cells xs bs) k g is was w.distinct (in_cells k xs bs a.inside) (at_place g k xs bs a)))

  same_count : length (insert numbers g is (groups_of xs bs)) ≤ slots
  same_count =
      omega (arith, (groups-fit xs bs w).0, length-insert-some numbers numbers_lawful g is was (groups_of xs bs) (lookup-found g k xs bs w a) (groups-ascend xs bs))

  cells_stay : (n : Cause) → r ≡ Err n → cells xs' bs' ≡ cells xs bs
  cells_stay n e =
      let d = c.changed.left n e in cells_are ∙ rw (d.0, d.1) (rw (at_place g k xs bs a) at (set-get_or (cells xs bs) k None))

at-rule : (by : Table → Result Table) (g k : ℕ) (xs bs : List ℕ) (r : ByCause (Unit {0})) (xs' bs' : List ℕ) → Wf xs bs → AtSlot g xs k → ChangedAt by k xs bs r xs' bs' → outcome_as r (groups_of xs' bs') ≡ on_group by g (groups_of xs bs)
at-rule by g k xs bs (Ok _) xs' bs' w a c =
    rw (groups-are by g k xs bs (Ok tt) xs' bs' w a c)
    (on_ok by g (groups_of xs bs) _ (at_table g k xs bs w a) _ (sym c.changed.rule) (same_count by g k xs bs (Ok tt) xs' bs' w a c))
at-rule by g k xs bs (Err n) xs' bs' w a c =
    on-refused by g (groups_of xs bs) _ (at_table g k xs bs w a) _ (sym c.changed.rule)

pub at-changed : (by : Table → Result Table) (g k : ℕ) (xs bs : List ℕ) (r : ByCause (Unit {0})) (xs' bs' : List ℕ) → Wf xs bs → AtSlot g xs k → ChangedAt by k xs bs r xs' bs' → ChangedGroup by g (At k) xs bs r xs' bs'
unfolding OnlySlot
at-changed by g k xs bs r xs' bs' w a c =
    record {
      rule = at-rule by g k xs bs r xs' bs' w a c;
      left = cells_stay by g k xs bs r xs' bs' w a c;
      only = c.only;
      wf = wf-is by g k xs bs r xs' bs' w a c;
    }

pub at-leaves : (c : Change) (by : Table → Result Table) (k : ℕ) (xs bs : List ℕ) (r : ByCause (Unit {0})) (xs' bs' : List ℕ) → ChangedAt by k xs bs r xs' bs' → LeavesStretch c k xs bs xs' bs' → LeavesSlot c (At k) xs bs r xs' bs'
unfolding ChangeLeaves RowsStay
at-leaves c by k xs bs r xs' bs' a v =
    record {
      done = v;
      refused = λ n e. let d = a.changed.left n e in rw (d.0, d.1) (header-leaves (stretch_at k xs) (stretch_at k xs) (bytes_at k bs) refl refl);
    }

-- ---- a list of entries on a group that stands at stretch k

module _ (g k : ℕ) (xs bs : List ℕ) (w : Wf xs bs) (a : AtSlot g xs k) where
  -- the stretch that is lent is as it must be
  pub lent_wf : stretch.WfAt keys_at (take (k * stretch_width + stretch_width - k * stretch_width) (drop (k * stretch_width) xs)) (take (k * bytes_width + bytes_width - k * bytes_width) (drop (k * bytes_width) bs))
  lent_wf = rw (lent_numbers k xs, lent-bytes k bs) (wf_any _ _ (w.used k a.inside a.used))

  -- the bytes, of which none is changed, laid back
  bytes_back : put_mid (k * bytes_width) (k * bytes_width + bytes_width - k * bytes_width) bs (take (k * bytes_width + bytes_width - k * bytes_width) (drop (k * bytes_width) bs)) ≡ bs
  unfolding bytes_at
  bytes_back =
      let l = a.inside in
      let y = w.bytes_fit in
      rw (lent-bytes k bs)
      (loan-put (k * bytes_width) _ bs (bytes_at k bs) (length_part (k * bytes_width) bytes_width bs (omega arith) ∙ sym (width (k * bytes_width) bytes_width))
      ∙ put-part (k * bytes_width) bytes_width bs (omega arith))

  -- a change of the numbers alone, whatever the bytes are
  pub entries-changed : (by : Table → Result Table) (r : ByCause (Unit {0})) (p : List ℕ) → length p ≡ length (take (k * stretch_width + stretch_width - k * stretch_width) (drop (k * stretch_width) xs)) → ((b : List ℕ) → stretch.WfAt keys_at (take (k * stretch_width + stretch_width - k * stretch_width) (drop (k * stretch_width) xs)) b → any.ChangedAt keys_at by (take (k * stretch_width + stretch_width - k * stretch_width) (drop (k * stretch_width) xs)) b r p b) → ChangedGroup by g (At k) xs bs r (put_mid (k * stretch_width) (k * stretch_width + stretch_width - k * stretch_width) xs p) bs
  entries-changed by r p kept c =
      let b = take (k * bytes_width + bytes_width - k * bytes_width) (drop (k * bytes_width) bs) in
      at-changed by g k xs bs r _ bs w a
      (rw bytes_back at (changed_back by k xs bs r p b a.inside w.numbers_fit w.bytes_fit kept refl (c b lent_wf)))

-- ---- a group that is made at the free stretch k

module _ (g k : ℕ) (xs bs : List ℕ) (w : Wf xs bs) (f : FreeSlot g xs k) where
  abbrev with : List ℕ
  with = put xs (k * stretch_width) (made_header g)

  below : k < 16
  below = omega (arith, f.inside)

  made-only : Only k xs bs with bs
  unfolding made_header
  made-only = rw (add-zero (k * stretch_width)) at (only-put k 0 xs bs (made_header g) below w.numbers_fit w.bytes_fit (omega arith))

  made-stretch : stretch_at k with ≡ put (stretch_at k xs) 0 (made_header g)
  unfolding stretch_at made_header
  made-stretch =
      let b = f.inside in
      let p = w.numbers_fit in
      rw (add-zero (k * stretch_width)) at (part-put-around (k * stretch_width) stretch_width xs 0 (made_header g) (omega arith) (omega arith))

  made-cell : (cell_at k with bs ≡ Some (pair g empty_table)) × stretch.Wf (stretch_at k with) (bytes_at k bs)
  unfolding cell_at stretch_at bytes_at
  made-cell =
      let b = f.inside in
      let p = w.numbers_fit in
      let q = w.bytes_fit in
      rw made-stretch (make-cell g (stretch_at k xs) (bytes_at k bs) (length_part (k * stretch_width) stretch_width xs (omega arith)) (length_part (k * bytes_width) bytes_width bs (omega arith)))

  was_free : get_or (cells xs bs) k None ≡ None
  was_free = get_or-cells k xs bs f.inside ∙ free-cell k xs bs f.free

  was-absent : lookup numbers g (map_of (cells xs bs)) ≡ None
  unfolding groups_of
  was-absent = lookup-free g k xs bs f

  made_cells : cells with bs ≡ set (cells xs bs) k (Some (pair g empty_table))
  made_cells = only-cells below w.numbers_fit w.bytes_fit made-only f.inside ∙ rw made-cell.0

  pub made_wf : Wf with bs
  made_wf =
      only_wf below w.numbers_fit w.bytes_fit made-only f.inside w (λ u. made-cell.1)
      (rw made_cells (distinct-store-free (cells xs bs) k g empty_table w.distinct (in_cells k xs bs f.inside) was_free was-absent))

  pub made_at : AtSlot g with k
  made_at = (cell_at_lem g k empty_table with bs f.inside made-cell.0).0

  made_table : table_in (stretch_at k with) (bytes_at k bs) ≡ empty_table
  made_table = (cell_at_lem g k empty_table with bs f.inside made-cell.0).1

  free-table : made (lookup numbers g (groups_of xs bs)) ≡ empty_table
  free-table = rw (lookup-free g k xs bs f) made_none

  pub made_same : made (lookup numbers g (groups_of xs bs)) ≡ table_in (stretch_at k with) (bytes_at k bs)
  made_same = free-table ∙ sym made_table

  module _ (by : Table → Result Table) (r : ByCause (Unit {0})) (xs' bs' : List ℕ) (c : ChangedAt by k with bs r xs' bs') where
    all-only : Only k xs bs xs' bs'
    all-only = only-again k xs bs with bs xs' bs' below w.numbers_fit w.bytes_fit made-only c.only

    pub grown_wf : Wf xs' bs'
    grown_wf = wf-is by g k with bs r xs' bs' made_wf made_at c

    grown-cells : cells xs' bs' ≡ set (cells xs bs) k (Some (pair g (table_in (stretch_at k xs') (bytes_at k bs'))))
    grown-cells = cells_are by g k with bs r xs' bs' made_wf made_at c ∙ rw made_cells (set-set (cells xs bs) k _ _)

    grown-groups : groups_of xs' bs' ≡ insert numbers g (table_in (stretch_at k xs') (bytes_at k bs')) (groups_of xs bs)
    unfolding groups_of
    grown-groups = rw grown-cells (map-store-free (cells xs bs) k g _ (in_cells k xs bs f.inside) was_free was-absent)

    room : (t : Table) → length (insert numbers g t (groups_of xs bs)) ≤ slots
    unfolding groups_of
    room t =
        omega (arith, length-insert-none numbers numbers_lawful g t (map_of (cells xs bs)) was-absent, length-free (cells xs bs) k (in_cells k xs bs f.inside) was_free, length-cells xs bs)

    -- the stretch is free again
    abbrev without : List ℕ
    without = set xs' (k * stretch_width) 0

    gone : (is_used (stretch_at k without) ≡ false) × Only k xs' bs' without bs'
    gone = freed k xs' bs' f.inside grown_wf.numbers_fit grown_wf.bytes_fit

    gone-cells : cells without bs' ≡ cells xs bs
    gone-cells =
        only-cells below grown_wf.numbers_fit grown_wf.bytes_fit gone.1 f.inside
        ∙ rw (free-cell k without bs' gone.0, grown-cells, set-set (cells xs bs) k (Some (pair g (table_in (stretch_at k xs') (bytes_at k bs')))) None)
        (rw was_free at (set-get_or (cells xs bs) k None))

    gone_wf : Wf without bs'
    gone_wf =
        only_wf below grown_wf.numbers_fit grown_wf.bytes_fit gone.1 f.inside grown_wf
        (λ u. absurd (false≢true (sym gone.0 ∙ u)))
        (rw gone-cells w.distinct)

    gone-only : Only k xs bs without bs'
    gone-only = only-again k xs bs xs' bs' without bs' below w.numbers_fit w.bytes_fit all-only gone.1

  pub made-done : (by : Table → Result Table) (xs' bs' : List ℕ) → ChangedAt by k with bs (Ok tt) xs' bs' → ChangedGroup by g (Free k) xs bs (Ok tt) xs' bs'
  unfolding OnlySlot
  made-done by xs' bs' c =
      record {
        rule =
            rw (grown-groups by (Ok tt) xs' bs' c)
            (on_ok by g (groups_of xs bs) empty_table free-table _ (rw made_table at (sym c.changed.rule)) (room by (Ok tt) xs' bs' c _));
        left = λ n e. let z : ◌≡◌ {A = ℕ} 0 1 = cc in absurd (omega arith);
        only = all-only by (Ok tt) xs' bs' c;
        wf = grown_wf by (Ok tt) xs' bs' c;
      }

  pub made-refused : (by : Table → Result Table) (n : Cause) (xs' bs' : List ℕ) → ChangedAt by k with bs (Err n) xs' bs' → ChangedGroup by g (Free k) xs bs (Err n) (set xs' (k * stretch_width) 0) bs'
  unfolding OnlySlot
  made-refused by n xs' bs' c =
      record {
        rule = on-refused by g (groups_of xs bs) empty_table free-table _ (rw made_table at (sym c.changed.rule));
        left = λ m e. gone-cells by (Err n) xs' bs' c;
        only = gone-only by (Err n) xs' bs' c;
        wf = gone_wf by (Err n) xs' bs' c;
      }

  pub made-done-leaves : (c : Change) (xs' bs' : List ℕ) → LeavesSlot c (Free k) xs bs (Ok tt) xs' bs'
  unfolding ChangeLeaves
  made-done-leaves c xs' bs' = record { done = tt; refused = λ n e. (let z : ◌≡◌ {A = ℕ} 0 1 = cc in absurd (omega arith)) }

  pub made-refused-leaves : (c : Change) (by : Table → Result Table) (n : Cause) (xs' bs' : List ℕ) → ChangedAt by k with bs (Err n) xs' bs' → LeavesSlot c (Free k) xs bs (Err n) (set xs' (k * stretch_width) 0) bs'
  unfolding ChangeLeaves RowsStay
  made-refused-leaves c by n xs' bs' a =
      let d = a.changed.left n refl in
      let p = stretch_at k xs in
      record {
        done = tt;
        refused = λ m e.
            rw (freed-stretch k xs', d.0, d.1, made-stretch)
            (header-leaves p (set (put p 0 (made_header g)) 0 0) (bytes_at k bs)
            (first_rows (put p 0 (made_header g)) 0 ∙ made-rows p g)
            (first-keys (put p 0 (made_header g)) 0 ∙ made-keys p g));
      }

-- ---- no stretch is free

pub full-leaves : (c : Change) (r : ByCause (Unit {0})) (xs bs : List ℕ) → LeavesSlot c Full xs bs r xs bs
unfolding ChangeLeaves RowsStay
full-leaves c r xs bs = record { done = tt; refused = λ n e. tt }

pub full-table : (g : ℕ) (xs bs : List ℕ) → NoSlot g xs → made (lookup numbers g (groups_of xs bs)) ≡ empty_table
full-table g xs bs f = rw (lookup-full g xs bs f) made_none

pub full-refused : (by : Table → Result Table) (g : ℕ) (xs bs : List ℕ) → Wf xs bs → NoSlot g xs → (t : Table) × (by empty_table ≡ Ok t) → ChangedGroup by g Full xs bs (Err LimitPassed) xs bs
unfolding OnlySlot
full-refused by g xs bs w f t =
    record {
      rule =
          on-full by g (groups_of xs bs) empty_table (full-table g xs bs f) t.0 t.1
          (omega (arith, length-insert-none numbers numbers_lawful g t.0 (groups_of xs bs) (lookup-full g xs bs f), groups-full g xs bs w f));
      left = λ n e. refl;
      only = (refl, refl);
      wf = w;
    }

-- ---- a group is removed

pub at-removed : (g k : ℕ) (xs bs : List ℕ) → Wf xs bs → AtSlot g xs k → RemovedGroup g (At k) xs bs (set xs (k * stretch_width) 0)
unfolding OnlySlot RemovalLeaves groups_of
at-removed g k xs bs w a =
    let b : k < 16 = omega (arith, a.inside) in
    let d = freed k xs bs a.inside w.numbers_fit w.bytes_fit in
    let l = in_cells k xs bs a.inside in
    let h = at_place g k xs bs a in
    let e : cells (set xs (k * stretch_width) 0) bs ≡ set (cells xs bs) k None = only-cells b w.numbers_fit w.bytes_fit d.1 a.inside ∙ rw (free-cell k (set xs (k * stretch_width) 0) bs d.0) in
    record {
      rule = rw e (map-free (cells xs bs) k g _ w.distinct l h);
      only = d.1;
      leaves = freed-leaves k xs bs;
      wf = only_wf b w.numbers_fit w.bytes_fit d.1 a.inside w (λ u. absurd (false≢true (sym d.0 ∙ u))) (rw e (distinct-free (cells xs bs) k g _ w.distinct l h));
    }

pub free-removed : (g k : ℕ) (xs bs : List ℕ) → Wf xs bs → FreeSlot g xs k → RemovedGroup g (Free k) xs bs xs
unfolding OnlySlot RemovalLeaves
free-removed g k xs bs w f =
    record {
      rule = sym (remove_absent numbers numbers_lawful g (groups_of xs bs) (lookup-free g k xs bs f));
      only = only_none k xs bs (omega (arith, f.inside)) w.numbers_fit w.bytes_fit;
      leaves = refl;
      wf = w;
    }

pub full-removed : (g : ℕ) (xs bs : List ℕ) → Wf xs bs → NoSlot g xs → RemovedGroup g Full xs bs xs
unfolding OnlySlot RemovalLeaves
full-removed g xs bs w f =
    record {
      rule = sym (remove_absent numbers numbers_lawful g (groups_of xs bs) (lookup-full g xs bs f));
      only = (refl, refl);
      leaves = refl;
      wf = w;
    }
