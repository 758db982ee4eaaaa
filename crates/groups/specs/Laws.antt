-- The laws of groups that a crate above cites: where a group stands and what is looked up, the limits, what lies beside and
-- behind a changed stretch, and what the stretches go back to. Assumes nothing.
use Rattle.std.specs.Prelude.{Bool, true, false, List, [], ◌≡◌, refl, ℕ, ◌+◌, ◌*◌, ◌%◌, ◌≤◌, ◌<◌, eqb, length, take, drop, get_or, set}
use Rattle.std.proofs.lemmas.Bool.{false≢true, eqb-false}
use Rattle.std.specs.Prelude.{None, Some}
use Rattle.std.proofs.lemmas.Option.{same_Some, none-some}
use Rattle.std.proofs.Common.{sym, ap, ◌∙◌, add-zero, arith, length-drop, eqb-true}
use Rattle.cells.specs.PartLaws.{get_or-part}
use Rattle.maps.specs.BoolLaws.{clash}
use Rattle.maps.specs.Lists.{every}
use Rattle.maps.specs.Maps.{lookup, numbers}
use Rattle.maps.specs.MapLaws.{pair, Ascending}
use Rattle.maps.specs.OrderLaws.{split, same_sym, numbers_lawful}
use Rattle.maps.specs.Cells.{Cell, map_of, holds, is_free_cell}
use Rattle.maps.proofs.CellLaws.{lookup_at, lookup_absent, map_of-ascending, length-le, length-full, every-map_of, all-free}
use Rattle.rules.specs.Context.{table_fits}
use Rattle.rules.specs.Table.{Table}
use Rattle.stretch.specs.Layout.{stretch_width}
use Rattle.stretch.specs.Stretch.{is_used, group_in, head_part, table_in}
use Rattle.stretch.specs.declared.Change.{Change}
use Rattle.stretch.specs.Reach.{entry_most, row_from, writes_keys, Leaves}
use Rattle.stretch.specs.Laws.{cell-used, cell_free, wf-fits}
use Rattle.cells.specs.declared.Slot.{Slot}
use Rattle.cells.specs.declared.Slot.TheVariants.{At, Free, Full}
use Rattle.groups.specs.Area.{slots, numbers_in_use, bytes_in_use, stretch_at, bytes_at, cell_at, cells, groups_of, Wf, Only, is_of, AtSlot, FreeSlot, NoSlot, Found, OnlySlot}
use Rattle.groups.specs.Calls.{RowsStay, ChangeLeaves, RemovalLeaves}
use Rattle.groups.specs.Undo.{live_numbers, live_bytes, mark_at, low_of, undone_cells, Undoable, Covers, ReadyFor, ReadyToGo}
use Rattle.groups.specs.AreaLaws.{length-cells, get_or-cells, Same, Alike, same_back, same-cells, same-groups, same_wf, same-found, same-stretch, same_bytes, front_fits, only_none, only_set, first-set, only-length, only-length-bytes, only-other, only-drop, only-drop-bytes}
use Rattle.groups.specs.UndoLaws.{by-mark, same-undone, same-undone_cells, Stays, same-stays, all_stay, left-stays}

-- ---- where a group stands

pub found_at_lem : (g k : ℕ) (xs : List ℕ) (r : Slot) → Found g xs r → r ≡ At k → AtSlot g xs k
unfolding Found
found_at_lem g k xs r f e = rw e at f

pub found-free : (g k : ℕ) (xs : List ℕ) (r : Slot) → Found g xs r → r ≡ Free k → FreeSlot g xs k
unfolding Found
found-free g k xs r f e = rw e at f

pub found-full : (g : ℕ) (xs : List ℕ) (r : Slot) → Found g xs r → r ≡ Full → NoSlot g xs
unfolding Found
found-full g xs r f e = rw e at f

-- the cells of a stretch that is used, that is of group g, and that is free
pub used-cell : (k : ℕ) (xs bs : List ℕ) → is_used (stretch_at k xs) ≡ true → cell_at k xs bs ≡ Some (pair (group_in (stretch_at k xs)) (table_in (stretch_at k xs) (bytes_at k bs)))
unfolding cell_at
used-cell k xs bs u = cell-used (stretch_at k xs) (bytes_at k bs) u

pub at-cell : (g k : ℕ) (xs bs : List ℕ) → AtSlot g xs k → cell_at k xs bs ≡ Some (pair g (table_in (stretch_at k xs) (bytes_at k bs)))
at-cell g k xs bs a = used-cell k xs bs a.used ∙ rw a.number

pub free-cell : (k : ℕ) (xs bs : List ℕ) → is_used (stretch_at k xs) ≡ false → cell_at k xs bs ≡ None
unfolding cell_at
free-cell k xs bs u = cell_free (stretch_at k xs) (bytes_at k bs) u

-- the cell says where its group stands and what its table is
pub cell_at_lem : (g k : ℕ) (t : Table) (xs bs : List ℕ) → k < slots → cell_at k xs bs ≡ Some (pair g t) → AtSlot g xs k × (table_in (stretch_at k xs) (bytes_at k bs) ≡ t)
cell_at_lem g k t xs bs l e =
    split (is_used (stretch_at k xs))
    (λ u.
    let q = same_Some _ (pair g t) (sym (used-cell k xs bs u) ∙ e) in
    (record { inside = l; used = u; number = ap (λ p. p.key) q }, ap (λ p. p.val) q))
    (λ u. absurd (none-some _ (sym (free-cell k xs bs u) ∙ e)))

-- a stretch whose first number is 0 is free
pub no_use : (k : ℕ) (xs : List ℕ) → get_or xs (k * stretch_width) 0 ≡ 0 → is_used (stretch_at k xs) ≡ false
unfolding is_used stretch_at
no_use k xs z = rw (get_or-part (k * stretch_width) stretch_width xs 0 0 (omega arith), add-zero (k * stretch_width), z)

-- ---- what is looked up

pub lookup-found : (g k : ℕ) (xs bs : List ℕ) → Wf xs bs → AtSlot g xs k → lookup numbers g (groups_of xs bs) ≡ Some (table_in (stretch_at k xs) (bytes_at k bs))
unfolding groups_of
lookup-found g k xs bs w a =
    lookup_at (cells xs bs) k g _ w.distinct (rw (length-cells xs bs) a.inside) (get_or-cells k xs bs a.inside ∙ at-cell g k xs bs a)

other-cell : (g j : ℕ) (xs bs : List ℕ) → is_of g (stretch_at j xs) ≡ false → holds g (cell_at j xs bs) ≡ false
unfolding is_of holds
other-cell g j xs bs n =
    split (is_used (stretch_at j xs))
    (λ u. rw (used-cell j xs bs u) (same_sym numbers numbers_lawful (group_in (stretch_at j xs)) g (rw u at n)))
    (λ u. rw (free-cell j xs bs u))

-- no stretch is that of group g
abbrev pub Absent : ℕ → List ℕ → Type 0
Absent g xs = (j : ℕ) → j < slots → is_of g (stretch_at j xs) ≡ false

pub lookup-none : (g : ℕ) (xs bs : List ℕ) → Absent g xs → lookup numbers g (groups_of xs bs) ≡ None
unfolding groups_of
lookup-none g xs bs n =
    lookup_absent (cells xs bs) g (λ i l. let h : i < slots = omega (arith, length-cells xs bs) in rw (get_or-cells i xs bs h) (other-cell g i xs bs (n i h)))

pub lookup-free : (g k : ℕ) (xs bs : List ℕ) → FreeSlot g xs k → lookup numbers g (groups_of xs bs) ≡ None
lookup-free g k xs bs f = lookup-none g xs bs f.absent

pub lookup-full : (g : ℕ) (xs bs : List ℕ) → NoSlot g xs → lookup numbers g (groups_of xs bs) ≡ None
lookup-full g xs bs f = lookup-none g xs bs f.absent

-- ---- the limits

pub groups-fit : (xs bs : List ℕ) → Wf xs bs → (length (groups_of xs bs) ≤ slots) × (every (λ p. table_fits p.val) (groups_of xs bs) ≡ true)
unfolding groups_of
groups-fit xs bs w = (
  omega (arith, length-le (cells xs bs), length-cells xs bs),
  every-map_of (λ p. table_fits p.val) (cells xs bs) (λ i p l e.
      let h : i < slots = omega (arith, length-cells xs bs) in
      let c = sym (get_or-cells i xs bs h) ∙ e in
      split (is_used (stretch_at i xs))
      (λ u. rw (← same_Some _ p (sym (used-cell i xs bs u) ∙ c)) (wf-fits (stretch_at i xs) (bytes_at i bs) (w.used i h u)))
      (λ u. absurd (none-some p (sym (free-cell i xs bs u) ∙ c)))),
)

pub groups-ascend : (xs bs : List ℕ) → Ascending numbers (groups_of xs bs)
unfolding groups_of
groups-ascend xs bs = map_of-ascending (cells xs bs)

-- no stretch is free: there are as many groups as there can be
pub groups-full : (g : ℕ) (xs bs : List ℕ) → Wf xs bs → NoSlot g xs → length (groups_of xs bs) ≡ slots
unfolding groups_of is_free_cell
groups-full g xs bs w f =
    length-full (cells xs bs) w.distinct (λ i l.
    let h : i < slots = omega (arith, length-cells xs bs) in rw (get_or-cells i xs bs h, used-cell i xs bs (f.full i h)))
    ∙ length-cells xs bs

-- no stretch is used: there are no groups
pub none-used : (xs bs : List ℕ) → numbers_in_use ≤ length xs → bytes_in_use ≤ length bs → ((k : ℕ) → k < slots → is_used (stretch_at k xs) ≡ false) → Wf xs bs × (groups_of xs bs ≡ [])
unfolding groups_of
none-used xs bs p q z =
    let f = all-free (cells xs bs) (λ i l. let h : i < slots = omega (arith, length-cells xs bs) in get_or-cells i xs bs h ∙ free-cell i xs bs (z i h)) in (
      record {
        numbers_fit = p;
        bytes_fit = q;
        used = λ k l u. absurd (false≢true (sym (z k l) ∙ u));
        distinct = f.1;
      },
      f.0,
    )

-- all stretches are free: there are no groups
pub fresh : (xs bs : List ℕ) → numbers_in_use ≤ length xs → bytes_in_use ≤ length bs → ((k : ℕ) → k < slots → get_or xs (k * stretch_width) 0 ≡ 0) → Wf xs bs × (groups_of xs bs ≡ [])
fresh xs bs p q z = none-used xs bs p q (λ k l. no_use k xs (z k l))

-- ---- the front of an area: numbers and bytes behind the stretches and the spare ones change nothing

module _ (xs bs ys ds : List ℕ) (p : take numbers_in_use xs ≡ take numbers_in_use ys) (q : take bytes_in_use bs ≡ take bytes_in_use ds) where
  front-alike : Alike 16 xs bs ys ds
  front-alike j l =
      record { numbers = same-stretch j numbers_in_use xs ys (omega arith) p; bytes = same_bytes j bytes_in_use bs ds (omega arith) q }

  pub front-cells : cells xs bs ≡ cells ys ds
  front-cells = same-cells (λ j l. front-alike j (omega arith))

  pub front-groups : groups_of xs bs ≡ groups_of ys ds
  front-groups = same-groups (λ j l. front-alike j (omega arith))

  pub front_wf : Wf xs bs → Wf ys ds
  front_wf w =
      same_wf (λ j l. front-alike j (omega arith)) w (front_fits numbers_in_use xs ys p w.numbers_fit) (front_fits bytes_in_use bs ds q w.bytes_fit)

  pub front-found : (g : ℕ) (slot : Slot) → Found g xs slot → Found g ys slot
  front-found g slot f = same-found g slot xs ys (λ j l. (front-alike j (omega arith)).numbers) f

  pub front-undone : undone_cells xs bs ≡ undone_cells ys ds
  front-undone =
      same-undone_cells xs bs ys ds (λ k l. same-undone k (front-alike k (omega arith)) (front-alike (slots + k) (omega arith)))

  pub front-undoable : Undoable xs bs → Undoable ys ds
  front-undoable u =
      (all_stay (λ k l. same-stays k l u (front-alike k (omega arith)) (front-alike (slots + k) (omega arith))) u).1

-- the map is that of the cells
pub cells-groups : (xs bs : List ℕ) (cs : List (Cell Table)) → cells xs bs ≡ cs → groups_of xs bs ≡ map_of cs
unfolding groups_of
cells-groups xs bs cs e = rw e

-- the cells depend on the stretches without the spare ones, and so does a search
pub live-cells : (xs bs xs' bs' : List ℕ) → take live_numbers xs' ≡ take live_numbers xs → take live_bytes bs' ≡ take live_bytes bs → cells xs' bs' ≡ cells xs bs
live-cells xs bs xs' bs' p q =
    same-cells (λ j l. record { numbers = same-stretch j live_numbers xs' xs (omega arith) p; bytes = same_bytes j live_bytes bs' bs (omega arith) q })

pub live-found : (g : ℕ) (slot : Slot) (xs xs' : List ℕ) → take live_numbers xs' ≡ take live_numbers xs → Found g xs slot → Found g xs' slot
live-found g slot xs xs' e f = same-found g slot xs xs' (λ j l. same-stretch j live_numbers xs xs' (omega arith) (sym e)) f

-- ---- what a changed stretch leaves

-- what lies behind the stretches and the spare ones is as it was
pub record Behind (xs bs xs' bs' : List ℕ) : Type 0 where
  pub numbers : drop numbers_in_use xs' ≡ drop numbers_in_use xs
  pub bytes : drop bytes_in_use bs' ≡ drop bytes_in_use bs
  pub numbers-length : length xs' ≡ length xs
  pub bytes-length : length bs' ≡ length bs

-- what follows the front has its length, and so has the whole
pub behind-length : (n : ℕ) (xs xs' : List ℕ) → n ≤ length xs → n ≤ length xs' → drop n xs' ≡ drop n xs → length xs' ≡ length xs
behind-length n xs xs' p q e = omega (arith, simp length-drop at (ap length e))

module _ (k : ℕ) (xs bs xs' bs' : List ℕ) (l : k < 16) (p : numbers_in_use ≤ length xs) (q : bytes_in_use ≤ length bs) (o : Only k xs bs xs' bs') where
  pub only-behind : Behind xs bs xs' bs'
  only-behind =
      record {
        numbers = only-drop l p q o numbers_in_use (omega arith);
        bytes = only-drop-bytes l p q o bytes_in_use (omega arith);
        numbers-length = only-length l p q o;
        bytes-length = only-length-bytes l p q o;
      }

-- what the stretches go back to stays, if that of stretch k does
module _ (k : ℕ) (xs bs xs' bs' : List ℕ) (l : k < slots) (p : numbers_in_use ≤ length xs) (q : bytes_in_use ≤ length bs) (o : Only k xs bs xs' bs') (u : Undoable xs bs) where
  other_same : (j : ℕ) → (j ≡ k → ⊥) → Same j xs bs xs' bs'
  other_same j d = same_back (only-other (omega arith) p q o j d)

  stretch-undone : Stays k xs bs xs' bs' → (undone_cells xs' bs' ≡ undone_cells xs bs) × Undoable xs' bs'
  stretch-undone t =
      all_stay (λ j h.
      split (eqb j k)
      (λ e. rw (eqb-true j k e) t)
      (λ e. same-stays j h u (other_same j (eqb-false j k e)) (other_same (slots + j) (λ d. omega arith)))) u

  -- a change that leaves what the spare does not hold
  left-undone_at : (n : ℕ) (written : Bool) → Leaves n written (stretch_at k xs) (bytes_at k bs) (stretch_at k xs') (bytes_at k bs')
      → low_of (mark_at k xs) ≤ n → (written ≡ true → mark_at k xs % 2 ≡ 1) → (mark_at k xs ≡ 0 → cell_at k xs' bs' ≡ cell_at k xs bs)
      → (undone_cells xs' bs' ≡ undone_cells xs bs) × Undoable xs' bs'
  left-undone_at n written v low keys f =
      stretch-undone (left-stays k n written (other_same (slots + k) (λ d. omega arith)) v low keys l u f)

  covered-undone : (n : ℕ) (written : Bool) → Leaves n written (stretch_at k xs) (bytes_at k bs) (stretch_at k xs') (bytes_at k bs') → Covers (mark_at k xs) n written
      → (undone_cells xs' bs' ≡ undone_cells xs bs) × Undoable xs' bs'
  covered-undone n written v c = left-undone_at n written v c.rows c.keys (λ z. absurd (omega (arith, c.marked)))

  -- the rows of entries and the keys are left, and the cell unless there is a mark
  header-undone : Leaves entry_most false (stretch_at k xs) (bytes_at k bs) (stretch_at k xs') (bytes_at k bs') → (mark_at k xs ≡ 0 → cell_at k xs' bs' ≡ cell_at k xs bs)
      → (undone_cells xs' bs' ≡ undone_cells xs bs) × Undoable xs' bs'
  header-undone v f =
      by-mark (mark_at k xs)
      (λ z. left-undone_at entry_most false v (omega arith) (λ e. absurd (clash e)) f)
      (λ z. left-undone_at entry_most false v (omega arith) (λ e. absurd (clash e)) f)
      (λ h. let a = u.saved k l h in left-undone_at entry_most false v (omega (arith, a.rows, a.room)) (λ e. absurd (clash e)) f)

-- nothing is left
none_left : (p b p' b' : List ℕ) → Leaves 0 true p b p' b'
none_left p b p' b' = record { rows = refl; keys = λ e. absurd (clash (sym e)) }

-- a stretch that was freed
pub freed : (k : ℕ) (xs bs : List ℕ) → k < slots → numbers_in_use ≤ length xs → bytes_in_use ≤ length bs → (is_used (stretch_at k (set xs (k * stretch_width) 0)) ≡ false) × Only k xs bs (set xs (k * stretch_width) 0) bs
unfolding is_used
freed k xs bs l p q = (rw (first-set k 0 xs (omega arith) p), only_set k 0 xs bs (omega arith) p q)

-- where nothing is written, stretch 0 alone is changed as well
slot-only : (g : ℕ) (slot : Slot) (xs bs xs' bs' : List ℕ) → Found g xs slot → numbers_in_use ≤ length xs → bytes_in_use ≤ length bs → OnlySlot slot xs bs xs' bs' → (k : ℕ) × (k < slots) × Only k xs bs xs' bs'
unfolding Found OnlySlot
slot-only g (At k) xs bs xs' bs' f p q o = (k, f.inside, o)
slot-only g (Free k) xs bs xs' bs' f p q o = (k, f.inside, o)
slot-only g Full xs bs xs' bs' f p q o = (
  0,
  omega arith,
  rw (o.0, o.1) (only_none 0 xs bs (omega arith) p q),
)

module _ (g : ℕ) (slot : Slot) (xs bs xs' bs' : List ℕ) (f : Found g xs slot) (p : numbers_in_use ≤ length xs) (q : bytes_in_use ≤ length bs) (o : OnlySlot slot xs bs xs' bs') where
  pub slot-behind : Behind xs bs xs' bs'
  slot-behind = let c = slot-only g slot xs bs xs' bs' f p q o in only-behind c.0 xs bs xs' bs' (omega (arith, c.1)) p q c.2

-- a cell is as it was where all are
cell_stays : (k : ℕ) (xs bs xs' bs' : List ℕ) → k < slots → cells xs' bs' ≡ cells xs bs → cell_at k xs' bs' ≡ cell_at k xs bs
cell_stays k xs bs xs' bs' l e =
    sym (get_or-cells k xs' bs' l) ∙ ap (λ (c : List (Cell Table)). get_or c k None) e ∙ get_or-cells k xs bs l

-- the cells are as they were, and the rows and keys of the slot's stretch; so is what they go back to
pub left-undone : (g : ℕ) (slot : Slot) (xs bs xs' bs' : List ℕ) → Found g xs slot → numbers_in_use ≤ length xs → bytes_in_use ≤ length bs → OnlySlot slot xs bs xs' bs' → RowsStay slot xs bs xs' bs' → cells xs' bs' ≡ cells xs bs → Undoable xs bs → (undone_cells xs' bs' ≡ undone_cells xs bs) × Undoable xs' bs'
unfolding Found OnlySlot RowsStay
left-undone g (At k) xs bs xs' bs' f p q o v e u = header-undone k xs bs xs' bs' f.inside p q o u v (λ z. cell_stays k xs bs xs' bs' f.inside e)
left-undone g (Free k) xs bs xs' bs' f p q o v e u = header-undone k xs bs xs' bs' f.inside p q o u v (λ z. cell_stays k xs bs xs' bs' f.inside e)
left-undone g Full xs bs xs' bs' f p q o v e u = rw (o.0, o.1) (refl, u)

-- a slot that is ready for a change may be changed: what the stretches go back to is as it was
pub changed-undone : (c : Change) (g : ℕ) (slot : Slot) (xs bs xs' bs' : List ℕ) → Found g xs slot → numbers_in_use ≤ length xs → bytes_in_use ≤ length bs → OnlySlot slot xs bs xs' bs' → ChangeLeaves c slot xs bs xs' bs' → ReadyFor c slot xs → Undoable xs bs → (undone_cells xs' bs' ≡ undone_cells xs bs) × Undoable xs' bs'
unfolding Found OnlySlot ChangeLeaves ReadyFor
changed-undone c g (At k) xs bs xs' bs' f p q o v r u = covered-undone k xs bs xs' bs' f.inside p q o u (row_from c (head_part (stretch_at k xs))) (writes_keys c) v r
changed-undone c g (Free k) xs bs xs' bs' f p q o v r u = covered-undone k xs bs xs' bs' f.inside p q o u 0 true (none_left (stretch_at k xs) (bytes_at k bs) (stretch_at k xs') (bytes_at k bs')) r
changed-undone c g Full xs bs xs' bs' f p q o v r u = rw (o.0, o.1) (refl, u)

-- the same of a removal
pub removed-undone : (g : ℕ) (slot : Slot) (xs bs xs' : List ℕ) → Found g xs slot → numbers_in_use ≤ length xs → bytes_in_use ≤ length bs → OnlySlot slot xs bs xs' bs → RemovalLeaves slot xs bs xs' → ReadyToGo slot xs → Undoable xs bs → (undone_cells xs' bs ≡ undone_cells xs bs) × Undoable xs' bs
unfolding Found OnlySlot RemovalLeaves ReadyToGo
removed-undone g (At k) xs bs xs' f p q o v r u = header-undone k xs bs xs' bs f.inside p q o u v (λ z. absurd (omega arith))
removed-undone g (Free k) xs bs xs' f p q o v r u = rw v (refl, u)
removed-undone g Full xs bs xs' f p q o v r u = rw v (refl, u)
