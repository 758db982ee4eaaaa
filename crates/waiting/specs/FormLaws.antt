-- What waits after a part is put into a cell, and its counts. Assumes nothing.
use Rattle.std.specs.Prelude.{Bool, true, false, cond, not, List, [], ◌∷◌, ◌++◌, ◌≡◌, ℕ, zero, suc, ◌*◌, ◌≤◌, ◌<◌, eqb, ltb, get_or, None, Some}
use Rattle.std.proofs.Math.Path.{refl}
use Rattle.std.proofs.Common.{sym, ap, ◌∙◌, arith}
use borrow.Author.Tests.{ne_eqb, eqb-true, eqb-false, not-true}
use Rattle.maps.specs.BoolLaws.{both_left, both_right}
use Rattle.maps.specs.Lists.{or_else}
use Rattle.maps.specs.OrderLaws.{split}
use Rattle.maps.specs.Maps.{lookup, numbers}
use Rattle.maps.specs.MapLaws.{pair}
use Rattle.maps.specs.Cells.{holds}
use Rattle.maps.proofs.CellLaws.{lookup_absent}
use Rattle.rules.specs.Items as rules
use Rattle.rules.specs.Items.{status_of}
use Rattle.rules.specs.Context.{Part}
use Rattle.rules.specs.Waiting.{wait, accept}
use Rattle.stores.specs.declared.Store.{Store}
use Rattle.stores.specs.Tags.{Tagged, items_with}
use Rattle.room.specs.Rooms.{Room, items_in, head_at, count_in, group_in, newest_tag, newest, older, parts_of, cell_of, cell_count, cells_of, waiting_in, Counted, CellWf, Wf}
use Rattle.room.specs.RoomLaws.{length-cells, get_or-cells}
use Rattle.room.specs.Changes.{Became}
use Rattle.room.specs.ChangeLaws.{waiting_at_lem, waiting-map_of}
use Rattle.room.specs.Parts.{first_head, renewed_head, WroteIn}
use Rattle.room.specs.PartLaws.{two-parts, first-waits, front-waits, Retagged, renewed-one, renewed_two}
use Rattle.room.specs.RetagLaws.{retagged-other, retagged-more}
use Rattle.waiting.specs.declared.PartHead.{PartHead}
use Rattle.waiting.specs.declared.Form as form
use Rattle.waiting.specs.declared.Step as step
use Rattle.waiting.specs.Steps.{is_of, is_free_cell, AtCell, step_by, step_of, joined_status, joined_part, form_parts, stepped}
use Rattle.waiting.specs.StepLaws.{accept_step}
use Rattle.waiting.specs.Accepts.{parts_at}
use Rattle.waiting.specs.Forms.{FormAt, form_tag, joined_number, form_head, part_with, Freed}

-- ---- what a step says of the numbers: that of the part that comes, and that of the newest one

unfoldable Tells : step.Step → ℕ → ℕ → Type 0
Tells (step.TheVariants.Wait form.TheVariants.First) st old = ⊥
Tells (step.TheVariants.Wait form.TheVariants.Front) st old = (st ≡ 0) × (2 ≤ old)
Tells (step.TheVariants.Wait form.TheVariants.Replace) st old = st ≡ 0
Tells (step.TheVariants.Wait form.TheVariants.Join) st old = (1 ≤ st) × (old ≡ 0 → st ≡ 1)
Tells step.TheVariants.Drop st old = Unit
Tells step.TheVariants.Finish st old = Unit
Tells step.TheVariants.Back st old = Unit

back-tells : (b : Bool) (s : step.Step) (st old : ℕ) → Tells s st old → Tells (cond b step.TheVariants.Back s) st old
unfolding Tells
back-tells true s st old t = tt
back-tells false s st old t = t

by-tells : (st start old last : ℕ) → Tells (step_by (status_of st) start (status_of old) last) st old
unfolding Tells step_by status_of
by-tells zero start zero last = refl
by-tells zero start (suc zero) last = refl
by-tells zero start (suc (suc n)) last = (refl, omega arith)
by-tells (suc zero) start zero last = back-tells (ltb start last) (step.TheVariants.Wait form.TheVariants.Join) 1 0 (omega arith, λ z. refl)
by-tells (suc zero) start (suc zero) last = back-tells (ltb start last) (step.TheVariants.Wait form.TheVariants.Join) 1 1 (omega arith, λ z. refl)
by-tells (suc zero) start (suc (suc n)) last = tt
by-tells (suc (suc m)) start zero last = back-tells (ltb start last) step.TheVariants.Finish (suc (suc m)) 0 tt
by-tells (suc (suc m)) start (suc zero) last = back-tells (ltb start last) (step.TheVariants.Wait form.TheVariants.Join) (suc (suc m)) 1 (omega arith, λ z. absurd (omega arith))
by-tells (suc (suc m)) start (suc (suc n)) last = tt

module _ (new : PartHead) (h : List ℕ) where
  step-tells : (s : step.Step) → step_of new h ≡ s → Tells s new.status (get_or h 3 0)
  unfolding step_of
  step-tells s e = rw e at (by-tells new.status new.start (get_or h 3 0) (get_or h 5 0))

  never-first : step_of new h ≡ step.TheVariants.Wait form.TheVariants.First → ⊥
  unfolding Tells
  never-first e = step-tells _ e

  pub front-means : step_of new h ≡ step.TheVariants.Wait form.TheVariants.Front → (new.status ≡ 0) × (2 ≤ get_or h 3 0)
  unfolding Tells
  front-means e = step-tells _ e

  pub replace-means : step_of new h ≡ step.TheVariants.Wait form.TheVariants.Replace → new.status ≡ 0
  unfolding Tells
  replace-means e = step-tells _ e

  pub join-means : step_of new h ≡ step.TheVariants.Wait form.TheVariants.Join → (1 ≤ new.status) × (get_or h 3 0 ≡ 0 → new.status ≡ 1)
  unfolding Tells
  join-means e = step-tells _ e

-- a step that puts the part into the cell of its group says in which form
pub form_here : (f : form.Form) (g n : ℕ) (hs : List ℕ) (k : ℕ) (new : PartHead) → AtCell g n hs k → step_of new (head_at k hs) ≡ step.TheVariants.Wait f → FormAt f g n hs k new
form_here form.TheVariants.First g n hs k new a e = absurd (never-first new (head_at k hs) e)
form_here form.TheVariants.Front g n hs k new a e = (a, e)
form_here form.TheVariants.Replace g n hs k new a e = (a, e)
form_here form.TheVariants.Join g n hs k new a e = (a, e)

-- ---- a cell of the group

-- it has one part or two
by_count : {P : Type 0} (n k : ℕ) (h : List ℕ) (xs : List Tagged) → count_in h ≡ n → Counted n k h xs → eqb (count_in h) 0 ≡ false → (count_in h ≡ 1 → P) → (count_in h ≡ 2 → P) → P
unfolding Counted
by_count zero k h xs e c u one two = absurd (eqb-false (count_in h) 0 u e)
by_count (suc zero) k h xs e c u one two = one e
by_count (suc (suc zero)) k h xs e c u one two = two e
by_count (suc (suc (suc n))) k h xs e c u one two = absurd c

cell-counted : (k : ℕ) (h : List ℕ) (xs : List Tagged) → CellWf k h xs → Counted (count_in h) k h xs
unfolding CellWf
cell-counted k h xs c = c

module _ (s : Store) (r : Room) (w : Wf s r) (g k : ℕ) (l : k < cell_count r.heads) where
  abbrev h : List ℕ
  h = head_at k r.heads

  abbrev xs : List Tagged
  xs = items_in s r

  -- the parts behind the newest one
  abbrev pub others : List Part
  others = cond (eqb (count_in h) 1) [] (older h xs ∷ [])

  module _ (here : is_of g h ≡ true) where
    pub group_here : group_in h ≡ g
    unfolding is_of
    group_here = eqb-true (group_in h) g (both_right (not (eqb (count_in h) 0)) (eqb (group_in h) g) here)

    used_here : eqb (count_in h) 0 ≡ false
    unfolding is_of
    used_here = not-true (eqb (count_in h) 0) (both_left (not (eqb (count_in h) 0)) (eqb (group_in h) g) here)

    pub used-count : 0 < count_in h
    used-count = let d = eqb-false (count_in h) 0 used_here in omega (arith, d)

    pub cell_here : cell_of h xs ≡ Some (pair g (newest h xs ∷ others))
    unfolding cell_of parts_of
    cell_here = rw (used_here, group_here)

    pub parts_here : parts_at g (waiting_in s r) ≡ newest h xs ∷ others
    unfolding parts_at or_else
    parts_here = rw (waiting_at_lem s r w k g (newest h xs ∷ others) l cell_here)

    accept-newest : (new : PartHead) (its : List rules.LogItem) → accept (newest h xs ∷ others) (part_with new its) ≡ stepped (step_of new h) (newest h xs) others (part_with new its)
    unfolding step_of newest
    accept-newest new its = accept_step (newest h xs) (part_with new its) others

    pub accept_here : (new : PartHead) (its : List rules.LogItem) → accept (parts_at g (waiting_in s r)) (part_with new its) ≡ stepped (step_of new h) (newest h xs) others (part_with new its)
    accept_here new its = ap (λ (ps : List Part). accept ps (part_with new its)) parts_here ∙ accept-newest new its

    -- there are one part or two
    pub by_parts : {P : Type 0} → (count_in h ≡ 1 → P) → (count_in h ≡ 2 → P) → P
    by_parts one two = by_count (count_in h) k h xs refl (cell-counted k h xs (w.cells k l)) used_here one two

    others-one : count_in h ≡ 1 → others ≡ []
    others-one z = rw z

    others_two : count_in h ≡ 2 → others ≡ older h xs ∷ []
    others_two z = rw z

    -- the newest part is renewed
    module _ (st start last : ℕ) (its : List rules.LogItem) (t : Store) (q : Room) (o : Retagged k (renewed_head st start last h) (newest_tag h) its s r t q) where
      renewed_here : (count_in h ≡ 2 → st ≡ 0) → Became g (Some (record { status = status_of st; items = its; start = start; end = last } ∷ others)) s r t q
      renewed_here b =
          by_parts
          (λ z. rw (others-one z) (rw group_here at (renewed-one k st start last its s r t q w l o z)))
          (λ z. rw (others_two z) (rw group_here at (renewed_two k st start last its s r t q w l o z (b z))))

-- ---- joined parts

joined-status : (old st : ℕ) → 1 ≤ st → joined_status (status_of old) (status_of st) ≡ status_of (joined_number old st)
unfolding joined_status status_of joined_number
joined-status old zero h = absurd (omega arith)
joined-status old (suc zero) h = refl
joined-status old (suc (suc m)) h = rw (ne_eqb (suc (suc m)) 1 (λ z. omega arith))

-- the newest part of head h among ts with the part joined to it
joined_is : (h : List ℕ) (ts : List Tagged) (new : PartHead) (its : List rules.LogItem) → joined_part (newest h ts) (part_with new its) ≡ record { status = joined_status (status_of (get_or h 3 0)) (status_of new.status); items = items_with (newest_tag h) ts ++ its; start = get_or h 4 0; end = new.end }
unfolding joined_part newest
joined_is h ts new its = refl

-- the same by the number of its status
joined_by_number : (h : List ℕ) (ts : List Tagged) (new : PartHead) (its : List rules.LogItem) → 1 ≤ new.status → joined_part (newest h ts) (part_with new its) ≡ record { status = status_of (joined_number (get_or h 3 0) new.status); items = items_with (newest_tag h) ts ++ its; start = get_or h 4 0; end = new.end }
joined_by_number h ts new its e = rw (joined_is h ts new its, joined-status (get_or h 3 0) new.status e)

joined-begins : (old st : ℕ) → old ≡ 0 → (old ≡ 0 → st ≡ 1) → joined_number old st ≡ 0
unfolding joined_number
joined-begins old st e f = rw (f e, e)

-- ---- a group that does not wait

holds_not : (g : ℕ) (h : List ℕ) (xs : List Tagged) → is_of g h ≡ false → holds g (cell_of h xs) ≡ false
unfolding is_of cell_of holds
holds_not g h xs e =
    split (eqb (count_in h) 0)
    (λ z. rw z)
    (λ z.
    let d : eqb (group_in h) g ≡ false = rw z at e in
    rw z (ne_eqb g (group_in h) (λ y. eqb-false (group_in h) g d (sym y))))

module _ (s : Store) (r : Room) (g : ℕ) (absent : (j : ℕ) → j < cell_count r.heads → is_of g (head_at j r.heads) ≡ false) where
  pub waits-not : lookup numbers g (waiting_in s r) ≡ None
  waits-not =
      let n = length-cells r.heads (items_in s r) in
      rw (waiting-map_of s r)
      (lookup_absent (cells_of r.heads (items_in s r)) g (λ i l.
      let l' : i < cell_count r.heads = omega (arith, n) in
      rw (get_or-cells i r.heads (items_in s r) l') (holds_not g (head_at i r.heads) (items_in s r) (absent i l'))))

  pub parts_none : parts_at g (waiting_in s r) ≡ []
  unfolding parts_at or_else
  parts_none = rw waits-not

-- ---- a part is put into a cell

module _ (s : Store) (r : Room) (w : Wf s r) (g k : ℕ) (hd : PartHead) (its : List rules.LogItem) where
  abbrev head : List ℕ
  head = head_at k r.heads

  abbrev new : Part
  new = part_with hd its

  abbrev parts : form.Form → List Part
  parts f = form_parts f (parts_at g (waiting_in s r)) new

  -- the rules make the same of it
  pub form-accepts : (f : form.Form) → FormAt f g (cell_count r.heads) r.heads k hd → accept (parts_at g (waiting_in s r)) new ≡ wait (parts f)
  unfolding form_parts accept stepped
  form-accepts form.TheVariants.First a = rw (parts_none s r g a.absent)
  form-accepts form.TheVariants.Front a =
      accept_here s r w g k a.0.inside a.0.here hd its ∙ rw (a.1, parts_here s r w g k a.0.inside a.0.here)
  form-accepts form.TheVariants.Replace a =
      accept_here s r w g k a.0.inside a.0.here hd its ∙ rw (a.1, parts_here s r w g k a.0.inside a.0.here)
  form-accepts form.TheVariants.Join a =
      accept_here s r w g k a.0.inside a.0.here hd its ∙ rw (a.1, parts_here s r w g k a.0.inside a.0.here)

  module _ (t : Store) (q : Room) (u : Store) (p : Room) where
    abbrev Wrote : form.Form → Type 0
    Wrote f = WroteIn k (form_head f k g hd head) (form_tag f k head) its t q u p

    first_form : FormAt form.TheVariants.First g (cell_count r.heads) r.heads k hd → Freed form.TheVariants.First s r (form_tag form.TheVariants.First k head) t q → Wrote form.TheVariants.First → Became g (Some (parts form.TheVariants.First)) s r u p
    unfolding form_parts form_head form_tag is_free_cell
    first_form a e o =
        let o' : WroteIn k (first_head k g hd.status hd.start hd.end) (k * 2) its s r u p = rw (← e.0, ← e.1) o in
        rw (parts_none s r g a.absent)
        (first-waits k g hd.status hd.start hd.end its s r u p w a.inside (eqb-true (count_in head) 0 a.free) o' (waits-not s r g a.absent))

    front_form : FormAt form.TheVariants.Front g (cell_count r.heads) r.heads k hd → Freed form.TheVariants.Front s r (form_tag form.TheVariants.Front k head) t q → Wrote form.TheVariants.Front → Became g (Some (parts form.TheVariants.Front)) s r u p
    unfolding form_parts form_head form_tag
    front_form a e o =
        let m = front-means hd head a.1 in
        let z = m.0 in
        let ends = m.1 in
        let in_Cell = a.0.inside in
        let here = a.0.here in
        let o' = rw (e.0, e.1, z) at o in
        rw (parts_here s r w g k in_Cell here, z)
        (by_parts s r w g k in_Cell here
        (λ one. rw (others-one s r w g k in_Cell here one) (rw (group_here s r w g k in_Cell here) at (front-waits k hd.start hd.end its s r u p w in_Cell one ends o')))
        (λ two. let b = (two-parts k head (items_in s r) two (w.cells k in_Cell)).begins in absurd (omega arith)))

    replace_form : FormAt form.TheVariants.Replace g (cell_count r.heads) r.heads k hd → Freed form.TheVariants.Replace s r (form_tag form.TheVariants.Replace k head) t q → Wrote form.TheVariants.Replace → Became g (Some (parts form.TheVariants.Replace)) s r u p
    unfolding form_parts form_head form_tag
    replace_form a e o =
        let z = replace-means hd head a.1 in
        rw (parts_here s r w g k a.0.inside a.0.here)
        (renewed_here s r w g k a.0.inside a.0.here hd.status hd.start hd.end its u p
        (retagged-other s r (newest_tag head) t q w e k (renewed_head hd.status hd.start hd.end head) its u p o) (λ two. z))

    join_form : FormAt form.TheVariants.Join g (cell_count r.heads) r.heads k hd → Freed form.TheVariants.Join s r (form_tag form.TheVariants.Join k head) t q → Wrote form.TheVariants.Join → Became g (Some (parts form.TheVariants.Join)) s r u p
    unfolding form_parts form_head form_tag
    join_form a e o =
        let m = join-means hd head a.1 in
        let in_Cell = a.0.inside in
        let here = a.0.here in
        let again = renewed_head (joined_number (get_or head 3 0) hd.status) (get_or head 4 0) hd.end head in
        let o' = rw (e.0, e.1) at o in
        rw (parts_here s r w g k in_Cell here, joined_by_number head (items_in s r) hd its m.0)
        (renewed_here s r w g k in_Cell here (joined_number (get_or head 3 0) hd.status) (get_or head 4 0) hd.end (items_with (newest_tag head) (items_in s r) ++ its) u p
        (retagged-more k again (newest_tag head) its s r u p w o')
        (λ two. joined-begins (get_or head 3 0) hd.status (two-parts k head (items_in s r) two (w.cells k in_Cell)).begins m.1))

    pub form-waits : (f : form.Form) → FormAt f g (cell_count r.heads) r.heads k hd → Freed f s r (form_tag f k head) t q → Wrote f → Became g (Some (parts f)) s r u p
    form-waits form.TheVariants.First = first_form
    form-waits form.TheVariants.Front = front_form
    form-waits form.TheVariants.Replace = replace_form
    form-waits form.TheVariants.Join = join_form
