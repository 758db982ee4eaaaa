-- A part that comes to the room of a context. Assumes nothing.
use mathlib.Core.Bool.{true, false, ◌&&◌}
use mathlib.Core.List.{List, [], ◌∷◌}
use Rattle.std.specs.Prelude.{Some}
use mathlib.Core.Path.{◌≡◌, refl, sym, ap, ◌∙◌}
use Prim.Native.Nat.{ℕ, ◌+◌, ◌*◌, ◌≤◌, ◌<◌}
use native.Mathlib.Omega.{arith}
use lib.Dec.{leb}
use lib.ListN.{length}
use Rattle.cells.specs.Part.{part}
use Rattle.maps.specs.OrderLaws.{numbers_lawful}
use Rattle.maps.specs.Maps.{store, numbers}
use Rattle.maps.specs.MapLaws.{store-again}
use Rattle.rules.specs.Items as rules
use Rattle.rules.specs.Context.{Part, waiting_fits}
use Rattle.rules.specs.Causes.{FilesGoBack, LimitPassed}
use Rattle.rules.specs.Waiting.{wait, accept, some_parts}
use Rattle.stores.specs.declared.Store.{Store}
use Rattle.stores.specs.Stores.{entries_before}
use Rattle.room.specs.Rooms.{Room, items_in, head_at, newest_tag, newest, waiting_in, waiting_items, waiting_entries, cell_count}
use Rattle.room.specs.Layout.{store_of, room_of, waiting_of, ContextRoom}
use Rattle.room.specs.LayoutLaws.{cell-count}
use Rattle.room.specs.HeadLaws.{heads-are}
use Rattle.room.specs.Batches.{counts_for}
use Rattle.room.specs.Changes.{Became}
use Rattle.room.specs.ChangeLaws.{waiting_at_lem, waiting-ascends}
use Rattle.room.specs.LimitLaws.{fits-few, room-few}
use Rattle.waiting.specs.declared.PartHead.{PartHead}
use Rattle.waiting.specs.declared.Form as form
use Rattle.waiting.specs.declared.Step as step
use Rattle.waiting.specs.Steps.{AtCell, NoCell, step_of, form_parts, stepped}
use Rattle.waiting.specs.Accepts.{parts_at, Waited, Finishing, Refusing}
use Rattle.waiting.specs.Forms.{FormAt, with_part, Keeps, used_from, form_groups, part_with}
use Rattle.waiting.specs.FormLaws.{others, cell_here, accept_here, form-accepts}
use Rattle.waiting.specs.JudgeLaws.{judged, all-used}
use Rattle.waiting.proofs.Forming.{form_in}

pub some-parts : (f : form.Form) (ps : List Part) (new : Part) → some_parts (form_parts f ps new) ≡ Some (form_parts f ps new)
unfolding form_parts some_parts
some-parts form.TheVariants.First ps new = refl
some-parts form.TheVariants.Front ps new = refl
some-parts form.TheVariants.Replace [] new = refl
some-parts form.TheVariants.Replace (p ∷ ps) new = refl
some-parts form.TheVariants.Join [] new = refl
some-parts form.TheVariants.Join (p ∷ ps) new = refl

-- ---- the counts before

module _ (ws vs : List ℕ) (w : ContextRoom ws vs) where
  abbrev s : Store
  s = store_of ws

  abbrev r : Room
  r = room_of 16 ws vs

  -- what the counts of the room meet
  pub rows-counted : (s.items ≤ 16 * 8) × (entries_before s.items (part (2 + 16 * 18) (16 * 72) ws) ≡ s.entries)
  unfolding room_of
  rows-counted =
      let f = (room-few ws vs w).0 in
      (omega arith, w.room.wf.stored.total)

  -- not every cell is in use
  pub never_full : (g : ℕ) → NoCell g 16 (part 2 (16 * 10) ws) → ⊥
  unfolding waiting_of
  never_full g n =
      let c = cell-count 16 ws vs w.room.numbers-are w.room.bytes-are in
      let u = all-used s r w.room.wf (λ j l. rw (heads-are 16 ws vs) (n.full j (omega (arith, c)))) in
      let f = (fits-few (waiting_of ws vs) w.fits).groups in
      omega arith

  module _ (g k : ℕ) (hd : PartHead) (its : List rules.LogItem) where
    abbrev new : Part
    new = part_with hd its

    -- ---- the part is put into a cell

    module _ (f : form.Form) (a : FormAt f g 16 (part 2 (16 * 10) ws) k hd) where
      abbrev parts : List Part
      parts = form_parts f (parts_at g (waiting_in s r)) new

      accepts_form : accept (parts_at g (waiting_in s r)) new ≡ wait parts
      accepts_form = form-accepts s r w.room.wf g k hd its f (form_in 16 ws vs w.room f g k hd a)

      stored_form : store numbers g (some_parts parts) (waiting_in s r) ≡ with_part f g new (waiting_in s r)
      unfolding with_part
      stored_form = rw (some-parts f (parts_at g (waiting_in s r)) new)

      module _ (n : ℕ) (left more : Store) (x : n ≡ form_groups f (used_from 16 0 (part 2 (16 * 10) ws))) (y : Keeps f (newest_tag (head_at k (part 2 (16 * 10) ws))) (part (2 + 16 * 18) (16 * 72) ws) (part (2 + 16 * 10) (16 * 8) ws) s left) (z : more ≡ counts_for its) where
        kept_in : Keeps f (newest_tag (head_at k r.heads)) r.items r.tags s left
        unfolding room_of
        kept_in = y

        groups-in : n ≡ form_groups f (used_from (cell_count r.heads) 0 r.heads)
        groups-in = rw (cell-count 16 ws vs w.room.numbers-are w.room.bytes-are, heads-are 16 ws vs) x

        pub judged_form : waiting_fits (with_part f g new (waiting_in s r)) ≡ (leb n 8 && leb (left.items + more.items) 64 && leb (left.entries + more.entries) 128)
        judged_form =
            judged s r w.room.wf g new k hd f left more (form_in 16 ws vs w.room f g k hd a) kept_in z
            ∙ rw (← groups-in)

      pub form-passes : waiting_fits (with_part f g new (waiting_in s r)) ≡ false → Refusing g new ws vs LimitPassed
      unfolding waiting_of
      form-passes e =
          record {
            passes = λ p. record { parts = parts; accepts = accepts_form; passes = rw stored_form e };
            goes_back = λ n. absurd (n refl);
          }

      pub form-fits : waiting_fits (with_part f g new (waiting_in s r)) ≡ true → (waiting_items (with_part f g new (waiting_in s r)) ≤ 16 * 8) × (waiting_entries (with_part f g new (waiting_in s r)) ≤ 16 * 16)
      form-fits e =
          let few = fits-few (with_part f g new (waiting_in s r)) e in
          let a = few.items in
          let b = few.entries in
          (omega arith, omega arith)

      pub form_waited : waiting_fits (with_part f g new (waiting_in s r)) ≡ true → (ws' vs' : List ℕ) → length ws' ≡ length ws → length vs' ≡ length vs → Became g (Some parts) s r (store_of ws') (room_of 16 ws' vs') → Waited g new ws vs ws' vs'
      unfolding waiting_of
      form_waited e ws' vs' i j b =
          let becomes : waiting_in (store_of ws') (room_of 16 ws' vs') ≡ with_part f g new (waiting_in s r) = b.waiting ∙ rw (← some-parts f (parts_at g (waiting_in s r)) new) stored_form in
          record {
            parts = parts;
            accepts = accepts_form;
            waiting = becomes ∙ sym stored_form;
            room = record { room = record { numbers-are = i ∙ w.room.numbers-are; bytes-are = j ∙ w.room.bytes-are; wf = b.wf }; fits = rw becomes e };
          }

    -- ---- the room stays as it is

    module _ (a : AtCell g 16 (part 2 (16 * 10) ws) k) where
      inside : k < cell_count r.heads
      inside = let c = cell-count 16 ws vs w.room.numbers-are w.room.bytes-are in let l = a.inside in omega (arith, c)

      at-cell : AtCell g 16 r.heads k
      at-cell = rw (heads-are 16 ws vs) a

      abbrev old : Part
      old = newest (head_at k r.heads) (items_in s r)

      abbrev rest : List Part
      rest = others s r w.room.wf g k inside

      stepped_here : accept (parts_at g (waiting_in s r)) new ≡ stepped (step_of hd (head_at k r.heads)) old rest new
      stepped_here = accept_here s r w.room.wf g k inside at-cell.here hd its

      module _ (x : step.Step) (e : x ≡ step_of hd (head_at k (part 2 (16 * 10) ws))) where
        accepted_by : (y : step.Step) → x ≡ y → accept (parts_at g (waiting_in s r)) new ≡ stepped y old rest new
        accepted_by y d =
            let e' : x ≡ step_of hd (head_at k r.heads) = rw (heads-are 16 ws vs) e in
            stepped_here ∙ ap (λ (z : step.Step). stepped z old rest new) (sym e' ∙ d)

        pub dropped : x ≡ step.TheVariants.Drop → Waited g new ws vs ws vs
        unfolding waiting_of stepped some_parts
        dropped d =
            record {
              parts = old ∷ rest;
              accepts = accepted_by step.TheVariants.Drop d;
              waiting = sym (store-again numbers numbers_lawful g (Some (old ∷ rest)) (waiting_in s r) (waiting_at_lem s r w.room.wf k g (old ∷ rest) inside (cell_here s r w.room.wf g k inside at-cell.here)) (waiting-ascends s r));
              room = w;
            }

        pub went_back : x ≡ step.TheVariants.Back → Refusing g new ws vs FilesGoBack
        unfolding waiting_of stepped
        went_back d = record { passes = λ p. cc; goes_back = λ n. (refl, accepted_by step.TheVariants.Back d) }

        pub finished : x ≡ step.TheVariants.Finish → Finishing g new k ws vs
        unfolding waiting_of stepped
        finished d =
            record {
              others = rest;
              accepts = accepted_by step.TheVariants.Finish d;
              inside = a.inside;
              cell = cell_here s r w.room.wf g k inside at-cell.here;
            }
