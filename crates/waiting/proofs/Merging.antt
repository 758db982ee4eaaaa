-- A part of another room that comes to the room of a context. Assumes nothing.
use mathlib.Core.List.{List, ◌∷◌}
use Rattle.std.specs.Prelude.{Some}
use mathlib.Core.Path.{◌≡◌, sym, ap, ◌∙◌}
use Prim.Native.Nat.{ℕ, ◌+◌, ◌*◌, ◌≤◌, ◌<◌}
use native.Mathlib.Omega.{arith}
use lib.ListN.{length, get_or}
use Rattle.cells.specs.Part.{part}
use Rattle.maps.specs.OrderLaws.{numbers_lawful}
use Rattle.maps.specs.Maps.{numbers}
use Rattle.maps.specs.MapLaws.{store-again}
use Rattle.rules.specs.Items as rules
use Rattle.rules.specs.Context.{Part}
use Rattle.rules.specs.Waiting.{back, accept, some_parts}
use Rattle.stores.specs.declared.Store.{Store}
use Rattle.room.specs.Rooms.{Room, items_in, head_at, newest, waiting_in, waiting_items, waiting_entries, cell_count}
use Rattle.room.specs.Layout.{store_of, room_of, waiting_of, RoomWf}
use Rattle.room.specs.LayoutLaws.{cell-count, count-in}
use Rattle.room.specs.HeadLaws.{heads-are}
use Rattle.room.specs.Changes.{Became}
use Rattle.room.specs.ChangeLaws.{waiting_at_lem, waiting-ascends}
use Rattle.room.specs.Parts.{TookPart}
use Rattle.waiting.specs.declared.PartHead.{PartHead}
use Rattle.waiting.specs.declared.Form as form
use Rattle.waiting.specs.declared.Step as step
use Rattle.waiting.specs.Steps.{AtCell, NoCell, step_of, form_parts, stepped}
use Rattle.waiting.specs.Accepts.{parts_at}
use Rattle.waiting.specs.Forms.{FormAt, with_part, part_with}
use Rattle.waiting.specs.FormLaws.{others, used-count, cell_here, accept_here, form-accepts, waits-not}
use Rattle.waiting.specs.JudgeLaws.{counts-after, all-used}
use Rattle.waiting.specs.Merges.{Joined, Finished, RoomFor}
use Rattle.waiting.proofs.Forming.{form_in}
use Rattle.waiting.proofs.Accepting.{some-parts}

module _ (ws vs : List ℕ) (w : RoomWf 16 ws vs) where
  abbrev s : Store
  s = store_of ws

  abbrev r : Room
  r = room_of 16 ws vs

  -- if the group has no cell, not every cell is in use
  pub cell_left : (g : ℕ) (its : List rules.LogItem) → RoomFor g its ws vs → NoCell g 16 (part 2 (16 * 10) ws) → ⊥
  unfolding waiting_of
  cell_left g its b n =
      let c = cell-count 16 ws vs w.numbers-are w.bytes-are in
      let u = all-used s r w.wf (λ j l. rw (heads-are 16 ws vs) (n.full j (omega (arith, c)))) in
      let f = b.groups (waits-not s r g (λ j l. rw (heads-are 16 ws vs) (n.absent j (omega (arith, c))))) in
      omega arith

  module _ (g k : ℕ) (hd : PartHead) (its : List rules.LogItem) where
    abbrev new : Part
    new = part_with hd its

    -- ---- the part is put into a cell

    module _ (f : form.Form) (a : FormAt f g 16 (part 2 (16 * 10) ws) k hd) where
      abbrev parts : List Part
      parts = form_parts f (parts_at g (waiting_in s r)) new

      pub rows_for : RoomFor g its ws vs → (waiting_items (with_part f g new (waiting_in s r)) ≤ 16 * 8) × (waiting_entries (with_part f g new (waiting_in s r)) ≤ 16 * 16)
      unfolding waiting_of
      rows_for b =
          let c = counts-after s r w.wf f g new in
          let c0 = c.items in
          let c1 = c.entries in
          let x = w.wf.all-items in
          let y = w.wf.all-entries in
          let b0 = b.items in
          let b1 = b.entries in
          (omega arith, omega arith)

      pub joined_form : (ws' vs' : List ℕ) → length ws' ≡ length ws → length vs' ≡ length vs → Became g (Some parts) s r (store_of ws') (room_of 16 ws' vs') → Joined g new ws vs ws' vs'
      unfolding waiting_of
      joined_form ws' vs' i j b =
          record {
            parts = parts;
            accepts = form-accepts s r w.wf g k hd its f (form_in 16 ws vs w f g k hd a);
            waiting = rw (some-parts f (parts_at g (waiting_in s r)) new) b.waiting;
            room = record { numbers-are = i ∙ w.numbers-are; bytes-are = j ∙ w.bytes-are; wf = b.wf };
          }

    -- ---- by the step at a cell

    module _ (a : AtCell g 16 (part 2 (16 * 10) ws) k) where
      inside : k < cell_count r.heads
      inside = let c = cell-count 16 ws vs w.numbers-are w.bytes-are in let l = a.inside in omega (arith, c)

      at-cell : AtCell g 16 r.heads k
      at-cell = rw (heads-are 16 ws vs) a

      abbrev old : Part
      old = newest (head_at k r.heads) (items_in s r)

      abbrev rest : List Part
      rest = others s r w.wf g k inside

      pub has_parts : 0 < get_or ws (2 + k * 10) 0
      has_parts = rw (← count-in 16 ws vs w.numbers-are w.bytes-are k a.inside) (used-count s r w.wf g k inside at-cell.here)

      module _ (x : step.Step) (e : x ≡ step_of hd (head_at k (part 2 (16 * 10) ws))) where
        accepted_by : (y : step.Step) → x ≡ y → accept (parts_at g (waiting_in s r)) new ≡ stepped y old rest new
        accepted_by y d =
            let e' : x ≡ step_of hd (head_at k r.heads) = rw (heads-are 16 ws vs) e in
            accept_here s r w.wf g k inside at-cell.here hd its ∙ ap (λ (z : step.Step). stepped z old rest new) (sym e' ∙ d)

        pub joined_drop : x ≡ step.TheVariants.Drop → Joined g new ws vs ws vs
        unfolding waiting_of stepped some_parts
        joined_drop d =
            record {
              parts = old ∷ rest;
              accepts = accepted_by step.TheVariants.Drop d;
              waiting = sym (store-again numbers numbers_lawful g (Some (old ∷ rest)) (waiting_in s r) (waiting_at_lem s r w.wf k g (old ∷ rest) inside (cell_here s r w.wf g k inside at-cell.here)) (waiting-ascends s r));
              room = w;
            }

        pub joined_back : x ≡ step.TheVariants.Back → accept (parts_at g (waiting_of ws vs)) new ≡ back
        unfolding waiting_of stepped
        joined_back d = accepted_by step.TheVariants.Back d

        pub joined_finish : x ≡ step.TheVariants.Finish → (ws' vs' : List ℕ) → length ws' ≡ length ws → length vs' ≡ length vs → TookPart 16 k ws vs ws' vs' → Finished g new ws vs ws' vs'
        unfolding waiting_of stepped
        joined_finish d ws' vs' i j t =
            let b = t.became g old rest (cell_here s r w.wf g k inside at-cell.here) in
            record {
              old = old;
              others = rest;
              accepts = accepted_by step.TheVariants.Finish d;
              waiting = b.waiting;
              room = record { numbers-are = i ∙ w.numbers-are; bytes-are = j ∙ w.bytes-are; wf = b.wf };
            }
