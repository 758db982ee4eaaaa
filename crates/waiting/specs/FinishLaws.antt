-- A newest part that leaves the room of a context. Assumes nothing.
use Rattle.std.specs.Prelude.{true, List, [], ◌∷◌, ◌≡◌, refl, ℕ, ◌+◌, ◌*◌, ◌≤◌, ◌<◌, length, get_or, Some}
use Rattle.std.proofs.lemmas.Option.{none-some}
use Rattle.std.proofs.Common.{sym, ◌∙◌, arith, eq-eqb, ne_eqb}
use Rattle.std.proofs.Math.Decide.{dec_lt}
use Rattle.maps.specs.Lists.{or_else}
use Rattle.maps.specs.OrderLaws.{numbers_lawful}
use Rattle.maps.specs.Maps.{Map, lookup, store, numbers}
use Rattle.maps.specs.MapLaws.{Ascending, length-insert-some, length-remove-some}
use Rattle.rules.specs.Context.{Part, waiting_fits}
use Rattle.rules.specs.Waiting.{some_parts}
use Rattle.stores.specs.declared.Store.{Store}
use Rattle.room.specs.Rooms.{Room, items_in, head_at, count_in, group_in, newest, cell_count, waiting_in, item_count, entry_count, Wf}
use Rattle.room.specs.RoomLaws.{free-cell}
use Rattle.room.specs.Layout.{store_of, room_of, waiting_of, tagged, head_part, RoomWf, ContextRoom}
use Rattle.room.specs.LayoutLaws.{cell-count, count-in}
use Rattle.room.specs.ChangeLaws.{would-wait, waiting_at_lem, waiting-ascends}
use Rattle.room.specs.Parts.{TookPart}
use Rattle.room.specs.PartLaws.{counts-cons, counts-nil}
use Rattle.room.specs.LimitLaws.{fits-few, few-fits}
use Rattle.waiting.specs.Steps.{is_of}
use Rattle.waiting.specs.FormLaws.{others, cell_here}
use Rattle.waiting.specs.Accepts.{Finishing, TookFinished}

-- a cell that a part finishes has parts
pub finishing-used : (g : ℕ) (new : Part) (k : ℕ) (ws vs : List ℕ) → RoomWf 16 ws vs → Finishing g new k ws vs → 0 < get_or ws (2 + k * 10) 0
finishing-used g new k ws vs w f =
    let c = count-in 16 ws vs w.numbers-are w.bytes-are k f.inside in
    elim (dec_lt 0 (get_or ws (2 + k * 10) 0)) [
      | yes l ↦ l
      | no l ↦
          let z : get_or ws (2 + k * 10) 0 ≡ 0 = omega arith in
          absurd (none-some _ (sym (free-cell (head_part k ws vs) (tagged ws vs) (c ∙ z)) ∙ f.cell))
    ]

-- ---- fewer parts fit as well

fewer-groups : (g : ℕ) (p : Part) (ps : List Part) (w : Map ℕ (List Part)) → Ascending numbers w → lookup numbers g w ≡ Some (p ∷ ps) → length (store numbers g (some_parts ps) w) ≤ length w
unfolding store some_parts
fewer-groups g p [] w a e = let l = length-remove-some numbers numbers_lawful g (p ∷ []) w e in omega arith
fewer-groups g p (q ∷ ps) w a e = let l = length-insert-some numbers numbers_lawful g (q ∷ ps) (p ∷ q ∷ ps) w e a in omega arith

part-counts : (ps : List Part) → (or_else 0 item_count (some_parts ps) ≡ item_count ps) × (or_else 0 entry_count (some_parts ps) ≡ entry_count ps)
unfolding or_else some_parts
part-counts [] = let n = counts-nil in (sym n.0, sym n.1)
part-counts (p ∷ ps) = (refl, refl)

fewer-fit : (s : Store) (r : Room) → Wf s r → (g : ℕ) (p : Part) (ps : List Part) → lookup numbers g (waiting_in s r) ≡ Some (p ∷ ps) → waiting_fits (waiting_in s r) ≡ true → waiting_fits (store numbers g (some_parts ps) (waiting_in s r)) ≡ true
unfolding or_else
fewer-fit s r w g p ps e f =
    let few = fits-few (waiting_in s r) f in
    let a = few.groups in
    let b = few.items in
    let d = few.entries in
    let l = fewer-groups g p ps (waiting_in s r) (waiting-ascends s r) e in
    let c = would-wait s r w g (some_parts ps) in
    let c0 = rw e at c.0 in
    let c1 = rw e at c.1 in
    let n = part-counts ps in
    let n0 = n.0 in
    let n1 = n.1 in
    let m = counts-cons p ps in
    let m0 = m.0 in
    let m1 = m.1 in
    let x = w.all-items in
    let y = w.all-entries in
    few-fits (store numbers g (some_parts ps) (waiting_in s r)) (record { groups = omega arith; items = omega arith; entries = omega arith })

-- ---- the part is taken out

own-group : (h : List ℕ) → 0 < count_in h → is_of (group_in h) h ≡ true
unfolding is_of
own-group h b = rw (ne_eqb (count_in h) 0 (λ z. omega arith), eq-eqb (group_in h) (group_in h) refl)

pub took_finished : (k : ℕ) (ws vs : List ℕ) → ContextRoom ws vs → k < 16 → 0 < get_or ws (2 + k * 10) 0 → (ws' vs' : List ℕ) → length ws' ≡ length ws → length vs' ≡ length vs → TookPart 16 k ws vs ws' vs' → TookFinished k ws vs ws' vs'
unfolding waiting_of
took_finished k ws vs w l b ws' vs' i j t =
    let e = w.room.numbers-are in
    let f = w.room.bytes-are in
    let r = room_of 16 ws vs in
    let c = cell-count 16 ws vs e f in
    let h = head_at k r.heads in
    let inside : k < cell_count r.heads = omega (arith, c) in
    let count = count-in 16 ws vs e f k l in
    let here = own-group h (rw count b) in
    let ps = others (store_of ws) r w.room.wf (group_in h) k inside in
    let p = newest h (items_in (store_of ws) r) in
    let cell = cell_here (store_of ws) r w.room.wf (group_in h) k inside here in
    let became = t.became (group_in h) p ps cell in
    let was = waiting_at_lem (store_of ws) r w.room.wf k (group_in h) (p ∷ ps) inside cell in
    record {
      waiting = λ g q qs x. (t.became g q qs x).waiting;
      room =
          record {
            room = record { numbers-are = i ∙ e; bytes-are = j ∙ f; wf = became.wf };
            fits = rw became.waiting (fewer-fit (store_of ws) r w.room.wf (group_in h) p ps was w.fits);
          };
    }
