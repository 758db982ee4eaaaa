-- `waiting::find::free_cell` meets its contract. Assumes nothing.
use Rattle.std.proofs.Common.{◌≡◌, ◌*◌, true, false, arith, rules, tests}
use Rattle.std.proofs.lemmas.Iterator.{first_from_Range}
use Rattle.cells.specs.Part.{part}
use Rattle.room.specs.Rooms.{head_at}
use Rattle.waiting.specs.Steps.{is_free_cell}
use Rattle.waiting.proofs.Finding.{first-of}
use Rattle.waiting.proofs.find.free_cell.Goals as goal

pub returns : goal.returns
returns c =
    let heads = part 2 (c.args.cells * 10) c.args.ws.now in
    first-of is_free_cell c.args.cells heads c.find.result
    (first_from_Range _ _ _ c.find.result (λ k. is_free_cell (head_at k heads) ≡ true) (λ k. is_free_cell (head_at k heads) ≡ false) c.find.ensures.ran
    (λ x q k. grind (arith, tests))
    (λ x q k. (search rules, grind (arith, tests))))
