-- `waiting::forms::joined_head` meets its contract. Assumes nothing.
use Rattle.waiting.proofs.Forming.{number}
use mathlib.Core.Path.{◌∙◌}
use native.Mathlib.Omega.{arith}
use Rattle.waiting.proofs.forms.joined_head.Goals as goal

pub returns : goal.returns
returns c =
    let n = c.args.cells in
    let ws = c.args.ws.now in
    c.renewed_head.ensures
    ∙ rw (c.joined_number.ensures, number n ws c.args.k c.requires.1 3 (omega arith), number n ws c.args.k c.requires.1 4 (omega arith))
