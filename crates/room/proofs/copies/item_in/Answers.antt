-- `room::copies::item_in` meets its contract. Assumes nothing.
use Rattle.room.proofs.Copying.{row-used}
use Rattle.stores.specs.StoreLaws.{stored-not-refused, stored-item}
use mathlib.Core.Path.{sym, ◌∙◌}
use Rattle.room.proofs.copies.item_in.Goals as goal

pub open_in-requires-clause-j_bound : goal.open_in-requires-clause-j_bound
open_in-requires-clause-j_bound c =
    row-used c.args.cells c.args.ws.now c.args.vs.now c.requires.ws_len.0 c.requires.ws_len.1 c.requires.stored c.args.j c.requires.j_bound

pub returns : goal.returns
returns c = stored-item _ _ c.requires.stored c.args.j c.requires.j_bound _ (sym c.open_in.ensures.opens ∙ c.in-Ok.is)

pub unreachable-requires : goal.unreachable-requires
unreachable-requires c = absurd (stored-not-refused _ _ c.requires.stored c.args.j c.requires.j_bound _ (sym c.open_in.ensures.opens ∙ c.in_default.is))
