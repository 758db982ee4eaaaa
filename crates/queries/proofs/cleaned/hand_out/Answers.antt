-- `queries::cleaned::hand_out` meets its contract. Assumes nothing.
use native.Mathlib.Omega.{arith}
use Rattle.queries.proofs.Cleanings.{no_room, handed}
use Rattle.queries.proofs.cleaned.hand_out.Goals as goal

pub returns-then-list-count : goal.returns-then-list-count
returns-then-list-count c = no_room c.args.ys.now c.args.list.now c.requires.0 c.requires.1 _ c.counts_in-counts.ensures.1 c.if-list-count.true

pub returns : goal.returns
returns c = handed c.args.ys.now c.args.list.now c.requires.0 c.requires.1 _ _ _ c.counts_in-counts.ensures.1 (omega (arith, c.if-list-count.false)) c.copy_cleaned.ensures c.drop_cleaned.ensures
