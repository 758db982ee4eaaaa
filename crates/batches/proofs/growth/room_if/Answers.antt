-- `batches::growth::room_if` meets its contract. Assumes nothing.
use mathlib.Core.Path.{sym}
use Rattle.batches.proofs.GrowthLaws.{room-none, room-one}
use Rattle.batches.proofs.growth.room_if.Goals as goal

pub returns-then-not-added : goal.returns-then-not-added
returns-then-not-added c = sym (room-none c.args.added c.args.n c.args.most c.if-not-added.true)

pub returns : goal.returns
returns c = sym (room-one c.args.added c.args.n c.args.most c.if-not-added.false)
