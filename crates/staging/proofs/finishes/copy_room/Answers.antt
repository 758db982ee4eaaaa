-- `staging::finishes::copy_room` meets its contract. Assumes nothing.
use Rattle.cells.specs.PartLaws.{part-is}
use Rattle.staging.proofs.finishes.copy_room.Goals as goal

pub returns : goal.returns
returns c = (rw (part-is 10019 3490 c.args.xs.now) at c.copy_from_slice.ensures.after, rw (part-is 20480 8192 c.args.bs.now) at c.copy_from_slice-2.ensures.after)
