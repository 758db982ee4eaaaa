-- `staging::stages::find_staged` meets its contract. Assumes nothing.
use borrow.Author.Rules.{part_to_end}
use Rattle.staging.proofs.stages.find_staged.Goals as goal

pub returns : goal.returns
returns c = rw (part_to_end c.args.xs.now 4688) at c.find.ensures
