-- `worktable::acts::clear` meets its contract. Assumes nothing.
use Rattle.worktable.specs.WorkLaws.{cleared}
use Rattle.worktable.proofs.acts.clear.Goals as goal

pub returns : goal.returns
returns c = λ b m. cleared c.args.p.now b c.requires m
