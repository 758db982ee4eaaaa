-- `worktable::acts::change_table` meets its contract. Assumes nothing.
use Rattle.worktable.specs.WorkLaws.{acted}
use Rattle.worktable.proofs.acts.change_table.Goals as goal

pub returns : goal.returns
returns c = acted _ _ _ _ _ _ _ c.requires.taken (c.provide.ensures c.args.b.now c.requires.wf) _ _ _ c.apply.ensures.changed_at c.apply.auto.p c.apply.auto.b
