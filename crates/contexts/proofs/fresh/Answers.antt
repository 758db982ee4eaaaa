-- `contexts::fresh` meets its contract. Assumes nothing.
use Rattle.contexts.proofs.ContextLaws.{fresh-area}
use Rattle.contexts.proofs.fresh.Goals as goal

pub returns : goal.returns
returns c = fresh-area c.args.queue c.args.xs.now c.clear_groups.new.xs c.args.bs.now c.clear.new.ws c.clear-2.new.ys c.requires.0 c.requires.1 c.clear_groups.ensures c.clear.ensures c.clear-2.ensures
