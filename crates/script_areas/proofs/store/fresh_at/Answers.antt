-- `script_areas::store::fresh_at` meets its contract. Assumes nothing.
use Rattle.script_areas.proofs.AreaLaws.{lent-lengths, one_more_lem}
use Rattle.script_areas.proofs.store.fresh_at.Goals as goal

pub fresh-requires : goal.fresh-requires
fresh-requires c = lent-lengths c.args.k c.args.k c.args.xs.now c.args.bs.now c.requires.areas c.requires.k_bound

pub returns : goal.returns
returns c = one_more_lem c.args.k c.args.xs.now c.args.bs.now _ _ c.requires.k_bound c.requires.areas c.fresh.ensures.wf
