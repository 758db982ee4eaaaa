-- `script_areas::store::unite_at` meets its contract. Assumes nothing.
use Rattle.script_areas.proofs.AreaLaws.{lent_wf, one-changed}
use Rattle.script_areas.proofs.store.unite_at.Goals as goal

pub unite-requires : goal.unite-requires
unite-requires c = lent_wf c.args.k c.args.xs.now c.args.bs.now c.requires.areas c.requires.k_bound

pub returns : goal.returns
returns c = one-changed c.args.k c.args.xs.now c.args.bs.now _ _ c.requires.k_bound c.requires.areas c.unite.ensures
