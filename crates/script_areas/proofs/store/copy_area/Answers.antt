-- A copy of a well-formed area.
use Rattle.script_areas.proofs.AreaLaws.{lent_wf}
use Rattle.script_areas.proofs.store.copy_area.Goals as goal

pub returns : goal.returns
returns c = rw (c.copy_from_slice.ensures.after, c.copy_from_slice-2.ensures.after) (lent_wf c.args.k _ _ c.requires.areas c.requires.k_bound)
