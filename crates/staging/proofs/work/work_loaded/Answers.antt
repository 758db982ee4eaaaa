-- `staging::work::work_loaded` meets its contract. Assumes nothing.
use Rattle.staging.proofs.WorkWays.{buried-within, buried_for}
use Rattle.staging.proofs.work.work_loaded.Goals as goal

pub lay_newer-requires : goal.lay_newer-requires
lay_newer-requires c =
    record { wf = c.bury_newer.ensures.wf; within = (buried-within _ _ _ _ _ _ c.bury_newer.ensures c.requires.within, buried_for _ _ _ _ _ _ c.bury_newer.ensures _ c.requires.older_for); wf_2 = c.requires.wf_2; cs_value = c.requires.cs_value }
