-- `staging::work::lay_newer` meets its contract. Assumes nothing.
use Rattle.staging.proofs.WorkWays.{newer_layable, newer-none}
use Rattle.groups.specs.Laws.{found_at_lem}
use Rattle.staging.proofs.work.lay_newer.Goals as goal

pub lay_at-requires : goal.lay_at-requires
lay_at-requires c =
    let w = c.requires.wf_2 in let a = found_at_lem _ _ _ _ c.find.ensures c.in-At.is in record { wf = c.requires.wf; k_bound = (a.inside, w.groups.numbers_fit, w.groups.bytes_fit); wf_2 = (w.groups.used _ a.inside a.used, a.used); layable = newer_layable _ _ _ _ _ _ w _ c.find.ensures _ c.in-At.is c.requires.cs_value c.requires.within.0 c.requires.within.1 }

pub returns-in-Free : goal.returns-in-Free
returns-in-Free c = newer-none _ _ _ _ _ _ c.requires.wf_2 _ c.find.ensures c.in-Free.is c.requires.wf
