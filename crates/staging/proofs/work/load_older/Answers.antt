-- `staging::work::load_older` meets its contract. Assumes nothing.
use Rattle.staging.proofs.WorkWays.{load-loaded, loaded_at, loaded-none}
use native.Mathlib.Omega.{arith}
use Rattle.contexts.specs.AreaLaws.{formed_of, area-length, area-bytes}
use Rattle.groups.specs.Laws.{found_at_lem}
use Rattle.staging.proofs.work.load_older.Goals as goal

pub load-requires : goal.load-requires
load-requires c =
    let w = c.requires in let a = found_at_lem _ _ _ _ c.find.ensures c.in-At.is in let n = area-length _ _ (formed_of _ _ w) in let m = area-bytes _ _ (formed_of _ _ w) in record { k_bound = (a.inside, omega (arith, n), omega (arith, m)); wf = (w.groups.used _ a.inside a.used, a.used) }

pub returns-in-At : goal.returns-in-At
returns-in-At c =
    loaded_at _ _ _ c.requires _ c.find.ensures _ _ _ c.in-At.is (load-loaded _ _ _ _ _ (area-length _ _ (formed_of _ _ c.requires)) (area-bytes _ _ (formed_of _ _ c.requires)) c.load.auto.xs c.load.auto.bs c.load.ensures)

pub returns-in-Free : goal.returns-in-Free
returns-in-Free c = loaded-none _ _ _ c.requires _ c.find.ensures c.in-Free.is _ _ (c.clear_long.ensures _ (area-bytes _ _ (formed_of _ _ c.requires)))
