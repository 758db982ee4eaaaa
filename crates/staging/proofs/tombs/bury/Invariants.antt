-- `staging::tombs::bury` meets its contract: the tombstones passed are carried out. Assumes nothing.
use Rattle.stores.specs.Stores.{area_in}
use Rattle.worktable.specs.Work.{work_in}
use Rattle.staging.proofs.TombWays.{Buried}
use Rattle.staging.proofs.tombs.bury.Given as goal

abbrev pub invariant-loop-j : goal.invariant-loop-j
invariant-loop-j l = Buried l.group (area_in l.store.parts) (work_in l.initial.p l.initial.b) l.j l.p l.b
