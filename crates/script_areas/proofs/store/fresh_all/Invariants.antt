-- `script_areas::store::fresh_all` meets its contract. Assumes nothing.
use Rattle.script_areas.specs.Areas.{Areas}
use Rattle.script_areas.proofs.store.fresh_all.Given as goal

abbrev pub invariant-loop-k : goal.invariant-loop-k
invariant-loop-k l = Areas l.k l.xs l.bs
