-- `stores::append::add_all` meets its contract: the first j items are added. Assumes nothing.
use Rattle.stores.proofs.AppendLaws.{Adding}
use Rattle.stores.specs.Stores.{area, area_in}
use Rattle.stores.proofs.append.add_all.Given as goal

abbrev pub invariant-loop-j : goal.invariant-loop-j
invariant-loop-j l = Adding l.initial.all (area l.initial.items l.initial.entries l.initial.bytes) l.from.counts.items (area_in l.from.parts) l.j l.all (area l.items l.entries l.bytes)
