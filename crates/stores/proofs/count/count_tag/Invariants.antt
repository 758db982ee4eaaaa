-- `stores::count::count_tag` meets its contract: what is counted of the first j rows. Assumes nothing.
use Rattle.stores.specs.Tags.{count_tag}
use mathlib.Core.Path.{◌≡◌}
use Rattle.stores.proofs.count.count_tag.Given as goal

abbrev pub invariant-loop-j : goal.invariant-loop-j
invariant-loop-j l = l.count ≡ count_tag l.tag l.j l.items l.tags
