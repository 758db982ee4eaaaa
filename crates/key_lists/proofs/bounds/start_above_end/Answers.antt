-- `key_lists::bounds::start_above_end` meets its contract: the order of `cells` is that of the maps. Assumes nothing.
use Rattle.maps.specs.Lists.{or_else}
use Rattle.rules.specs.TableQueries.{start_above_end}
use Rattle.kvs.specs.Orders.{below_by-order}
use Rattle.key_lists.proofs.bounds.start_above_end.Goals as goal

pub returns-in-Some-Some : goal.returns-in-Some-Some
unfolding start_above_end or_else
returns-in-Some-Some c = rw (c.in-Some-Some.is-0, c.in-Some-Some.is-1, below_by-order, ← c.compare_u8.ensures) c.is_lt.ensures
