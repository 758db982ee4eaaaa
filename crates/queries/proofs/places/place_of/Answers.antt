-- `queries::places::place_of` meets its contract. Assumes nothing.
use Rattle.groups.specs.Laws.{found_at_lem}
use Rattle.queries.specs.PlaceLaws.{place_at, place-none}
use Rattle.queries.proofs.places.place_of.Goals as goal

pub returns-in_default-clause-stands : goal.returns-in_default-clause-stands
returns-in_default-clause-stands c bs w = place-none c.args.group c.args.xs.now bs w c.find.result c.find.ensures c.in_default.not-At

pub returns-clause-stands : goal.returns-clause-stands
returns-clause-stands c bs w = place_at c.args.group c.args.xs.now bs w c.find.result c.in-At.k c.find.ensures c.in-At.is

pub returns-clause-inside : goal.returns-clause-inside
returns-clause-inside c = (found_at_lem c.args.group c.in-At.k c.args.xs.now c.find.result c.find.ensures c.in-At.is).inside
