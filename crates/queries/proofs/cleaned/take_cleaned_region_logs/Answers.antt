-- `queries::cleaned::take_cleaned_region_logs` meets its contract. Assumes nothing.
use native.Mathlib.Omega.{arith}
use borrow.Author.Rules.{part_to_end}
use Rattle.queries.proofs.Cleanings.{wrong-taken, taken}
use Rattle.queries.proofs.cleaned.take_cleaned_region_logs.Goals as goal

pub kind_in-kind-requires : goal.kind_in-kind-requires
kind_in-kind-requires c = rw (part_to_end c.args.xs.now 9376) (omega (arith, c.requires.rest.numbers-are))

pub returns-in_default : goal.returns-in_default
returns-in_default c = wrong-taken c.args.xs.now c.args.bs.now c.args.list.now c.kind_in-kind.result (rw (part_to_end c.args.xs.now 9376) at c.kind_in-kind.ensures) c.requires c.in_default.field-0 c.in_default.is

pub hand_out-requires : goal.hand_out-requires
hand_out-requires c = rw (part_to_end c.args.xs.now 9376) (c.requires.rest.numbers-are, c.requires.rest.cleaned-fit)

pub returns : goal.returns
returns c =
    taken c.args.xs.now c.args.bs.now c.args.list.now _ c.requires c.kind_in-kind.result (rw (part_to_end c.args.xs.now 9376) at c.kind_in-kind.ensures) c.in-Index.is _ _ (rw (part_to_end c.args.xs.now 9376) at c.hand_out.ensures)
