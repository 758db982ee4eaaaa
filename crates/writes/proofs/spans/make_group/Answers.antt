-- `writes::spans::make_group` meets its contract. Assumes nothing.
use mathlib.Core.Bool.{false}
use Rattle.stretch.specs.declared.Change.TheVariants.{Make}
use Rattle.stretch.specs.Changes.{rule_of, Ready}
use Rattle.groups.specs.Undo.{ReadyFor}
use Rattle.batches.specs.ActLaws.{secured_by, found-still, acted-change}
use Rattle.writes.specs.SpanLaws.{making}
use Rattle.writes.proofs.spans.make_group.Goals as goal

pub apply-requires : goal.apply-requires
unfolding Ready
apply-requires c =
    record { wf = c.secure.ensures.wf; found = found-still c.args.group c.find-slot.result false (ReadyFor Make c.find-slot.result) c.args.xs.now c.args.bs.now _ _ c.find-slot.ensures (secured_by false _ _ _ _ _ c.secure.ensures); ready = tt }

pub returns : goal.returns
unfolding rule_of
returns c =
    acted-change c.args.group c.find-slot.result false c.args.xs.now c.args.bs.now _ _ c.find-slot.ensures Make making (secured_by false _ _ _ _ _ c.secure.ensures) _ _ _ c.apply.ensures.changed_group c.apply.ensures.leaves_slot
