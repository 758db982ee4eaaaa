-- `merging::calls::merge` meets its contract. Assumes nothing.
use mathlib.Core.Path.{sym, ◌∙◌}
use Rattle.merging.proofs.FinishWays.{kind_there, merge-plain, merge-given, merge_wrong}
use Rattle.merging.proofs.calls.merge.Goals as goal

pub kind_in-older-requires : goal.kind_in-older-requires
kind_in-older-requires c = kind_there _ _ c.requires

pub kind_in-its-requires : goal.kind_in-its-requires
kind_in-its-requires c = kind_there _ _ c.newer.invariant

pub carry_out-requires : goal.carry_out-requires
carry_out-requires c = merge-plain c.args.xs.now c.args.bs.now _ _ _ _ c.kind_in-older.ensures c.kind_in-its.ensures c.requires c.newer.invariant (sym c.kinds_are.ensures ∙ c.if-kinds_are.true)

pub carry_waiting-requires : goal.carry_waiting-requires
carry_waiting-requires c =
    merge-given c.args.xs.now c.args.bs.now _ _ _ _ c.kind_in-older.ensures c.kind_in-its.ensures c.requires c.newer.invariant (sym c.kinds_are-2.ensures ∙ c.if-kinds_are-2.true)

pub returns : goal.returns
returns c =
    rw (← c.newer.view_is, c.into.ensures) (merge_wrong c.args.xs.now c.args.bs.now _ _ _ _ c.kind_in-older.ensures c.kind_in-its.ensures c.requires (sym c.kinds_are.ensures ∙ c.if-kinds_are.false) (sym c.kinds_are-2.ensures ∙ c.if-kinds_are-2.false))
