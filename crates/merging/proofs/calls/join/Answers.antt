-- `merging::calls::join` meets its contract. Assumes nothing.
use mathlib.Core.Path.{sym, ◌∙◌}
use Rattle.merging.proofs.FinishWays.{kind_there, join_wrong, join-plain}
use Rattle.merging.proofs.calls.join.Goals as goal

pub returns-then-not-kinds_are : goal.returns-then-not-kinds_are
returns-then-not-kinds_are c =
    rw (← c.newer.view_is, c.into.ensures) (join_wrong c.args.xs.now c.args.bs.now _ _ _ _ c.kind_in-older.ensures c.kind_in-its.ensures c.requires (sym c.kinds_are.ensures ∙ c.if-not-kinds_are.true))

pub kind_in-its-requires : goal.kind_in-its-requires
kind_in-its-requires c = kind_there _ _ c.newer.invariant

pub carry_out-requires : goal.carry_out-requires
carry_out-requires c =
    join-plain c.args.xs.now c.args.bs.now _ _ _ _ c.kind_in-older.ensures c.kind_in-its.ensures c.requires c.newer.invariant (sym c.kinds_are.ensures ∙ c.if-not-kinds_are.false)
