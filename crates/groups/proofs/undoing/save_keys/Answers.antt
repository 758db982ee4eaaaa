-- `groups::undoing::save_keys` meets its contract. Assumes nothing.
use native.Mathlib.Omega.{arith}
use Rattle.groups.specs.Undo.{mark_at}
use mathlib.Core.Path.{refl}
use Rattle.groups.proofs.Savings.{few-copied, keys-there, keys-saved_by}
use Rattle.groups.proofs.undoing.save_keys.Goals as goal

pub returns-then-mark-eq1 : goal.returns-then-mark-eq1
unfolding mark_at
returns-then-mark-eq1 c = keys-there c.args.k c.args.xs.now c.args.bs.now c.requires.restorable c.if-mark-eq1.true

pub overflow_mul-keys : goal.overflow_mul-keys
unfolding mark_at
overflow_mul-keys c = omega (arith, few-copied c.args.k c.args.xs.now c.args.bs.now c.requires.restorable c.requires.bound c.if-mark-eq1.false)

pub shift-requires : goal.shift-requires
unfolding mark_at
shift-requires c =
    let few = few-copied c.args.k c.args.xs.now c.args.bs.now c.requires.restorable c.requires.bound c.if-mark-eq1.false in omega (arith, few, c.requires.restorable)

pub overflow_mul-keys-2 : goal.overflow_mul-keys-2
unfolding mark_at
overflow_mul-keys-2 c = omega (arith, few-copied c.args.k c.args.xs.now c.args.bs.now c.requires.restorable c.requires.bound c.if-mark-eq1.false)

pub shift-requires-2 : goal.shift-requires-2
unfolding mark_at
shift-requires-2 c =
    let few = few-copied c.args.k c.args.xs.now c.args.bs.now c.requires.restorable c.requires.bound c.if-mark-eq1.false in omega (arith, few, c.requires.restorable)

pub returns : goal.returns
unfolding mark_at
returns c =
    keys-saved_by c.args.k c.args.xs.now c.args.bs.now c.requires.restorable _ _ _ (omega (arith, c.if-mark-eq1.false, c.requires.bound)) (omega (arith, c.if-mark-eq1.false)) refl c.shift.ensures c.shift-2.ensures
