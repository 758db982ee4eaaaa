-- `groups::calls::apply_made` meets its contract. Assumes nothing.
use mathlib.Core.Path.{refl}
use native.Mathlib.Omega.{arith}
use Rattle.groups.specs.Laws.{found-free}
use Rattle.stretch.specs.Changes.{rule_of}
use Rattle.groups.proofs.Applying.{made_wf, made_at, made_same, grown_wf, made-done, made-refused, made-done-leaves, made-refused-leaves}
use Rattle.groups.proofs.calls.apply_made.Goals as goal

pub make_at-requires : goal.make_at-requires
make_at-requires c = let f = found-free _ _ _ _ c.requires.found refl in (f.inside, c.requires.wf.numbers_fit)

pub apply_at-answer-requires : goal.apply_at-answer-requires
apply_at-answer-requires c =
    let f = found-free _ _ _ _ c.requires.found refl in
    let a = made_at c.args.group c.args.k c.args.xs.now c.args.bs.now c.requires.wf f in
    rw c.make_at.ensures (record { wf = made_wf c.args.group c.args.k c.args.xs.now c.args.bs.now c.requires.wf f; k_bound = (a.inside, a.used); ready = rw (made_same c.args.group c.args.k c.args.xs.now c.args.bs.now c.requires.wf f) at c.requires.ready })

pub free_at-requires : goal.free_at-requires
free_at-requires c =
    let f = found-free _ _ _ _ c.requires.found refl in
    (omega (arith, f.inside), (grown_wf c.args.group c.args.k c.args.xs.now c.args.bs.now c.requires.wf f (rule_of c.args.change c.args.rows.now c.args.key.now c.args.value.now) _ _ _ (rw c.make_at.ensures at c.apply_at-answer.ensures.changed_at)).numbers_fit)

pub returns-in-Ok : goal.returns-in-Ok
returns-in-Ok c =
    let f = found-free _ _ _ _ c.requires.found refl in
    record { changed_group = made-done c.args.group c.args.k c.args.xs.now c.args.bs.now c.requires.wf f _ _ _ (rw (c.make_at.ensures, c.in-Ok.is) at c.apply_at-answer.ensures.changed_at); leaves_slot = made-done-leaves c.args.group c.args.k c.args.xs.now c.args.bs.now c.requires.wf f c.args.change _ _ }

pub returns-in-Err : goal.returns-in-Err
returns-in-Err c =
    let f = found-free _ _ _ _ c.requires.found refl in
    let a = rw (c.make_at.ensures, c.in-Err.is) at c.apply_at-answer.ensures.changed_at in
    rw c.free_at.ensures (record { changed_group = made-refused c.args.group c.args.k c.args.xs.now c.args.bs.now c.requires.wf f _ _ _ _ a; leaves_slot = made-refused-leaves c.args.group c.args.k c.args.xs.now c.args.bs.now c.requires.wf f c.args.change _ _ _ _ a })
