-- `groups::calls::apply` meets its contract. Assumes nothing.
use Rattle.stretch.specs.Laws.{empty-taken}
use Rattle.groups.specs.Laws.{found_at_lem, found-full}
use Rattle.stretch.specs.Changes.{rule_of}
use Rattle.groups.proofs.Applying.{at_table, at-changed, at-leaves, full-refused, full-leaves, full-table}
use Rattle.groups.proofs.calls.apply.Goals as goal

pub apply_at-requires : goal.apply_at-requires
apply_at-requires c =
    let a = found_at_lem _ _ _ _ c.requires.found c.in-At.is in
    record { wf = c.requires.wf; k_bound = (a.inside, a.used); ready = rw (at_table _ _ _ _ c.requires.wf a) at c.requires.ready }

pub returns-in-At : goal.returns-in-At
returns-in-At c =
    rw c.in-At.is (record { changed_group = at-changed (rule_of c.args.change c.args.rows.now c.args.key.now c.args.value.now) _ _ c.args.xs.now c.args.bs.now _ _ _ c.requires.wf (found_at_lem _ _ _ _ c.requires.found c.in-At.is) c.apply_at.ensures.changed_at; leaves_slot = at-leaves c.args.change _ _ c.args.xs.now c.args.bs.now _ _ _ c.apply_at.ensures.changed_at c.apply_at.ensures.leaves_stretch })

pub returns-in-Full : goal.returns-in-Full
returns-in-Full c =
    let f = found-full _ _ _ c.requires.found c.in-Full.is in
    rw c.in-Full.is (record { changed_group = full-refused _ c.args.group c.args.xs.now c.args.bs.now c.requires.wf f (empty-taken c.args.change c.args.rows.now c.args.key.now c.args.value.now (rw (full-table c.args.group c.args.xs.now c.args.bs.now f) at c.requires.ready)); leaves_slot = full-leaves c.args.change _ c.args.xs.now c.args.bs.now })
