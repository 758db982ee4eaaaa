-- `groups::calls::apply_at` meets its contract. Assumes nothing.
use Rattle.stretch.specs.Changes.{rule_of}
use Rattle.stretch.specs.Laws.{wf_any, table-short}
use Rattle.groups.proofs.Applying.{lent_numbers, lent-bytes, changed_back, leaves_back}
use Rattle.groups.proofs.calls.apply_at.Goals as goal

pub apply-requires : goal.apply-requires
apply-requires c =
    rw (lent_numbers c.args.k c.args.xs.now, lent-bytes c.args.k c.args.bs.now) (let w = c.requires.wf.used c.args.k c.requires.k_bound.0 c.requires.k_bound.1 in
    record { wf_at = wf_any _ _ w; ready = rw (table-short _ _ w.numbers.numbers-are) c.requires.ready })

pub returns : goal.returns
returns c =
    record { changed_at = changed_back (rule_of c.args.change c.args.rows.now c.args.key.now c.args.value.now) c.args.k c.args.xs.now c.args.bs.now _ _ _ c.requires.k_bound.0 c.requires.wf.numbers_fit c.requires.wf.bytes_fit c.apply.auto.p c.apply.auto.b c.apply.ensures.changed_at; leaves_stretch = leaves_back c.args.change c.args.k c.args.xs.now c.args.bs.now _ _ c.requires.k_bound.0 c.requires.wf.numbers_fit c.requires.wf.bytes_fit c.apply.auto.p c.apply.auto.b c.apply.ensures.leaves_at }
