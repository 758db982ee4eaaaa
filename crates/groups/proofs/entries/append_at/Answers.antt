-- `groups::entries::append_at` meets its contract. Assumes nothing.
use Rattle.stretch.specs.Changes.{rule_of}
use Rattle.groups.proofs.Applying.{lent_wf, entries-changed}
use Rattle.groups.proofs.entries.append_at.Goals as goal

pub append-requires : goal.append-requires
append-requires c = record { numbers_at = (lent_wf c.args.group c.args.k c.args.xs.now c.args.bs.now c.requires.wf c.requires.at_slot).numbers; lent = c.requires.lent }

pub returns : goal.returns
unfolding rule_of
returns c = entries-changed c.args.group c.args.k c.args.xs.now c.args.bs.now c.requires.wf c.requires.at_slot _ _ _ c.append.auto.p c.append.ensures.by_index
