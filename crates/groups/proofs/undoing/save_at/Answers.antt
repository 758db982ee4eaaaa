-- `groups::undoing::save_at` meets its contract. Assumes nothing.
use Rattle.groups.proofs.Savings.{entries-few}
use Rattle.groups.proofs.Securings.{keys-ready, covering-rows, covering-keys}
use Rattle.groups.proofs.undoing.save_at.Goals as goal

pub save_header-requires-clause-xs_bound : goal.save_header-requires-clause-xs_bound
save_header-requires-clause-xs_bound c = entries-few _ _ (c.requires.restorable.used c.requires.xs_value)

pub save_keys-requires : goal.save_keys-requires
save_keys-requires c =
    let both = keys-ready c.args.k c.args.first c.args.xs.now c.args.bs.now _ _ c.requires.restorable c.requires.xs_value c.save_header.ensures c.save_rows.ensures in
    record { restorable = both.0; bound = both.1 }

pub returns-then-keys : goal.returns-then-keys
returns-then-keys c =
    covering-keys c.args.k c.args.first c.args.xs.now c.args.bs.now _ _ c.requires.restorable c.requires.xs_value c.save_header.ensures c.save_rows.ensures c.args.keys _ _ c.save_keys.ensures

pub returns-else-keys : goal.returns-else-keys
returns-else-keys c =
    covering-rows c.args.k c.args.first c.args.xs.now c.args.bs.now _ _ c.requires.restorable c.requires.xs_value c.save_header.ensures c.save_rows.ensures c.args.keys c.if-keys.false
