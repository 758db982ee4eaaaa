-- `staging::tombs::bury_item` meets its contract. Assumes nothing.
use Rattle.staging.proofs.TombWays.{buried-taken}
use Rattle.staging.proofs.tombs.bury_item.Goals as goal

pub act-requires : goal.act-requires
act-requires c =
    record { wf = c.requires.wf; taken = rw (c.deed_of-deed.ensures, c.rows_in-rows.ensures, c.key_in-key.ensures, c.value_in-value.ensures) (buried-taken c.args.group c.args.item _ _ _ c.requires.bytes_value c.requires.within) }
