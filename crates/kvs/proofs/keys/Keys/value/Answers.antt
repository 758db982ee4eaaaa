-- `kvs::Keys::value` meets its contract. Assumes nothing.
use Rattle.kvs.proofs.Read.{row_in_lem}
use Rattle.kvs.proofs.keys.Keys.value.Goals as goal

pub value_at-requires : goal.value_at-requires
value_at-requires c = row_in_lem _ _ _ _ c.self.view_is c.args.i c.requires c.self.invariant
