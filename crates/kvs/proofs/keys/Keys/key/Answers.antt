-- `kvs::Keys::key` meets its contract. Assumes nothing.
use Rattle.kvs.proofs.Read.{row_in_lem}
use Rattle.kvs.proofs.keys.Keys.key.Goals as goal

pub key_at-requires : goal.key_at-requires
key_at-requires c = row_in_lem _ _ _ _ c.self.view_is c.args.i c.requires c.self.invariant
