-- `kvs::Keys::file` meets its contract. Assumes nothing.
use Rattle.kvs.proofs.Read.{row_in_lem, file_is}
use Rattle.kvs.proofs.keys.Keys.file.Goals as goal

pub file_at-requires : goal.file_at-requires
file_at-requires c = (row_in_lem _ _ _ _ c.self.view_is c.args.i c.requires c.self.invariant).rows_fit

pub returns : goal.returns
returns c = file_is _ _ _ _ c.self.view_is c.args.i c.requires _ c.file_at.ensures
