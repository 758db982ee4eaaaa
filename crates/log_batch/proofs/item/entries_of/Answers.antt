-- `log_batch::item::entries_of` meets its contract. Assumes nothing.
use Prim.Native.Nat.{◌*◌}
use native.Mathlib.Omega.{arith}
use Rattle.log_batch.proofs.PlaceLaws.{lent-part, lent_length}
use Rattle.log_batch.proofs.item.entries_of.Goals as goal

pub returns : goal.returns
returns c = record { result_value = lent-part _ _ _; result_len = lent_length (c.args.at * 8) (c.args.count * 8) c.args.entries.now (omega arith) }
