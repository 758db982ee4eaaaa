-- `log_batch::item::bytes_of` meets its contract. Assumes nothing.
use Rattle.log_batch.proofs.PlaceLaws.{lent-part, lent_length}
use Rattle.log_batch.proofs.item.bytes_of.Goals as goal

pub returns : goal.returns
returns c = record { result_value = lent-part _ _ _; result_len = lent_length _ _ _ c.requires }
