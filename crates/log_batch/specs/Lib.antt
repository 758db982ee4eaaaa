-- What the contracts of `log_batch` cite.
pub mod Lent
pub mod Batch
pub mod Judged
pub mod OpenLaws
pub mod PassedLaws
pub mod Plain
pub mod Queues
