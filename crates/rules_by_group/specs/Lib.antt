-- Merge and join group by group: what becomes of one group (`Group`), the work and its answer (`Stage`), what every context keeps (`Kept`),
-- and their laws.
pub mod Group
pub mod Stage
pub mod Kept
