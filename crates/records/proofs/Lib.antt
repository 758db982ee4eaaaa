pub mod FillWays
pub mod PlanWays
pub mod RowWays
