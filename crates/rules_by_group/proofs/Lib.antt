-- The laws of what is said group by group.
pub mod ResultLaws
pub mod DeedLaws
pub mod StageLaws
pub mod ItemLaws
pub mod EntryLaws
pub mod KindLaws
pub mod LayLaws
pub mod JoinLaws
pub mod MergeLaws
pub mod PartLaws
pub mod WaitingLaws
pub mod ByGroupLaws
pub mod RunLaws
pub mod KeptLaws
pub mod RoomLaws
pub mod TableLaws
