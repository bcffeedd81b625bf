pub mod JoinedLemmas
pub mod NestedLemmas
pub mod LastLemmas
pub mod SegmentLemmas
pub mod SegmentCountLemmas
pub mod LineLemmas
pub mod ColumnLemmas
mod Examples
