mod Examples
pub mod LineLemmas
pub mod ListLemmas
pub mod MapsLemmas
pub mod NumberLemmas
pub mod ReadingLemmas
pub mod RowLemmas
pub mod SplitLemmas
pub mod TextLemmas
pub mod TraceLemmas
pub mod ViewLemmas
