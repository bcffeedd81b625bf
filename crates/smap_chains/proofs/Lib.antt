pub mod ClosingLemmas
pub mod SearchLemmas
pub mod WayLemmas
