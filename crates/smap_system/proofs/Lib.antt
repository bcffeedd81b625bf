pub mod ListingLemmas
pub mod PathLemmas
pub mod WalkLemmas
