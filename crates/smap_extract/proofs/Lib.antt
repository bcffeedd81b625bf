pub mod PathLemmas
pub mod PlaceLemmas
pub mod RenameLemmas
pub mod SafeLemmas
