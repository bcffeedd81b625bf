pub mod Layout
pub mod Canonical
pub mod Laws
pub mod RoundTrips
pub mod Spelling
pub mod Writing
pub mod Numbering
pub mod Sameness
