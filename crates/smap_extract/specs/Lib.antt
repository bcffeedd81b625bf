pub mod Laws
pub mod Paths
pub mod Places
pub mod Renaming
pub mod Segments
pub mod Spans
