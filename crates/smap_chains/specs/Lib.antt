pub mod Chains
pub mod Closing
pub mod Search
pub mod SourceMaps
