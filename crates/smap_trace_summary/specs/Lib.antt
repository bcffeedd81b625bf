pub mod Builds
pub mod Ending
