pub mod Changes
pub mod Counts
pub mod Drops
pub mod Leading
pub mod Lists
pub mod Naming
pub mod Showing
