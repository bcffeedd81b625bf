pub mod Comments
pub mod Data
pub mod Ids
