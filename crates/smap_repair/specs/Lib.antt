pub mod Halves
pub mod Hosts
pub mod Leading
pub mod Listed
pub mod Repairing
pub mod Members
pub mod Messages
pub mod Unmarking
