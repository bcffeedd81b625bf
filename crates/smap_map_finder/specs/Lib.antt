pub mod Choice
pub mod ChosenView
pub mod Finding
pub mod Searching
