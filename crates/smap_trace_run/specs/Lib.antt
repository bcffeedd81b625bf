pub mod Alone
pub mod Named
pub mod OutputView
pub mod Running
pub mod Runs
pub mod Written
