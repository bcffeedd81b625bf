pub mod Answers
pub mod Codes
pub mod FaultWords
pub mod FileKinds
pub mod Memory
pub mod Named
pub mod Spelling
pub mod Strings
