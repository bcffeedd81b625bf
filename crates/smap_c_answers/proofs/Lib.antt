mod Examples
pub mod FaultLemmas
pub mod MemoryLemmas
pub mod SpellingLemmas
