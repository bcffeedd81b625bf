pub mod AloneLemmas
pub mod AskedLemmas
pub mod NamedLemmas
pub mod PartsLemmas
pub mod RunLemmas
pub mod RunningLemmas
pub mod SettledLemmas
pub mod TracedLemmas
