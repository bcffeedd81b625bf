pub mod NamedLemmas
pub mod PickLemmas
