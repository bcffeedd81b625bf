pub mod ChoiceLemmas
pub mod ChosenLemmas
pub mod CopyLemmas
pub mod EndLemmas
pub mod GrowthLemmas
pub mod LinkLemmas
pub mod MapLemmas
