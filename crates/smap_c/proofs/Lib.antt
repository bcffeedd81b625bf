pub mod BuildingLemmas
pub mod BytesLemmas
pub mod ComposingLemmas
pub mod LinkLemmas
pub mod LooseLemmas
pub mod MapLemmas
pub mod OwnerLemmas
pub mod ScriptLemmas
