pub mod CountLemmas
pub mod CutLemmas
pub mod DropLemmas
pub mod LeadingLemmas
pub mod ListLemmas
