pub mod DistinctLemmas
pub mod ListLemmas
pub mod TextLemmas
pub mod EqualLemmas
pub mod SourceUrlLemmas
pub mod RelativeLemmas
pub mod FewerLemmas
pub mod NumberedLemmas
pub mod StepLemmas
pub mod EntryLemmas
pub mod FlagLemmas
pub mod OnceLemmas
pub mod FitLemmas
pub mod FlatLemmas
mod OwnedLemmas
pub mod JoinedLemmas
pub mod SectionLemmas
mod WrittenLemmas
mod WrittenUrlLemmas
mod UrlBytesLemmas
pub mod DepthLemmas
pub mod LevelLemmas
pub mod OneLevelLemmas
mod Examples
pub mod StabilityLemmas
pub mod EndedLemmas
