mod BundleExamples
pub mod BundleLawLemmas
pub mod BundleLemmas
pub mod CheckLemmas
pub mod ComputedLemmas
pub mod EntryLemmas
mod Examples
pub mod HeaderLemmas
pub mod LawLemmas
mod LimitLemmas
pub mod LinkLemmas
pub mod ListingLemmas
pub mod ParsedLemmas
pub mod RangeLemmas
pub mod ReachLemmas
pub mod RespellLemmas
pub mod RoundTripLemmas
pub mod RowLemmas
pub mod RunLemmas
pub mod SameTranslationLemmas
pub mod ScriptLemmas
pub mod StopLemmas
pub mod TextLemmas
pub mod TranslateLemmas
pub mod ValueLemmas
pub mod WordsLemmas
