mod Examples
mod LimitLemmas
pub mod ListLemmas
pub mod DigitLemmas
pub mod NumberLemmas
pub mod UnsignedLemmas
pub mod ReadingLemmas
pub mod SpellingLemmas
pub mod SegmentLemmas
pub mod PrefixLemmas
pub mod ShortestLemmas
pub mod SpelledLemmas
pub mod LeastLemmas
pub mod SegmentLawLemmas
pub mod PiecesLemmas
