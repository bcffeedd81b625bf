mod Examples
mod LimitLemmas
pub mod ArrangementLemmas
pub mod OrderLemmas
pub mod LinesLemmas
pub mod ValueLemmas
pub mod StepsLemmas
pub mod ScanLemmas
pub mod DecodedLemmas
pub mod TextLemmas
pub mod EncodingLemmas
pub mod RunningTextLemmas
pub mod ReadBackLemmas
pub mod LawLemmas
pub mod LengthLemmas
pub mod WholeSegmentLemmas
pub mod PiecesLemmas
pub mod ReaderLemmas
pub mod CountLemmas
pub mod SeparatorLemmas
pub mod LeastLemmas
pub mod WidthLemmas
pub mod EndLemmas
