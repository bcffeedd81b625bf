mod LimitLemmas
mod ListLemmas
pub mod LabelLemmas
mod ContentsLemmas
pub mod Examples
