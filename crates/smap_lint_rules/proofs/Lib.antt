pub mod WalkLemmas
pub mod ShareLemmas
pub mod ContentLemmas
pub mod IdLemmas
pub mod MarkLemmas
pub mod MemberLemmas
pub mod SourceLemmas
