pub mod BeginningLemmas
pub mod Examples
pub mod LogLemmas
pub mod NameLemmas
pub mod NamingLemmas
pub mod SpanLemmas
pub mod WholeLemmas
