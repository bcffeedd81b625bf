pub mod AmountLemmas
pub mod CommentLemmas
pub mod EmbeddingLemmas
pub mod OwnerLemmas
pub mod PlaceLemmas
pub mod ReachLemmas
pub mod TreeLemmas
mod Examples
