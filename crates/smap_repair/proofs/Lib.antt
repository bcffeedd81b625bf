pub mod LeadLemmas
pub mod MemberLemmas
