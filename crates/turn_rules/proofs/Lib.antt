pub mod MemberLemmas
pub mod RuleLemmas
pub mod ViaLemmas
