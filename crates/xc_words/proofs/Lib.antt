pub mod BitLemmas
pub mod BranchLemmas
pub mod SetLemmas
pub mod FairLemmas
pub mod TakingLemmas
pub mod FewestLemmas
