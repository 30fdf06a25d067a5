pub mod ClauseLemmas
pub mod DerivationLemmas
pub mod TrailLemmas
