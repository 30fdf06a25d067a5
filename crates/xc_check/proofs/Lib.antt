pub mod CheckLemmas
pub mod ClassLemmas
pub mod CountedCovers
