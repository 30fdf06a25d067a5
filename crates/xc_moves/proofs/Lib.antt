pub mod MoveLemmas
pub mod LeftLemmas
pub mod PlaceLemmas
pub mod PlaceAnswers
