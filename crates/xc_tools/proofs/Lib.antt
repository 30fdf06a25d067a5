pub mod RunLemmas
pub mod SpanWords
pub mod SpanLines
pub mod Chains
pub mod TakenLines
pub mod ReadTexts
pub mod Stopped
pub mod Written
