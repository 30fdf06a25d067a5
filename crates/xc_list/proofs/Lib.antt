pub mod OutputLemmas
pub mod RowOrder
pub mod SpanLemmas
pub mod Writing
pub mod ProblemTexts
pub mod TextDigests
