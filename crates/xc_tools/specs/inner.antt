-- What contracts of private functions cite: how the texts of spans are read and joined, and the end of a run.
-- No public contract rests on this file.
pub mod SpanLines
pub mod Joining
pub mod Finished
