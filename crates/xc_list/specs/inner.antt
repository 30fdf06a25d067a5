-- What contracts of private functions cite: the layout of options, how far a search went.
-- No public contract rests on this file.
pub mod Writing
