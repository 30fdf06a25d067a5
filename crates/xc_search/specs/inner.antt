-- What contracts of private functions cite: the steps of a search, and words for few options.
-- No public contract rests on this file.
pub mod Ahead
pub mod Levels
pub mod Spanning
pub mod Few
pub mod Filled
pub mod FewBounded
