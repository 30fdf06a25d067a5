-- What contracts of private functions cite: claims, lists of options, and sums of weights.
-- No public contract rests on this file.
pub mod Claims
pub mod Holders
pub mod Weights
