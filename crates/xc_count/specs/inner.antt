-- What contracts of private functions cite: plans, keys, layers of states, and what these are worth.
-- No public contract rests on this file.
pub mod Added
pub mod ByOption
pub mod Held
pub mod Keys
pub mod Layers
pub mod Numbered
pub mod Passed
pub mod Plans
pub mod Searching
pub mod Worth
