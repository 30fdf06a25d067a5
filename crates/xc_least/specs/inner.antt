-- What contracts of private functions cite: regions of a search, its tables, and prices.
-- No public contract rests on this file.
pub mod Regions
pub mod Held
pub mod Prices
