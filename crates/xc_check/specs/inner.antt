-- What contracts of private functions cite: the classes of options, and what the checker has read.
-- No public contract rests on this file.
pub mod Checking
pub mod Classes
pub mod Listings
