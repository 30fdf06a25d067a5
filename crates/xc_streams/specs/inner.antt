-- What contracts of private functions cite: the answers of the system.
-- No public contract rests on this file.
pub mod Streams
