-- What contracts of private functions cite: where a search for fair sets stands.
-- No public contract rests on this file.
pub mod Fair
