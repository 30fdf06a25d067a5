-- What contracts of private functions cite: lists that lose options, the tables, and walks over them.
-- No public contract rests on this file.
pub mod Lists
pub mod Tables
pub mod Walks
