-- What contracts of private functions cite: what is stored, what builders hold, and the lines of a text.
-- No public contract rests on this file.
pub mod Stored
pub mod Builders
pub mod Feeding
pub mod CutTokens
pub mod Stages
