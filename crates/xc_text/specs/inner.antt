-- What contracts of private functions cite: how a reader of lines comes to the next one.
-- No public contract rests on this file.
pub mod LineFeeds
