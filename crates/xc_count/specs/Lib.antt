pub mod Number
pub mod Occurrences
pub mod Turns
pub mod inner
