pub mod Cnf
pub mod Meanings
pub mod Reported
pub mod inner
