pub mod Least
pub mod inner
