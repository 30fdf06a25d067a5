pub mod Words
pub mod Shows
pub mod inner
