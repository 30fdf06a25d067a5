pub mod Arguments
pub mod Flushes
pub mod Outputs
pub mod ShownNames
pub mod Streams
pub mod inner
