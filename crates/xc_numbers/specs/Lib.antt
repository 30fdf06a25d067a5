pub mod SignedNumbers
pub mod inner
