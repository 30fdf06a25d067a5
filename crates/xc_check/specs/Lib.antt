pub mod ListingLines
pub mod UseTexts
pub mod Listed
pub mod inner
