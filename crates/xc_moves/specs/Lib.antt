pub mod Moves
pub mod Dancing
pub mod Places
pub mod Commits
pub mod inner
