pub mod ListLemmas
pub mod ByteLemmas
pub mod NumberLemmas
pub mod LineLemmas
pub mod SinkLemmas
