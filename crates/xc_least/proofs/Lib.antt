pub mod SetLemmas
pub mod RegionLemmas
pub mod HeldLemmas
pub mod PriceLemmas
pub mod FloorLemmas
