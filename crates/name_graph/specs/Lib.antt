pub mod Graph
pub mod Told
pub mod PartOrder
pub mod Search
pub mod Ranks
