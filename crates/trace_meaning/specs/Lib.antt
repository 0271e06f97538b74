pub mod Gives
pub mod Guards
pub mod Groups
pub mod Counted
pub mod Weights
pub mod Assigning
pub mod Stepped
