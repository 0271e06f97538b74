pub mod Stops
pub mod Stages
pub mod Models
pub mod Properties
