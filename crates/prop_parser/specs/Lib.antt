pub mod Properties
pub mod Parts
pub mod Begins
