pub mod Begins
pub mod Longest
pub mod Follow
pub mod Parts
