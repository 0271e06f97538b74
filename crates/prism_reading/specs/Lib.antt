pub mod Reach
pub mod Reading
pub mod Sequences
pub mod Begins
