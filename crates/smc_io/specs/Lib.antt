pub mod Files
pub mod Counts
pub mod Bytes
pub mod Memory
