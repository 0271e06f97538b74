pub mod Places
pub mod Words
pub mod Nesting
pub mod Arrows
pub mod Limits
pub mod NestingCounts
pub mod ChainWalk
pub mod ArrowWalk
