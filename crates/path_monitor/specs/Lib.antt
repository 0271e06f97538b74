pub mod Watching
pub mod Verdicts
pub mod Lanes
