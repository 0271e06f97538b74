pub mod Draws
pub mod Pick
