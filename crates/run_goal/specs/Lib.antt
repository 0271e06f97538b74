pub mod Refusal
pub mod Goal
