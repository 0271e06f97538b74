pub mod Places
pub mod Refusals
pub mod Outcome
pub mod Expressions
pub mod Models
pub mod Steps
