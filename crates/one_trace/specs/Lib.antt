pub mod Numbers
pub mod Rows
pub mod Known
pub mod Kept
pub mod Work
pub mod Underway
pub mod Visits
pub mod Standing
