pub mod Tables
pub mod Sorting
pub mod Evaluating
pub mod Keeping
pub mod Constants
pub mod Refusals
pub mod Listing
