-- A sequential probability ratio test: its numbers, its boundaries, what counts decide, and the settings that make it.
pub mod SequentialTest
pub mod Side
pub mod Sums
pub mod Decision
pub mod Settings
pub mod Kept
