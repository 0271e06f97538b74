-- What ends a run, and what its observers make of it.
pub mod Decision
pub mod Seen
pub mod Run
pub mod Codes
pub mod Observers
pub mod Seats
