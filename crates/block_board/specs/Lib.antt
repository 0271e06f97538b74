pub mod Counts
pub mod Steps
pub mod Race
pub mod KeepsRule
pub mod IsSound
pub mod Identity
pub mod Told
