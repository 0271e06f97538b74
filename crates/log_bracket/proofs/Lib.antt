pub mod PowerLemmas
pub mod SquareLemmas
pub mod RunLemmas
pub mod StartLemmas
pub mod BracketLemmas
