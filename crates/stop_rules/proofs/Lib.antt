-- Lemmas, by subject.
pub mod ListLemmas
pub mod CodeLemmas
pub mod RunLemmas
pub mod EndLemmas
pub mod SeenLemmas
pub mod BlockLemmas
pub mod ReachLemmas
pub mod LineLemmas
pub mod SeatLemmas
pub mod ObservationLemmas
