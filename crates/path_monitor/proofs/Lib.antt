pub mod PairLemmas
pub mod SettlingLemmas
pub mod SeenLemmas
pub mod BitLemmas
