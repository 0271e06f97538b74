pub mod MarkLemmas
pub mod SearchLemmas
pub mod PartOrderLemmas
pub mod StuckLemmas
pub mod RankLemmas
pub mod GraphLemmas
