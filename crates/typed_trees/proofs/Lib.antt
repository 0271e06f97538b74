pub mod BindLemmas
pub mod PartLemmas
pub mod TableLemmas
pub mod TypedLemmas
pub mod AllowedLemmas
pub mod LeafLemmas
