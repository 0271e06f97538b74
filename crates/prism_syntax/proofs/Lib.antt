pub mod NumberLemmas
pub mod ListedLemmas
pub mod TableLemmas
pub mod SpellingLemmas
pub mod InverseLemmas
