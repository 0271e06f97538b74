pub mod OppositeLemmas
pub mod RefusalLemmas
pub mod ToldLemmas
pub mod GoalLemmas
