pub mod DecisionLemmas
