-- Single sampling plans, and what counts decide under them.
pub mod SinglePlan
pub mod Decision
