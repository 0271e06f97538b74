pub mod OneLemmas
pub mod LineLemmas
pub mod DefiniteLineLemmas
pub mod WholeLemmas
pub mod ArrowLineLemmas
pub mod FormedLemmas
pub mod BeginLemmas
