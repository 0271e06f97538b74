pub mod Texts
pub mod Causes
pub mod Help
pub mod Refusals
pub mod Report
