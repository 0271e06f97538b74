pub mod Outcome
pub mod Lexemes
pub mod Scan
pub mod Blanks
pub mod Steps
