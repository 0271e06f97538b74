pub mod Gcd
pub mod Fraction
pub mod Arithmetic
pub mod Spelling
pub mod Taken
pub mod Digits
