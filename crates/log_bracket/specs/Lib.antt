-- Numbers as a power of two times a mantissa, their squares, and the bracket that repeated squaring gives.
pub mod Scaled
pub mod Bracket
