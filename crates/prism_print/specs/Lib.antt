pub mod Decimals
pub mod Pieces
pub mod Layout
pub mod Printed
pub mod Reading
