pub mod Tests
pub mod Wholes
pub mod Nodes
pub mod Shapes
pub mod Means
pub mod Joins
pub mod Guards
pub mod Codes
