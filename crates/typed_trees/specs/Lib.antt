pub mod Leaves
pub mod Trees
pub mod Scopes
pub mod Numbers
