pub mod Options
pub mod Values
pub mod Constants
pub mod Settings
pub mod Parse
