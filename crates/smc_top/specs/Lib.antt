pub mod Codes
pub mod RingCheck
pub mod Asked
pub mod Report
pub mod RingAnswer
pub mod Outside
pub mod Stopped
