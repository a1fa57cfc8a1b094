pub mod Codes
pub mod Sinks
