pub mod Codes
pub mod Starts
pub mod Meaning
pub mod Lines
pub mod Same
pub mod Words
