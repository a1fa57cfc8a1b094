pub mod Exclusive
pub mod Pins
pub mod Relays
