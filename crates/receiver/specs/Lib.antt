pub mod Capacity
pub mod Slots
pub mod Waiting
pub mod Texts
pub mod Receiving
pub mod Same
