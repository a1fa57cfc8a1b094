pub mod Refusals
pub mod Texts
pub mod Registers
pub mod Decode
