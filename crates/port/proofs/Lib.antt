pub mod Cases
pub mod Settling
pub mod Writing
