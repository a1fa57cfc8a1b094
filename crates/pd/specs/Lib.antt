pub mod Lengths
pub mod Room
pub mod Held
pub mod Texts
pub mod Kinds
pub mod Headers
pub mod Messages
