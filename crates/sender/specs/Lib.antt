pub mod Spans
pub mod Texts
pub mod Sendings
pub mod Append
pub mod Transmit
pub mod Life
pub mod Same
