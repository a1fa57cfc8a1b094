pub mod Bits
pub mod File
pub mod Status
pub mod Alerts
pub mod Commands
pub mod Writes
pub mod Reads
pub mod Reports
