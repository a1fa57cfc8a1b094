pub mod Calls
pub mod Kept
pub mod Ledger
pub mod History
pub mod Laws
