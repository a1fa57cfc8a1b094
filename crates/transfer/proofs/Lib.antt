pub mod Tables
pub mod Apart
