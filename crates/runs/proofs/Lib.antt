mod Calls
mod Outputs
mod Bits
mod Alerts
mod Statuses
mod Meets
