pub mod Places
pub mod State
pub mod Calls
pub mod Inputs
