pub mod Stopping
pub mod Storing
