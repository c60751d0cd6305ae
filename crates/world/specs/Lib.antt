pub mod Station
pub mod Turn
pub mod World
pub mod Runs
pub mod Promise
