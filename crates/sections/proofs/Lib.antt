pub mod Words
pub mod Lists
pub mod Tables
pub mod Sound
pub mod Rows
pub mod Turns
pub mod Runs
