pub mod Steps
pub mod Words
pub mod Back
pub mod Capitals
pub mod Fits
pub mod Whole
