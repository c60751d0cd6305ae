pub mod Telling
pub mod Steps
pub mod Again
pub mod Words
pub mod Held
pub mod Puts
