pub mod Told
pub mod Steps
pub mod Again
pub mod Held
pub mod Puts
