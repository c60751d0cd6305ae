pub mod Chase
pub mod Lists
pub mod Turned
pub mod Sound
pub mod Exact
