pub mod Chase
pub mod Search
pub mod Exactly
pub mod Listing
