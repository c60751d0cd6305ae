pub mod Noted
pub mod Home
pub mod Queries
pub mod Inputs
