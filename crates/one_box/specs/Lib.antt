pub mod Script
pub mod Play
