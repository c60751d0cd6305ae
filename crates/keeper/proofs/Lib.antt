pub mod OneCall
pub mod Concern
pub mod Runs
pub mod Reach
