pub mod Each
pub mod Replays
