pub mod Bytes
pub mod OneWay
pub mod Split
pub mod Upward
