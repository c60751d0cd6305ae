pub mod Looking
pub mod FindMap
pub mod Found
pub mod Reach
pub mod Promised
