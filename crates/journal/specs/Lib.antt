pub mod Effect
pub mod Fault
pub mod Gather
pub mod Memory
pub mod Opening
pub mod Storage
