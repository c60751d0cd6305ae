pub mod Table
pub mod Bytes
pub mod Sound
pub mod Sets
pub mod Queues
pub mod Layout
pub mod Model
pub mod Promise
