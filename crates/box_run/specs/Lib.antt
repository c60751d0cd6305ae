pub mod Asked
pub mod Lines
pub mod Opening
pub mod Own
pub mod Serve
pub mod Text
