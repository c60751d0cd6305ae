pub mod Net
pub mod Promise
pub mod Cases
