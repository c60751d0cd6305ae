pub mod Signs
pub mod Lowest
pub mod Table
