pub mod Yard
pub mod Rings
pub mod Order
pub mod Found
pub mod Needed
