pub mod Holder
pub mod Homes
pub mod Range
pub mod Table
pub mod Reading
pub mod Written
pub mod Promises
pub mod Journal
