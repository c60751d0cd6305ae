pub mod Log
pub mod Emit
pub mod Model
pub mod Keeping
pub mod Handle
pub mod Opening
