pub mod Growing
pub mod OneBox
