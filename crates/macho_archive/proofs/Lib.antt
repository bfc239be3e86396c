pub mod Digits
pub mod Lines
pub mod LongNames
pub mod OneMore
pub mod Refusals
pub mod Rows
