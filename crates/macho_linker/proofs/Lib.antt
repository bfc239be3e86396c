mod LastPart
pub mod OneReading
pub mod Taking
