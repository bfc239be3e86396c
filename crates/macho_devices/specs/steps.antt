-- The steps of the devices.
pub mod Beside
