pub mod Changes
pub mod Parts
pub mod Forms
pub mod Retooled
pub mod Refusals
pub mod Runs
pub mod steps
