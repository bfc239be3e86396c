pub mod Lines
pub mod Reports
pub mod Runs
pub mod Tries
pub mod steps
