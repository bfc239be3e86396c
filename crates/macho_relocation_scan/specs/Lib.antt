pub mod Surveys
pub mod steps
