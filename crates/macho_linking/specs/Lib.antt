pub mod Planning
pub mod steps
