pub mod Offered
pub mod Writable
pub mod Text
pub mod Answer
pub mod Runs
pub mod steps
