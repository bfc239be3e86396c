pub mod Tables
pub mod Noted
pub mod Laws
pub mod steps
