pub mod Composed
pub mod Leads
pub mod Laws
pub mod Template
