-- The steps of filling a plan: what its tables of names hold.
pub mod Holding
