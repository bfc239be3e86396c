-- The steps of the resolver: how it holds what it keeps, and the order in which it takes its inputs.
pub mod Exporting
pub mod Solved
pub mod Targets
