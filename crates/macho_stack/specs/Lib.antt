pub mod Blocks
pub mod Costs
pub mod Stacks
pub mod Ranks
pub mod Rows
pub mod Tables
