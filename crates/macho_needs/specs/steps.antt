-- The steps of noting a use.
pub mod Leads
