-- The steps of filling: one section taken care of, and the first ones.
pub mod Sections
