-- The steps of the code: which libraries are kept, and that a text says one thing in one way.
pub mod Libraries
