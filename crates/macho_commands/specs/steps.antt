-- The steps of writing a command: what the writers of records ask, and what they say of the records behind one.
pub mod Writing
