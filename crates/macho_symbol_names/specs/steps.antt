-- The steps of the table of names: how notes are made, and how rows are taken in.
pub mod Levels
pub mod Notes
pub mod Tables
