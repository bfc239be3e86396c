-- How export lists are read and kept.
pub mod Ends
pub mod Indexed
pub mod Lines
pub mod Lists
pub mod Matching
pub mod Tables
