pub mod Segments
pub mod Numbers
pub mod Telling
pub mod Tables
