-- The steps of the link: a link that is planned, what each pass writes, and why an image isn't written.
pub mod Lists
pub mod Planned
pub mod Unwritten
pub mod Written
pub mod Sealing
pub mod Imaged
