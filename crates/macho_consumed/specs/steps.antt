-- The steps of the code: tables by place, and what each pass keeps so far.
pub mod Alone
pub mod Places
pub mod Checked
pub mod Slots
pub mod Sections
pub mod Entries
pub mod Listed
pub mod Gathered
pub mod Inputs
