pub mod Least
pub mod OneList
pub mod Rows
mod Noted
mod Deciding
mod Known
mod Archives
mod Starts
mod Counted
mod Members
mod Places
mod Search
mod Listing
