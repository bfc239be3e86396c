-- The code's own steps: what private functions say, and what loops keep. No clause of a public function cites them.
pub mod Entries
pub mod Values
pub mod Names
pub mod Listing
pub mod Counting
