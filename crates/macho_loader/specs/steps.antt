-- The code's own steps: what private functions say, and what loops keep. No clause of a public function cites them.
pub mod Cursors
pub mod Names
pub mod Words
pub mod Held
pub mod Listing
pub mod Blank
