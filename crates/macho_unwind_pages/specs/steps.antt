-- The code's own steps: what private functions say, and what loops keep. No clause of a public function cites them.
pub mod Paging
pub mod Planning
pub mod Ranks
pub mod Tallies
pub mod Words
pub mod Entries
pub mod Plans
