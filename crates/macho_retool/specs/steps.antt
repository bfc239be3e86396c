-- The code's own steps: what private functions say, and what loops keep. No clause of a public function cites them.
pub mod Named
pub mod Formed
pub mod PartLists
pub mod Rewritten
pub mod Clear
pub mod Spliced
pub mod Asked
