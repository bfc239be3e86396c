-- The code's own steps: what private functions say. No clause of a public function cites them.
pub mod Groups
pub mod Sections
