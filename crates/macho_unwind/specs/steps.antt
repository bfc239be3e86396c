-- The code's own steps: what private functions say, and what loops keep. No clause of a public function cites them.
pub mod Conditions
pub mod Parts
pub mod Planned
pub mod Says
pub mod Tables
pub mod Records
pub mod Sections
pub mod Texts
