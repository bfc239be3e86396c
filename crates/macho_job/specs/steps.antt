-- The code's own steps: what private functions say, and what loops keep. No clause of a public function cites them.
pub mod Found
pub mod Gathering
pub mod Objects
pub mod Parts
pub mod Generator
pub mod Job
