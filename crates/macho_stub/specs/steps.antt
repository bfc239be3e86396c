-- The code's own steps: what private functions say, and what loops keep. No clause of a public function cites them.
pub mod Answer
pub mod Checks
pub mod Opened
pub mod Order
pub mod Reader
pub mod Rules
pub mod Trees
pub mod Whole
