-- The code's own steps: what private functions say, and what loops keep. No clause of a public function cites them.
pub mod Effects
pub mod KeptRoot
pub mod Options
pub mod Version
