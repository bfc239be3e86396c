-- The code's own steps: what private functions say, and what loops keep. No clause of a public function cites them.
pub mod Planned
pub mod Spans
pub mod Personalities
pub mod Passing
pub mod Rooms
