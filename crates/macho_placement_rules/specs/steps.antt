-- The code's own steps: what private functions say, and what loops keep. No clause of a public function cites them.
pub mod Lists
pub mod Lying
pub mod Parts
pub mod Pieces
pub mod Rules
pub mod Segments
pub mod Template
