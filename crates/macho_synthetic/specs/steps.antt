-- The steps of the code: offsets and entries by the look-ups alone. No clause of a public function cites them.
pub mod Offsets
pub mod Built
