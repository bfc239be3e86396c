-- The code's own steps, and parts of definitions by names that proofs use.
pub mod UnwindSays
-- Names that proofs use. No clause of a public function cites them.
pub mod Segments
