-- The walks' own steps: no clause of a public function cites them.
pub mod Walks
pub mod Made
-- The rules' own steps, which no clause of a public function cites.
pub mod Asked
pub mod WordTests
