-- The code's own steps: what private functions say, and what loops keep. No clause of a public function cites them.
pub mod Building
pub mod Layouts
pub mod Lookup
pub mod Says
pub mod Sorting
pub mod Symbols
pub mod Trees
pub mod Walking
pub mod Stacks
