-- The code's own steps: what private functions say, and what loops keep. No clause of a public function cites them.
pub mod Lists
pub mod Spelling
pub mod ListTrees
pub mod Bytes
pub mod Values
