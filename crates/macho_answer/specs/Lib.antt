pub mod Errors
pub mod Standing
-- what crates above take of those below
pub use Rattle.macho_promise.specs.Sizes
pub use Rattle.macho_promise.specs.Promise
pub mod Linked
