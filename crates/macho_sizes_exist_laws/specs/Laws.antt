-- Laws on the sizes of links: the contracts of functions of `src/laws.rt`.
use Rattle.std.specs.Prelude.{◌≡◌, ℕ, ◌<◌, Bool, List, All}
use Rattle.macho_model.specs.declared.placed.Counts.{Counts}
use Rattle.macho_model.specs.Links.{Link, Input, Object, Dylib, Stub}
use Rattle.macho_model.specs.Told.{IsToldExport}
use Rattle.macho_promise.specs.Inputs.{IsInput}
use Rattle.macho_promise.specs.Sizes.{AreCounts}
use Rattle.macho_sizes_exist_laws.specs.Names.{IsSpelled}

-- each exported name can be spelled in a trie
abbrev pub ExportsAreSpelled : Link → Type 0
ExportsAreSpelled l = (name : List ℕ) (weak : Bool) → IsToldExport l name weak → IsSpelled name

-- such a link has sizes
abbrev pub SizesAre : Type 0
SizesAre = (l : Link) → ExportsAreSpelled l → (counts : Counts) × AreCounts l counts

-- and no other link has
abbrev pub SizesNeedSpelling : Type 0
SizesNeedSpelling = (l : Link) (counts : Counts) → AreCounts l counts → ExportsAreSpelled l

-- the bytes of an object and of a dynamic library are numbers below 256; those of a stub are, as it is UTF-8
abbrev pub HasBytes : Input → Type 0
HasBytes (Object bytes) = All (λ b. b < 256) bytes
HasBytes (Dylib bytes) = All (λ b. b < 256) bytes
HasBytes (Stub text says) = Unit {0}

-- THE sizes of a link: one list.
pub record HasSizes (l : Link) : Type 0 where
  pub counts : Counts
  pub are : AreCounts l counts
  pub one : (others : Counts) → AreCounts l others → others ≡ counts

-- a link of inputs that are what their bytes are has them
abbrev pub LinksHaveSizes : Type 0
LinksHaveSizes = (l : Link) → All IsInput l.inputs → All HasBytes l.inputs → HasSizes l
