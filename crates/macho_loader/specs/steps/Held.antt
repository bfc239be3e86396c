-- What a look-up by address says of the segments.
use Rattle.std.specs.Prelude.{ℕ, ◌+◌, ◌%◌, ◌^◌, List}
use Rattle.macho_model.specs.Images.{Table, import_entry, import_name}
use Rattle.macho_model.specs.Loader.{ordinal_of}
use Rattle.macho_model.specs.Memory.{bind_addend}
use Rattle.macho_model.specs.ReadBack as model
use Rattle.macho_image_walks.specs.declared.walk.Listed.TheVariants as list
use Rattle.macho_image_walks.specs.Readings.{IsNth, HasWord, segment_there}
use Rattle.macho_image_walks.specs.steps.Walks.{Leads}
use Rattle.macho_image_walks.specs.steps.WordTests.{address_in}
use Rattle.macho_loader.specs.declared.fixups.Held.{Held}
use Rattle.macho_loader.specs.steps.Words.{IsReached}

-- a word that a segment has at an address; or no segment has one
pub record IsHeld (b : List ℕ) (address : ℕ) (h : Held) : Type 0 where
  pub nth : IsNth list.Segments b h.number h.place
  pub has : HasWord b (segment_there b h.place) address h.word

-- the segment with a number has no word at an address, and none has
abbrev pub NthHasNoWord : List ℕ → ℕ → ℕ → Type 0
NthHasNoWord b number address = (place word : ℕ) → IsNth list.Segments b number place → HasWord b (segment_there b place) address word → ⊥

abbrev pub HasNoWord : List ℕ → ℕ → Type 0
HasNoWord b address = (number : ℕ) → NthHasNoWord b number address

-- a walk is on its way from an offset to another one: what the first leads to is what it leads to from where it stands
pub record IsOnWay (b : List ℕ) (place page from to offset : ℕ) : Type 0 where
  pub reached : IsReached b place page from offset
  pub onward : Leads b (address_in b place from) (address_in b place to) → Leads b (address_in b place offset) (address_in b place to)

-- what a word that binds says by a table
abbrev pub import_said : List ℕ → Table → ℕ → model.LoadedFixup
import_said b t word =
    model.LoadedFixup.Bind (import_entry b t (ordinal_of word)).library (import_name b t (import_entry b t (ordinal_of word)))
    (((import_entry b t (ordinal_of word)).addend + bind_addend word) % 2 ^ 64)
