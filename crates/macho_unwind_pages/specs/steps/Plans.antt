-- Parts of the definitions of `Plans`, by names that proofs use.
use Rattle.macho_unwind_pages.specs.declared.paging.Row.{Row}
use Rattle.std.specs.Prelude.{ℕ, ◌-◌, List, Option, option_map, ◌≡◌, Some, IfSome, slice_get}
use Rattle.macho_unwind_pages.specs.declared.entries.ResolvedUnwindInfo.{ResolvedUnwindInfo}
use Rattle.macho_unwind_pages.specs.Entries.{input_of, code_in, place_in}
use Rattle.macho_unwind_pages.specs.declared.plans.Lsda.{Lsda}

-- the function of an entry: how far it starts behind the text, and its code
abbrev pub row_from : ℕ → List ℕ → ResolvedUnwindInfo → Row
row_from text ids e = record { start = e.start - text; code = code_in ids (input_of e) }

-- the language-specific data of an entry
abbrev pub lsda_from : ℕ → ResolvedUnwindInfo → Option Lsda
lsda_from text e = option_map (λ address. record { function = e.start - text; lsda = address - text }) e.lsda

-- The slot of each entry's personality stands at its number.
abbrev pub HasSlot : ℕ → List ℕ → List ℕ → ResolvedUnwindInfo → Type 0
HasSlot text ids slots e = IfSome e.personality (λ p. slice_get slots (place_in ids p.id) ≡ Some (p.slot - text))
