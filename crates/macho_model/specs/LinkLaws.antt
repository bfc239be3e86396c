-- Laws of links: equal inputs give equal definitions, and what one input more adds.
use Rattle.std.specs.Prelude.{◌≡◌, ℕ, Bool, true, ◌&&◌, List, [], ◌∷◌, ◌++◌, length, filter}
use Rattle.std.specs.List.{position_or_len}
use Rattle.macho_records.specs.Symbols.{is_common_of}
use Rattle.macho_model.specs.Links.{Input, Link, sections_of_file, sections_of, carried_of}
use Rattle.macho_model.specs.Resolution.{SymbolId, same_symbol, symbols_of_file, symbols_of, entry_at, definition_of, defines, chosen_commons}
use Rattle.macho_model.specs.Needs.{imports_of}
use Rattle.macho_model.specs.Targets.{target_of, slots_of, stubs_of}
use Rattle.macho_model.specs.Uses.{target_with}

-- a name has one definition by the inputs, and a symbol one target where the same imports are noted
abbrev pub DefinitionsAgree : Type 0
DefinitionsAgree = (l m : Link) (name : List ℕ) → l.inputs ≡ m.inputs → definition_of l name ≡ definition_of m name

abbrev pub NotedTargetsAgree : Type 0
NotedTargetsAgree = (l m : Link) (noted : List (List ℕ)) (s : SymbolId) → l.inputs ≡ m.inputs
    → target_with l noted s ≡ target_with m noted s

-- the commons and the carried sections are those of the inputs
abbrev pub CommonsAgree : Type 0
CommonsAgree = (l m : Link) → l.inputs ≡ m.inputs → chosen_commons l ≡ chosen_commons m

abbrev pub CarriedAgree : Type 0
CarriedAgree = (l m : Link) → l.inputs ≡ m.inputs → carried_of l ≡ carried_of m

-- imports, slots and stubs are those of the inputs and the export lists
abbrev pub ImportsAgree : Type 0
ImportsAgree = (l m : Link) → l.inputs ≡ m.inputs → l.export_lists ≡ m.export_lists → imports_of l ≡ imports_of m

abbrev pub SlotsAgree : Type 0
SlotsAgree = (l m : Link) → l.inputs ≡ m.inputs → l.export_lists ≡ m.export_lists → slots_of l ≡ slots_of m

abbrev pub StubsAgree : Type 0
StubsAgree = (l m : Link) → l.inputs ≡ m.inputs → l.export_lists ≡ m.export_lists → stubs_of l ≡ stubs_of m

-- the final target of a symbol is that where all imports are noted
abbrev pub AllAreNoted : Type 0
AllAreNoted = (l : Link) (s : SymbolId) → target_of l s ≡ target_with l (imports_of l) s

-- a link with one input more
abbrev pub with_input : Link → Input → Link
with_input l x = record l { inputs = l.inputs ++ x ∷ [] }

-- its symbols and sections are those from before, and then those of the input
abbrev pub SymbolsGrow : Type 0
SymbolsGrow = (l : Link) (x : Input) → symbols_of (with_input l x) ≡ symbols_of l ++ symbols_of_file (length l.inputs) x

abbrev pub SectionsGrow : Type 0
SectionsGrow = (l : Link) (x : Input) → sections_of (with_input l x) ≡ sections_of l ++ sections_of_file (length l.inputs) x

-- a common is the one that defines its name
abbrev pub is_chosen : Link → SymbolId → Bool
is_chosen l s = is_common_of (entry_at l s) && defines l s

-- the number of a chosen common is how many chosen ones stand before it
abbrev pub CommonsAreCounted : Type 0
CommonsAreCounted =
    (l : Link) (before after : List SymbolId) (s : SymbolId) → symbols_of l ≡ before ++ s ∷ after → is_chosen l s ≡ true
    → position_or_len (same_symbol s) (chosen_commons l) ≡ length (filter (is_chosen l) before)
