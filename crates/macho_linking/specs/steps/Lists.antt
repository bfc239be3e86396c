-- Export lists that are read as one.
use Rattle.std.specs.Prelude.{◌≡◌, ℕ, List, [], Option, Some, None}
use Rattle.macho_export_lists.specs.Entries.{ListEntries, IsListOf}

-- a list of all entries, where there are lists
abbrev pub AreListsOf : List (List ℕ) → Option ListEntries → Type 0
AreListsOf texts None = texts ≡ []
AreListsOf texts (Some e) = (texts ≡ [] → ⊥) × IsListOf texts e
