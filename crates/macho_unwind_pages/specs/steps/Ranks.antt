-- Counting codes, and numbering those that every page may name.
use Rattle.std.specs.Prelude.{◌≡◌, ℕ, ◌<◌, ◌==◌, if◌then◌else◌, None, Some, nat_eq, List, length, slice_index}
use Rattle.indexmap.specs.IndexMap.{IndexMap, get}
use Rattle.macho_unwind_pages.specs.Orders.{in_order}
use Rattle.macho_unwind_pages.specs.Entries.{times}
use Rattle.macho_unwind_pages.specs.steps.Entries.{ranks_before}

-- the codes of a list by rank, each once
abbrev pub ranked : List ℕ → List ℕ
ranked codes = in_order (ranks_before codes) codes

-- A table has how often each code of a list stands there, and no other codes.
abbrev pub Counts : {S : Type 0} → List ℕ → IndexMap ℕ ℕ S → Type 0
Counts codes counts =
    (code : ℕ) → get nat_eq counts code ≡ (if times codes code == 0 then None else Some (times codes code))

-- the code of a number in a list
abbrev pub IsNumberOf : List ℕ → ℕ → ℕ → Type 0
IsNumberOf codes code number = (number < length codes) × (slice_index codes number ≡ code)
