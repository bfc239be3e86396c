-- Laws on sections: the room that is kept for one, and what is looked up in it.
use Rattle.std.specs.Prelude.{ℕ, ◌^◌, ◌≤◌, List}
use Rattle.macho_unwind_pages.specs.declared.entries.ResolvedUnwindInfo.{ResolvedUnwindInfo}
use Rattle.macho_unwind_pages.specs.Entries.{AreEntries, SpansAtMost, inputs_of}
use Rattle.macho_unwind_pages.specs.Bounds.{unwind_bound_of}
use Rattle.macho_unwind.specs.Entries.{FindsEntries, FindsOnlyEntries, IsSectionOf, HasFarPage}

-- where a page has no place of 32 bits, the room that is told before has 2^32 bytes or more
abbrev pub FarPageNeedsRoom : Type 0
FarPageNeedsRoom =
    (text span : ℕ) (entries : List ResolvedUnwindInfo) → AreEntries text entries → HasFarPage text entries → SpansAtMost span entries
    → 2 ^ 32 ≤ unwind_bound_of (inputs_of entries) span

-- in all bytes that begin with the section of entries look-up of an offset finds what the entries say of it, and nothing else
abbrev pub SectionsAreRead : Type 0
SectionsAreRead =
    (text : ℕ) (entries : List ResolvedUnwindInfo) (section : List ℕ) → AreEntries text entries → IsSectionOf text entries section
    → FindsEntries text entries section × FindsOnlyEntries text entries section
