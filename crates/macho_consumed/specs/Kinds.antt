-- The two kinds of consumed sections that are read: initializers, and entries of unwind information.
use Rattle.std.specs.Prelude.{◌&&◌, Bool, not}
use Rattle.macho_records.specs.Sections.{should_exclude_of}
use Rattle.macho_records.specs.declared.header.SectionHeader.{SectionHeader}
use Rattle.macho_model.specs.Links.{is_initializers, is_unwind_entries}
use Rattle.macho_consumed.specs.declared.listing.Kind.{Kind}
use Rattle.macho_consumed.specs.declared.listing.Kind.TheVariants.{Initializers, Entries}

-- a section is of a kind
abbrev pub is_of_kind : Kind → SectionHeader → Bool
is_of_kind Initializers h = not (should_exclude_of h) && is_initializers h
is_of_kind Entries h = not (should_exclude_of h) && is_unwind_entries h
