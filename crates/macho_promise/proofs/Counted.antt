-- The sizes of a link, one by one: each is the number of something.
use Rattle.std.proofs.Common.{◌≡◌, length, ap}
use Rattle.macho_model.specs.declared.placed.Counts.{Counts}
use Rattle.macho_model.specs.Links.{Link}
use Rattle.macho_model.specs.Fixups.{import_entries_of}
use Rattle.macho_promise.specs.Sizes.{AreCounts, counts_with, text_size, unwind_size, commands_size}
use Rattle.std.specs.Prelude.{sum_by}
use Rattle.macho_model.specs.Needs.{imports_of}
use Rattle.macho_model.specs.Made.{initializers_of}
use Rattle.macho_model.specs.Signature.{identifier_text}
use Rattle.macho_promise.specs.Sizes.{AreCounts, counts_with}
use Rattle.macho_model.specs.Faults.{last_part}

-- the sizes of a link, one by one
pub imports_counted : (l : Link) (counts : Counts) → AreCounts l counts → counts.imports ≡ length (import_entries_of l)
unfolding counts_with
imports_counted l counts are = ap (λ (c : Counts). c.imports) are.are

pub names_counted : (l : Link) (counts : Counts) → AreCounts l counts → counts.name_bytes ≡ sum_by text_size (imports_of l)
unfolding counts_with
names_counted l counts are = ap (λ (c : Counts). c.name_bytes) are.are

pub initializers_counted : (l : Link) (counts : Counts) → AreCounts l counts → counts.initializers ≡ length (initializers_of l)
unfolding counts_with
initializers_counted l counts are = ap (λ (c : Counts). c.initializers) are.are

pub unwind_counted : (l : Link) (counts : Counts) → AreCounts l counts → counts.unwind ≡ unwind_size l
unfolding counts_with
unwind_counted l counts are = ap (λ (c : Counts). c.unwind) are.are

pub identifier_counted : (l : Link) (counts : Counts) → AreCounts l counts → counts.identifier ≡ length
    (identifier_text (last_part l.output))
unfolding counts_with
identifier_counted l counts are = ap (λ (c : Counts). c.identifier) are.are

pub commands_counted : (l : Link) (counts : Counts) → AreCounts l counts → counts.commands ≡ commands_size l
unfolding counts_with
commands_counted l counts are = ap (λ (c : Counts). c.commands) are.are
