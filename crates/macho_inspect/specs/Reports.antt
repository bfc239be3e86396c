-- What the report of an image says, and what a refusal does.
use Rattle.std.specs.Prelude.{◌≡◌, ℕ, List, Option, Some, None, Result, Ok, Err, map}
use Rattle.std.specs.Option.{option_map}
use Rattle.std.specs.Int.{w64, cast_unsigned}
use Rattle.macho_records.specs.Segments.{name_field}
use Rattle.macho_records.specs.declared.header.SegmentCommand.{SegmentCommand}
use Rattle.macho_model.specs.Images.{base_of, segments_of, libraries_of}
use Rattle.macho_model.specs.Loader.{IsAccepted, ImageBreaks}
use Rattle.macho_trie.specs.Exports.{Exported, as_value, as_reexport}
use Rattle.macho_trie.specs.Lists.{AreExports}
use Rattle.macho_loader.specs.Lists.{Import, imports_of_image, AreFixups}
use Rattle.macho_inspect.specs.Tries.{trie_of, IsTrieMalformed}
use Rattle.macho_inspect.specs.declared.report.SegmentLine.{SegmentLine}
use Rattle.macho_inspect.specs.declared.report.ImportLine.{ImportLine}
use Rattle.macho_inspect.specs.declared.report.ExportLine.{ExportLine}
use Rattle.macho_inspect.specs.declared.report.Exports.{Exports}
use Rattle.macho_inspect.specs.declared.report.Exports.TheVariants.{Listed, Malformed}
use Rattle.macho_inspect.specs.declared.report.Report.{Report}
use Rattle.macho_inspect.specs.declared.report.InspectFault.{InspectFault}
use Rattle.macho_inspect.specs.declared.report.InspectFault.TheVariants.{Rejected, OutOfMemory}

-- the line of a segment: of its name what stands before the first NUL; of its two protections, which are equal in an accepted image, the
-- initial one
abbrev pub segment_line : SegmentCommand → SegmentLine
segment_line s =
    record {
      name = record { 0 = name_field s.segname };
      address = s.vmaddr;
      size = s.vmsize;
      file_offset = s.fileoff;
      file_size = s.filesize;
      protection = s.initprot;
    }

-- the import that a line says: its addend is signed, and stands for a number modulo 2 ^ 64
abbrev pub import_in : ImportLine → Import
import_in x = record { library = x.library; name = x.name.items; addend = cast_unsigned w64 x.addend }

-- the answer of look-up that a line says: the value of a reexport is the number of its library
abbrev pub answer_of : ℕ → ℕ → Option (List ℕ) → Exported
answer_of flags value None = as_value flags value
answer_of flags value (Some name) = as_reexport flags value name

abbrev pub reexport_of : ExportLine → Option (List ℕ)
reexport_of x = option_map (λ name. name.items) x.reexport

abbrev pub exported_by : ExportLine → List ℕ × Exported
exported_by x = (x.name.items, answer_of x.flags x.value (reexport_of x))

-- what is said of the exports of an image: where its trie is malformed nowhere, all names that look-up finds in it; else a place where it
-- is
abbrev pub AreExportsOf : List ℕ → Exports → Type 0
AreExportsOf b (Listed lines) = AreExports (trie_of b) (map exported_by lines.items) × ((place : ℕ) → IsTrieMalformed b place → ⊥)
AreExportsOf b (Malformed place) = IsTrieMalformed b place

-- THE report of an image that the loader accepts. The bytes determine all of it but one number: of a trie that is malformed at several
-- places any of them may be told.
pub record IsReport (b : List ℕ) (r : Report) : Type 0 where
  pub accepted : IsAccepted b
  pub base_is : r.base ≡ base_of b
  -- each segment, in the order of the commands
  pub segments_are : r.segments.items ≡ map segment_line (segments_of b)
  pub libraries_are : map (λ name. name.items) r.libraries.items ≡ libraries_of b
  -- each entry of the import table, in order
  pub imports_are : map import_in r.imports.items ≡ imports_of_image b
  -- the names of the trie, in rising order, or where it is malformed
  pub exports_are : AreExportsOf b r.exports
  -- the words on the chains, by rising addresses, and what each becomes
  pub fixups_are : AreFixups b r.fixups.items

-- A refusal names a rule that the image breaks, and where. For want of memory only an image that the loader accepts has no report.
abbrev pub IsRefused : List ℕ → InspectFault → Type 0
IsRefused b (Rejected fault) = (IsAccepted b → ⊥) × ImageBreaks b fault.rule fault.place
IsRefused b OutOfMemory = IsAccepted b

-- an answer is the refusal of a file
abbrev pub IsRejected : Result Report InspectFault → Type 0
IsRejected (Ok r) = ⊥
IsRejected (Err (Rejected fault)) = Unit {0}
IsRejected (Err OutOfMemory) = ⊥
