-- What the inspector prints of a report: one line for each item, each line a list of pieces. Addresses, sizes and values are hexadecimal,
-- all other numbers decimal.
use Rattle.std.specs.Prelude.{ℕ, List, [], ◌∷◌, ◌++◌, codes, map, decimal}
use Rattle.std.specs.List.{flat_map, enumerate_from}
use Rattle.std.specs.Fmt.{signed_decimal}
use Rattle.macho_records.specs.Segments.{text_of}
use Rattle.macho_printing.specs.Printing.{hex_text}
use Rattle.macho_loader.specs.declared.chain_list.FixupLine.{FixupLine}
use Rattle.macho_loader.specs.declared.chain_list.LineKind.{LineKind}
use Rattle.macho_loader.specs.declared.chain_list.LineKind.TheVariants.{Rebase, Bind}
use Rattle.macho_inspect.specs.declared.report.SegmentLine.{SegmentLine}
use Rattle.macho_inspect.specs.declared.report.ImportLine.{ImportLine}
use Rattle.macho_inspect.specs.declared.report.ExportLine.{ExportLine}
use Rattle.macho_inspect.specs.declared.report.Exports.{Exports}
use Rattle.macho_inspect.specs.declared.report.Exports.TheVariants.{Listed, Malformed}
use Rattle.macho_inspect.specs.declared.report.Report.{Report}

-- `segment NAME ADDRESS SIZE PROTECTION`: the size is that in memory
abbrev pub segment_pieces : SegmentLine → List (List ℕ)
segment_pieces s =
    codes "segment " ∷ text_of s.name ∷ codes " " ∷ hex_text s.address ∷ codes " " ∷ hex_text s.size ∷ codes " " ∷ decimal s.protection ∷ []

-- `library K PATH`, of a library with its number
abbrev pub library_pieces : ℕ × List ℕ → List (List ℕ)
library_pieces library = codes "library " ∷ decimal library.0 ∷ codes " " ∷ library.1 ∷ []

-- `import LIBRARY NAME ADDEND`: libraries are counted from 1
abbrev pub import_pieces : ImportLine → List (List ℕ)
import_pieces x = codes "import " ∷ decimal x.library ∷ codes " " ∷ x.name.items ∷ codes " " ∷ signed_decimal x.addend ∷ []

-- `export FLAGS VALUE NAME`: of a reexport the value is the number of its library, and the name that it has there is left out
abbrev pub export_pieces : ExportLine → List (List ℕ)
export_pieces x = codes "export " ∷ decimal x.flags ∷ codes " " ∷ hex_text x.value ∷ codes " " ∷ x.name.items ∷ []

-- `exports malformed PLACE`: the place is a file offset
abbrev pub malformed_pieces : ℕ → List (List ℕ)
malformed_pieces place = codes "exports malformed " ∷ decimal place ∷ []

-- the lines of the exports, or the one of a malformed trie
abbrev pub exports_pieces : Exports → List (List (List ℕ))
exports_pieces (Listed lines) = map export_pieces lines.items
exports_pieces (Malformed place) = malformed_pieces place ∷ []

-- `fixup ADDRESS rebase VALUE` or `fixup ADDRESS bind IMPORT ADDEND`: imports are counted from 0
abbrev pub kind_pieces : ℕ → LineKind → List (List ℕ)
kind_pieces address (Rebase value) = codes "fixup " ∷ hex_text address ∷ codes " rebase " ∷ hex_text value ∷ []
kind_pieces address (Bind import addend) =
    codes "fixup " ∷ hex_text address ∷ codes " bind " ∷ decimal import ∷ codes " " ∷ signed_decimal addend ∷ []

abbrev pub fixup_pieces : FixupLine → List (List ℕ)
fixup_pieces x = kind_pieces x.address x.kind

-- the text of a line: its pieces, and a line feed
abbrev pub line_text : List (List ℕ) → List ℕ
line_text pieces = flat_map (λ piece. piece) (pieces ++ codes "\n" ∷ [])

-- THE lines of a report, in their order; libraries are counted from 1
abbrev pub report_lines : Report → List (List (List ℕ))
report_lines r =
    map segment_pieces r.segments.items ++ (map library_pieces (enumerate_from 1 (map (λ path. path.items) r.libraries.items))
    ++ (map import_pieces r.imports.items ++ (exports_pieces r.exports ++ map fixup_pieces r.fixups.items)))

-- THE text that the inspector prints of a report
unfoldable pub report_text : Report → List ℕ
report_text r = flat_map line_text (report_lines r)
