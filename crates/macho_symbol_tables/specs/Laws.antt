-- Laws on exported names, and on the sizes of a symbol table: the contracts of the functions of `src/laws.rt`.
use Rattle.std.specs.Prelude.{◌≡◌, ◌<◌, ◌≤◌, ◌^◌, length, List, map}
use Rattle.macho_model.specs.declared.placed.Counts.{Counts}
use Rattle.macho_model.specs.Links.{Link}
use Rattle.macho_model.specs.Placement.{Placed}
use Rattle.macho_layout.specs.Plans.{Planning, IsPlanOf}
use Rattle.macho_layout.specs.Sums.{FitsLimits}
use Rattle.macho_layout.specs.Laid.{IsLaidOut}
use Rattle.macho_layout_laws.specs.Laws.{IsWhollyPlaced, NonePasses}
use Rattle.macho_promise.specs.Sizes.{AreCounts}
use Rattle.macho_model.specs.Needs.{imports_of}
use Rattle.macho_model.specs.Told.{ToldExport, ExportsAreTold}
use Rattle.macho_symbols.specs.declared.exports.ExportName.{ExportName}
use Rattle.macho_symbols.specs.Exported.{AreExports}
use Rattle.macho_linkedit.specs.declared.exports.NamedExport.{NamedExport}
use Rattle.macho_linkedit.specs.declared.listing.TableSymbols.{TableSymbols}
use Rattle.macho_linkedit.specs.Listing.{AreListed}
use Rattle.macho_linkedit.specs.Tries.{kept, AreKept}
use Rattle.macho_symbol_tables.specs.Exports.{exports_told}

-- the exports of a link are told
abbrev pub ExportsAreAllTold : Type 0
ExportsAreAllTold = (l : Link) (exports : List ExportName) → AreExports l (imports_of l) exports → ExportsAreTold l (exports_told exports)

-- what keeps their places is known by what is told
abbrev pub KeptAreOne : Type 0
KeptAreOne =
    (l : Link) (told : List ToldExport) (exports more : List NamedExport) → AreKept l told exports → AreKept l told more
    → map kept exports ≡ map kept more

-- the output sections of a plan that is laid out are so few that a byte tells the number of one
abbrev pub SectionsAreFew : Type 0
SectionsAreFew =
    (l : Link) (plan : Planning) (counts : Counts) (p : Placed) → IsPlanOf l plan → FitsLimits plan counts → IsLaidOut plan counts p
    → length p.output_sections ≤ 255

-- and the strings of a symbol table lie in a file of fewer than 2 ^ 32 bytes
abbrev pub StringsAreShort : Type 0
StringsAreShort =
    (l : Link) (counts : Counts) (p : Placed) (listed : TableSymbols) → IsWhollyPlaced l counts p → NonePasses l counts p
    → AreCounts l counts → AreListed l listed → listed.strings < 2 ^ 32
