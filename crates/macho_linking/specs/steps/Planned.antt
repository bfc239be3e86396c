-- A link that is read, sized and placed.
use Rattle.std.specs.Prelude.{◌≡◌, ℕ, false, List, map, All}
use Rattle.std.specs.Option.{option_copied}
use Rattle.macho_layout.specs.Placements.{placed_of}
use Rattle.macho_model.specs.declared.placed.Counts.{Counts}
use Rattle.macho_model.specs.Links.{Link}
use Rattle.macho_model.specs.Needs.{libraries_needed}
use Rattle.macho_model.specs.Placement.{Placed}
use Rattle.macho_symbols.specs.Exported.{AreLists}
use Rattle.macho_symbols.specs.Kept.{HasSymbol}
use Rattle.macho_promise.specs.Views.{views_of}
use Rattle.macho_linkedit.specs.declared.exports.NamedExport.{NamedExport}
use Rattle.macho_linkedit.specs.Listing.{AreObjects}
use Rattle.macho_linkedit.specs.Tries.{AreKept}
use Rattle.macho_fields.specs.Looks.{Look, Tells}
use Rattle.macho_model.specs.Grammar.{ObjectsAreRead}
use Rattle.macho_promise_laws.specs.Names.{StubsArePlain}
use Rattle.macho_symbol_tables.specs.Exports.{exports_told}
use Rattle.macho_refusal_laws.specs.Read.{IsReadOf, AreKnown}
use Rattle.macho_sizing.specs.Sized.{IsSizedOf}
use Rattle.macho_linking.specs.declared.planned.Planned.{Planned}

-- The arguments and the inputs are those of the link.
pub record AreInputs (l : Link) (b : Planned) : Type 0 where
  pub arguments : l ≡ b.linker.now
  pub views : b.views.now ≡ views_of l
  pub objects : AreObjects l b.objects.now × All (λ o. o.file.is_dynamic ≡ false) b.objects.now
  pub lists : AreLists l (option_copied b.list)
  pub rules : ObjectsAreRead l × StubsArePlain l
  pub libraries : map (λ n. n.items) b.libraries.now ≡ libraries_needed l

-- THE plan is that of the link.
pub record IsPlanned (l : Link) (b : Planned) : Type 0 where
  pub inputs : AreInputs l b
  pub read : IsReadOf l b.read.now
  pub known : AreKnown b.views.now b.read.now
  pub kept : List NamedExport
  pub exports : AreKept l (exports_told b.read.now.exports.items) kept
  pub sized : IsSizedOf l kept b.sized.now

abbrev pub placement_of : Planned → Placed
placement_of b = placed_of b.sized.now.placement

abbrev pub counts_of : Planned → Counts
counts_of b = b.sized.now.counts

-- The look-ups tell of the link and of its placement.
pub record IsLooked (l : Link) (b : Planned) (look : Look) : Type 0 where
  pub planned : IsPlanned l b
  pub tells : Tells l (placement_of b) look

-- all symbols that are kept are known
abbrev pub KnowsAll : Planned → (ℕ → ℕ → Type 0) → Type 0
KnowsAll b has_symbol = (file symbol : ℕ) → HasSymbol b.read.now.needs.resolved file symbol → has_symbol file symbol
