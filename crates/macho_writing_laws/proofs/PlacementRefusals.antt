-- Of a placed valid link no refusal stands that keeps the placement: each is shown beside.
use Rattle.std.proofs.Common.{◌≡◌, subst, Some, None}
use Rattle.macho_model.specs.declared.placed.Counts.{Counts}
use Rattle.macho_model.specs.Links.{Link, section_id}
use Rattle.macho_model.specs.Placement.{Placed}
use Rattle.macho_model.specs.Stands.{SectionAt}
use Rattle.macho_model.specs.Values.{BadRebase, BadRange}
use Rattle.macho_model.specs.Limits.{PassesLimit, ImagePasses}
use Rattle.macho_model.specs.Faults.{LinkFault, DuplicateSymbol, UndefinedSymbol, EntryNotDefined, ExportListMissing, BadInitializer, BadUnwind, UnsupportedRelocation, OverlappingFields, BindAddend, FixupPlace, TooMany, ImageTooLarge, RebaseTarget, RelocationRange, BadName, FaultStands, kept_placement}
use Rattle.macho_writing_laws.specs.Valid.{ObjectsAreBytes, PlacementIsNotRefused}
use Rattle.macho_writing_laws.proofs.Ranges.{IsValidPlaced}
use Rattle.macho_writing_laws.proofs.Fixed.{no_bad_place, no_bad_rebase}
use Rattle.macho_writing_laws.proofs.InReach.{no_bad_range}
use Rattle.macho_writing_laws.proofs.ValidSizes.{no_more_than, no_image_passes}

-- by the refusal
no_fault : (l : Link) (counts : Counts) (p : Placed) (f : LinkFault) → IsValidPlaced l counts p → ObjectsAreBytes l
    → kept_placement f ≡ Some p
    → FaultStands l counts f → ⊥
no_fault l counts p (DuplicateSymbol name first second) h bytes kept stands = cc
no_fault l counts p (UndefinedSymbol name file) h bytes kept stands = cc
no_fault l counts p (EntryNotDefined name) h bytes kept stands = cc
no_fault l counts p (ExportListMissing name) h bytes kept stands = cc
no_fault l counts p (BadInitializer file section offset) h bytes kept stands = cc
no_fault l counts p (BadUnwind file section entry rule) h bytes kept stands = cc
no_fault l counts p (UnsupportedRelocation file section relocation) h bytes kept stands = cc
no_fault l counts p (OverlappingFields file section first second) h bytes kept stands = cc
no_fault l counts p (BindAddend file section relocation addend) h bytes kept stands = cc
no_fault l counts p (FixupPlace file section relocation None) h bytes kept stands = cc
no_fault l counts p (FixupPlace file section relocation (Some r)) h bytes kept (f, of, needs, (address, at, bad)) =
    let same : r ≡ p = cc in
    no_bad_place l counts p (section_id file section) f address h of.0 of.1 needs
    (subst (λ (x : Placed). SectionAt x file section address) same at) bad
no_fault l counts p (TooMany what number None) h bytes kept stands = cc
no_fault l counts p (TooMany what number (Some r)) h bytes kept stands =
    let same : r ≡ p = cc in no_more_than l counts p what number h
    (subst (λ (x : Placed). PassesLimit l counts what number (Some x)) same stands)
no_fault l counts p (ImageTooLarge None) h bytes kept stands = cc
no_fault l counts p (ImageTooLarge (Some r)) h bytes kept stands =
    let same : r ≡ p = cc in no_image_passes l counts p h (subst (λ (x : Placed). ImagePasses l x) same stands)
no_fault l counts p (RebaseTarget at r) h bytes kept stands =
    let same : r ≡ p = cc in no_bad_rebase l counts p at h (subst (λ (x : Placed). BadRebase l x at) same stands)
no_fault l counts p (RelocationRange at r) h bytes kept stands =
    let same : r ≡ p = cc in no_bad_range l counts p at h bytes (subst (λ (x : Placed). BadRange l x at) same stands)
no_fault l counts p BadName h bytes kept stands = cc

-- THE refusals of a placement
pub placement_is_not_refused : PlacementIsNotRefused
placement_is_not_refused l counts p f objects bytes valid placed laid kept stands =
    no_fault l counts p f (record { objects = objects; valid = valid; placed = placed; laid = laid }) bytes kept stands
