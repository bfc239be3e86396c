-- Where no pass of a link finds what it looks for, no refusal stands.
--
-- Refusals are taken one by one: each is one of those that a pass looks for, in the link or in the placement that is kept.
use Rattle.std.proofs.Common.{◌≡◌, ◌⊎◌, inl, inr, Some, None, sym, subst, ◌∙◌, arith}
use Rattle.std.proofs.lemmas.Bool.{true≢false}
use Rattle.macho_model.specs.declared.placed.Counts.{Counts}
use Rattle.macho_model.specs.Links.{Link}
use Rattle.macho_model.specs.Placement.{Placed}
use Rattle.macho_model.specs.Limits.{PassesLimit, ImagePasses}
use Rattle.macho_model.specs.Values.{BadRange, BadRebase}
use Rattle.macho_model.specs.Faults.{LinkFault, DuplicateSymbol, UndefinedSymbol, EntryNotDefined, ExportListMissing, BadInitializer, kept_placement, BadUnwind, UnsupportedRelocation, OverlappingFields, BindAddend, FixupPlace, TooMany, ImageTooLarge, RebaseTarget, RelocationRange, BadName, FaultStands}
use Rattle.macho_fields.specs.Faults.{IsBadPlace}
use Rattle.macho_reading.proofs.Refusals.{read_is_not_refused}
use Rattle.macho_refusal_laws.specs.Refusals.{IsClear, ClearIsUnrefused}

-- the placement that is kept is this one
kept_is : (q p : Placed) → (Some q ≡ None) ⊎ (Some q ≡ Some p) → q ≡ p
kept_is q p (inl none) = absurd (cc)
kept_is q p (inr same) = cc

none_passes : (l : Link) (counts : Counts) (p : Placed) → IsClear l counts p → ImagePasses l p → ⊥
none_passes l counts p clear (inl (s, has, inl offset)) = absurd (omega (arith, offset, (clear.limits.files s has).0))
none_passes l counts p clear (inl (s, has, inr size)) = absurd (omega (arith, size, (clear.limits.files s has).1))
none_passes l counts p clear (inr (inl (r, has, end))) = absurd (omega (arith, end, clear.limits.ranges r has))
none_passes l counts p clear (inr (inr (x, written, far))) = absurd (omega (arith, far, clear.written x written))

none : (l : Link) (counts : Counts) (p : Placed) → IsClear l counts p → (f : LinkFault)
    → (kept_placement f ≡ None) ⊎ (kept_placement f ≡ Some p) → FaultStands l counts f → ⊥
none l counts p clear (DuplicateSymbol name first second) of stands = clear.single name first second stands
none l counts p clear (UndefinedSymbol name file) of stands = read_is_not_refused l counts (UndefinedSymbol name file) clear.fit tt stands
none l counts p clear (EntryNotDefined name) of stands = read_is_not_refused l counts (EntryNotDefined name) clear.fit tt stands
none l counts p clear (ExportListMissing name) of stands = read_is_not_refused l counts (ExportListMissing name) clear.fit tt stands
none l counts p clear (BadInitializer file section offset) of stands =
    read_is_not_refused l counts (BadInitializer file section offset) clear.fit tt stands
none l counts p clear (BadUnwind file section entry rule) of stands =
    read_is_not_refused l counts (BadUnwind file section entry rule) clear.fit tt stands
none l counts p clear (UnsupportedRelocation file section relocation) of stands =
    read_is_not_refused l counts (UnsupportedRelocation file section relocation) clear.fit tt stands
none l counts p clear (OverlappingFields file section first second) of stands =
    read_is_not_refused l counts (OverlappingFields file section first second) clear.fit tt stands
none l counts p clear (BindAddend file section relocation addend) of stands =
    read_is_not_refused l counts (BindAddend file section relocation addend) clear.fit tt stands
none l counts p clear (FixupPlace file section relocation None) of stands =
    read_is_not_refused l counts (FixupPlace file section relocation None) clear.fit tt stands
none l counts p clear (FixupPlace file section relocation (Some q)) of stands =
    clear.values.place file section relocation (subst (λ (x : Placed). IsBadPlace l x file section relocation) (kept_is q p of) stands)
none l counts p clear (TooMany what number None) of stands = clear.limits.numbers what number stands
none l counts p clear (TooMany what number (Some q)) of stands =
    clear.limits.pages what number (subst (λ (x : Placed). PassesLimit l counts what number (Some x)) (kept_is q p of) stands)
none l counts p clear (ImageTooLarge None) of stands = clear.limits.sum stands
none l counts p clear (ImageTooLarge (Some q)) of stands =
    none_passes l counts p clear (subst (ImagePasses l) (kept_is q p of) stands)
none l counts p clear (RebaseTarget at q) of stands =
    clear.values.rebase at (subst (λ (x : Placed). BadRebase l x at) (kept_is q p of) stands)
none l counts p clear (RelocationRange at q) of stands =
    clear.values.range at (subst (λ (x : Placed). BadRange l x at) (kept_is q p of) stands)
none l counts p clear BadName of stands = true≢false (sym stands ∙ clear.name)

pub clear_is_unrefused : ClearIsUnrefused
clear_is_unrefused l counts p clear = record { none = none l counts p clear }
