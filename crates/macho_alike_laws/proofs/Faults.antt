-- What stands of one of two links that agree stands of the other: each refusal speaks of functions in which they agree, or of where
-- targets are. So a valid link is valid with the other's inputs, too.
use Rattle.std.proofs.Common.{◌≡◌, ℕ, ◌+◌, ◌-◌, true, Option, Some, None, refl, sym, subst, inl, inr}
use Rattle.std.specs.Prelude.{All, is_some}
use Rattle.std.specs.FinMap.{empty}
use Rattle.macho_model.specs.declared.targets.Target.{Target}
use Rattle.macho_model.specs.declared.targets.Target.TheVariants as target
use Rattle.macho_model.specs.declared.targets.Limit.{Limit}
use Rattle.macho_model.specs.declared.targets.Limit.TheVariants as limit
use Rattle.macho_model.specs.declared.targets.Site.{Site}
use Rattle.macho_model.specs.declared.targets.Site.TheVariants as site
use Rattle.macho_model.specs.declared.rules.UnwindRule.{UnwindRule}
use Rattle.macho_model.specs.declared.rules.UnwindRule.TheVariants.{U1, U2, U3, U4, U5, U6, U7, U8}
use Rattle.macho_model.specs.declared.placed.Counts.{Counts}
use Rattle.macho_model.specs.Links.{Link, SectionId, section_id, header_at}
use Rattle.macho_model.specs.Needs.{section_named}
use Rattle.macho_model.specs.Consumed.{EntryId, unwind_entry}
use Rattle.macho_model.specs.Fields.{Field, content_of, fields_of}
use Rattle.macho_model.specs.Placement.{Placed}
use Rattle.macho_model.specs.Stands.{IsAt, Kind, kind_of, Pointer, Difference, Branch, Page, Offset, SlotPage, SlotOffset, SlotDistance, NoKind}
use Rattle.macho_model.specs.Values.{BadRebase, BadRange, DoesNotFit}
use Rattle.macho_model.specs.Limits.{PassesLimit, IsWritten32, initializer, function, language, personality, IsTooLarge}
use Rattle.macho_model.specs.Faults.{LinkFault, DuplicateSymbol, UndefinedSymbol, EntryNotDefined, ExportListMissing, BadInitializer, BadUnwind, UnsupportedRelocation, OverlappingFields, BindAddend, FixupPlace, TooMany, ImageTooLarge, RebaseTarget, RelocationRange, BadName, IsBadEntry, BadPlace, FaultStands, NoneStands}
use Rattle.macho_model.specs.Valid.{is_multiple, stays_inside, field_fits, IsValid}
use Rattle.macho_alike_laws.proofs.Inputs.{Agree}
use Rattle.macho_alike_laws.proofs.Views as views
use Rattle.macho_alike_laws.proofs.Parts as parts
use Rattle.macho_alike_laws.proofs.Tables as tables
use Rattle.macho_alike_laws.proofs.Standing as standing

module _ (l m : Link) (same : Agree l m) where
  -- ---- unwind entries

  bad_entry : (s : SectionId) (e : ℕ) (rule : UnwindRule) → IsBadEntry l s e rule → IsBadEntry m s e rule
  bad_entry s e U1 h = simp same.object at h
  bad_entry s e U2 h = simp same.object at h
  bad_entry s e U3 h = simp same.object at h
  bad_entry s e U4 h = simp same.object at h
  bad_entry s e U5 h = simp same.object at h
  bad_entry s e U6 h = simp (same.object, parts.entries l m same) at h
  bad_entry s e U7 h = simp (same.object, views.relocated l m same) at h
  bad_entry s e U8 h = simp same.object at h

  -- ---- pointers and fields

  bad_place : (s : SectionId) (f : Field) (placement : Option Placed) → BadPlace l s f placement → BadPlace m s f placement
  bad_place s f None h = simp same.object at h
  bad_place s f (Some p) h = h

  bad_rebase : (p : Placed) (at : Site) → BadRebase l p at → BadRebase m p at
  bad_rebase p (site.Field file section relocation) (f, x, of, needs, import, at, not) = (
    f,
    x,
    simp (views.carried l m same, parts.fields l m same) at of,
    simp (same.object, tables.in_template l m same) at needs,
    import,
    standing.is_at l m same p 0 empty f.target x at,
    not,
  )
  bad_rebase p (site.Slot index) (t, x, number, import, at, not) =
      (t, x, simp (views.slots l m same) at number, import, standing.is_at l m same p 0 empty t x at, not)
  bad_rebase p (site.Stub index) h = h

  no_fit : (p : Placed) (s : SectionId) (f : Field) (place input : ℕ) (kind : Kind) → DoesNotFit l p s f place input kind
      → DoesNotFit m p s f place input kind
  no_fit p s f place input Pointer h = h
  no_fit p s f place input Difference (x, y, at, from, wide, not) =
      (x, y, standing.is_at l m same p 0 empty f.target x at, standing.subtrahend_at l m same p 0 empty f.subtrahend y from, wide, not)
  no_fit p s f place input Branch (x, at, rest) = (x, standing.call_at l m same p 0 empty f.target x at, rest)
  no_fit p s f place input Page (x, at, rest) = (x, standing.is_at l m same p 0 empty f.target x at, rest)
  no_fit p s f place input Offset (x, at, rest) = (x, standing.is_at l m same p 0 empty f.target x at, rest)
  no_fit p s f place input SlotPage (x, at, rest) = (x, standing.load_at l m same p 0 empty f.target x at, rest)
  no_fit p s f place input SlotOffset h = h
  no_fit p s f place input SlotDistance h = h
  no_fit p s f place input NoKind h = h

  bad_range : (p : Placed) (at : Site) → BadRange l p at → BadRange m p at
  bad_range p (site.Field file section relocation) (f, address, of, at, not) = (
    f,
    address,
    simp (views.carried l m same, parts.fields l m same) at of,
    at,
    simp same.object at (no_fit p (section_id file section) f (address + f.offset) (content_of l (section_id file section) relocation)
        (kind_of f.type (is_some f.subtrahend)) not),
  )
  bad_range p (site.Slot index) h = h
  bad_range p (site.Stub index) h = h

  -- ---- limits

  passes : (counts : Counts) (what : Limit) (number : ℕ) (placement : Option Placed) → PassesLimit l counts what number placement
      → PassesLimit m counts what number placement
  passes counts what number None h = simp (tables.limits l m same) at h
  passes counts limit.Pages number (Some p) h = h
  passes counts limit.Segments number (Some p) h = h
  passes counts limit.Libraries number (Some p) h = h
  passes counts limit.Sections number (Some p) h = h
  passes counts limit.Personalities number (Some p) h = h
  passes counts limit.Imports number (Some p) h = h
  passes counts limit.NameBytes number (Some p) h = h
  passes counts limit.Symbols number (Some p) h = h

  -- how far behind the start of its section a function begins, and its language data
  behind_start : (d : EntryId) (r : ℕ)
      → (unwind_entry l d.of_section d.entry).start - (header_at l (section_named l d.of_section r)).addr
      ≡ (unwind_entry m d.of_section d.entry).start - (header_at m (section_named m d.of_section r)).addr
  behind_start d r = simp same.object

  behind_lsda : (d : EntryId) (r : ℕ)
      → (unwind_entry l d.of_section d.entry).lsda - (header_at l (section_named l d.of_section r)).addr
      ≡ (unwind_entry m d.of_section d.entry).lsda - (header_at m (section_named m d.of_section r)).addr
  behind_lsda d r = simp same.object

  written : (p : Placed) (x : ℕ) → IsWritten32 l p x → IsWritten32 m p x
  written p _ (initializer s r x there below at) =
      initializer s r x (simp (views.initializer_parts l m same) at there) (simp same.object at below)
      (subst (λ (t : Target). IsAt m p 0 empty t x) (views.relocated l m same s r) (standing.is_at l m same p 0 empty _ x at))
  written p _ (function d r at extra there first in_section more) =
      subst (λ (n : ℕ). IsWritten32 m p (at + n + extra)) (sym (behind_start d r))
      (function d r at extra (simp (parts.entries l m same) at there) (simp same.object at first) (simp same.object at in_section)
      (simp same.object at more))
  written p _ (language d r at there first in_section) =
      subst (λ (n : ℕ). IsWritten32 m p (at + n)) (sym (behind_lsda d r))
      (language d r at (simp (parts.entries l m same) at there) (simp same.object at first) (simp same.object at in_section))
  written p x (personality t _ there at) = personality t x (simp (parts.personalities l m same) at there) at

  too_large : (counts : Counts) (placement : Option Placed) → IsTooLarge l counts placement → IsTooLarge m counts placement
  too_large counts None h = simp (parts.sum l m same) at h
  too_large counts (Some p) (inl h) = inl h
  too_large counts (Some p) (inr (inl h)) = inr (inl h)
  too_large counts (Some p) (inr (inr (x, w, far))) = inr (inr (x, written p x w, far))

  -- ---- refusals

  -- THE refusal stands
  pub stands : (counts : Counts) (f : LinkFault) → FaultStands l counts f → FaultStands m counts f
  stands counts (DuplicateSymbol name first second) h = simp (views.strong l m same) at h
  stands counts (UndefinedSymbol name file) h =
      simp (
        same.object,
        views.relocations l m same,
        views.initializer_uses l m same,
        views.personality_uses l m same,
        views.definition l m same,
      ) at h
  stands counts (EntryNotDefined name) h =
      simp (same.entry, same.executable, views.imports l m same, views.definition l m same, views.defined l m same) at h
  stands counts (ExportListMissing name) h = simp (same.lists, views.definition l m same) at h
  stands counts (BadInitializer file section offset) h =
      simp (same.object, views.initializer_parts l m same, views.relocated l m same) at h
  stands counts (BadUnwind file section entry rule) (there, bad) =
      (simp (views.unwind_parts l m same) at there, bad_entry (section_id file section) entry rule bad)
  stands counts (UnsupportedRelocation file section relocation) h =
      simp (same.object, views.carried l m same, tables.supported l m same) at h
  stands counts (OverlappingFields file section first second) h = simp (same.object, views.carried l m same) at h
  stands counts (BindAddend file section relocation addend) h = simp (views.carried l m same, parts.fields l m same) at h
  stands counts (FixupPlace file section relocation placement) (f, of, needs, bad) = (
    f,
    simp (views.carried l m same, parts.fields l m same) at of,
    simp (same.object, tables.in_template l m same) at needs,
    bad_place (section_id file section) f placement bad,
  )
  stands counts (TooMany what number placement) h = passes counts what number placement h
  stands counts (ImageTooLarge placement) h = too_large counts placement h
  stands counts (RebaseTarget at placement) h = bad_rebase placement at h
  stands counts (RelocationRange at placement) h = bad_range placement at h
  stands counts BadName h = simp (same.output, same.install_name, same.rpaths) at h

  -- ---- fields that are sure to fit

  multiple : (k : ℕ) (t : Target) (addend : ℕ) → is_multiple l k t addend ≡ is_multiple m k t addend
  multiple k (target.Section file section offset) addend = simp (views.exponent l m same)
  multiple k (target.Common id) addend = simp (same.object, views.commons l m same)
  multiple k (target.Import id) addend = refl
  multiple k target.Base addend = refl
  multiple k (target.Absolute value) addend = refl
  multiple k target.None addend = refl

  inside : (t : Target) (addend : ℕ) → stays_inside l t addend ≡ stays_inside m t addend
  inside (target.Section file section offset) addend = simp same.object
  inside (target.Common id) addend = simp (same.object, views.commons l m same)
  inside (target.Import id) addend = refl
  inside target.Base addend = refl
  inside (target.Absolute value) addend = refl
  inside target.None addend = refl

  fits : (s : SectionId) (f : Field) (kind : Kind) → field_fits l s f kind ≡ field_fits m s f kind
  fits s f Pointer = simp (same.object, tables.in_template l m same, views.exponent l m same, inside)
  fits s f Difference = refl
  fits s f Branch = simp (views.exponent l m same, multiple)
  fits s f Page = refl
  fits s f Offset = simp (same.object, multiple)
  fits s f SlotPage = refl
  fits s f SlotOffset = refl
  fits s f SlotDistance = refl
  fits s f NoKind = refl

  all_fit : (s : SectionId) → All (λ f. field_fits l s f (kind_of f.type (is_some f.subtrahend)) ≡ true) (fields_of l s)
      → All (λ f. field_fits m s f (kind_of f.type (is_some f.subtrahend)) ≡ true) (fields_of m s)
  all_fit s h = simp (fits, parts.fields l m same) at h

module _ (l m : Link) (same : Agree l m) (back : Agree m l) where
  -- THE link is valid
  pub valid : (counts : Counts) → IsValid l counts → IsValid m counts
  valid counts v = record {
    unrefused = λ f alone is. v.unrefused f alone (stands m l back counts f is);
    fields = λ s there. all_fit l m same s (v.fields s (simp (views.carried m l back) at there));
    sum = simp (parts.sum l m same) at v.sum;
  }

  -- no refusal stands
  pub none_stands : (counts : Counts) (p : Placed) → NoneStands l counts p → NoneStands m counts p
  none_stands counts p h = record { none = λ f keeps is. h.none f keeps (stands m l back counts f is) }
