-- Entries at their addresses, by what is looked up.
--
-- The ends of entries are looked at one by one. What is asked of the entries at their addresses tells that no address passes 64 bits:
-- a function's start is not above its end.
use Rattle.std.proofs.Common.{◌≡◌, ℕ, ◌+◌, ◌-◌, ◌^◌, ◌<◌, ◌≤◌, List, length, map, take, get_or, Option, Some, None, subst, arith}
use Rattle.std.specs.Prelude.{All, IfSome, option_map}
use Rattle.macho_unwind_pages.specs.declared.entries.ResolvedUnwindInfo.{ResolvedUnwindInfo}
use Rattle.macho_unwind_pages.proofs.Told.{all_more}
use Rattle.macho_bytes.proofs.Members.{all_contains, contains_all, contains_map}
use Rattle.macho_model.specs.declared.targets.Target.{Target}
use Rattle.macho_consumed.specs.declared.rows.SectionPlace.{SectionPlace}
use Rattle.macho_consumed.specs.declared.rows.UnwindEntry.{UnwindEntry}
use Rattle.macho_fields.specs.Looks.{Look}
use Rattle.macho_synthetic.specs.Entries.{address_at, resolved_row, MayBeBuilt}

-- one end more is near
pub near_more : (base : ℕ) (entries : List ResolvedUnwindInfo) (i : ℕ) (e : ResolvedUnwindInfo) → i < length entries
    → e ≡ get_or entries i e → All (λ f. f.start + f.length < base + 2 ^ 32) (take i entries) → e.start + e.length - base ≤ 4294967295
    → All (λ f. f.start + f.length < base + 2 ^ 32) (take (i + 1) entries)
near_more base entries i e lt is before small =
    let Q : ResolvedUnwindInfo → Type 0 = λ f. f.start + f.length < base + 2 ^ 32 in
    let here : Q e = omega (arith, small) in
    all_more Q entries i e lt before (subst Q is here)

-- no address of an entry passes 64 bits
pub starts_low : (look : Look) (slots : List Target) (entries : List UnwindEntry)
    → MayBeBuilt look.base (map (resolved_row look slots) entries)
    → All (λ e. address_at look e.file e.start < 2 ^ 64) entries
starts_low look slots entries sound =
    contains_all (λ e. address_at look e.file e.start < 2 ^ 64) entries (λ e has.
    let end = all_contains (λ (f : ResolvedUnwindInfo). f.start + f.length < 2 ^ 64) (map (resolved_row look slots) entries)
    (resolved_row look slots e) sound.are.ends (contains_map (resolved_row look slots) entries e has) in
    omega (arith, end))

pub lsdas_low : (look : Look) (slots : List Target) (entries : List UnwindEntry)
    → MayBeBuilt look.base (map (resolved_row look slots) entries)
    → All (λ e. IfSome e.lsda (λ place. address_at look e.file place < 2 ^ 64)) entries
lsdas_low look slots entries sound =
    contains_all (λ e. IfSome e.lsda (λ place. address_at look e.file place < 2 ^ 64)) entries (λ e has.
    one e.file e.lsda (all_contains (λ (f : ResolvedUnwindInfo). IfSome f.lsda (λ a. a < 2 ^ 64)) (map (resolved_row look slots) entries)
    (resolved_row look slots e) sound.lsdas (contains_map (resolved_row look slots) entries e has)))
  where
    one : (file : ℕ) (lsda : Option SectionPlace) → IfSome (option_map (address_at look file) lsda) (λ a. a < 2 ^ 64)
        → IfSome lsda (λ place. address_at look file place < 2 ^ 64)
    one file None low = tt
    one file (Some place) low = low
