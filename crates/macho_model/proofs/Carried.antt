-- A carried section is in no segment of the linker's own, since what is in such a segment isn't carried.
use Rattle.std.proofs.Common.{◌≡◌, ◌||◌, not, Bool, true, false, refl}
use Rattle.std.specs.Str.{bytes_eq}
use Rattle.macho_records.specs.Sections.{should_exclude_of, segment_name_of}
use Rattle.macho_records.specs.declared.header.SectionHeader.{SectionHeader}
use Rattle.macho_model.specs.Links.{is_carried}
use Rattle.macho_model.specs.Segments.{PAGEZERO, LINKEDIT}
use Rattle.macho_bytes.proofs.Bools.{and_left}

pub segment_of_carried : (h : SectionHeader) → is_carried h ≡ true
    → (bytes_eq (segment_name_of h) PAGEZERO ≡ false) × (bytes_eq (segment_name_of h) LINKEDIT ≡ false)
segment_of_carried h carried =
    let kept : not (should_exclude_of h) ≡ true = and_left _ _ (and_left _ _ carried) in
    parts _ (bytes_eq (segment_name_of h) PAGEZERO) (bytes_eq (segment_name_of h) LINKEDIT) _ _ kept
  where
    parts : (a b c d e : Bool) → not (a || (b || (c || d)) || e) ≡ true → (b ≡ false) × (c ≡ false)
    parts true b c d e h = cc
    parts false true c d e h = cc
    parts false false true d e h = cc
    parts false false false d e h = (refl, refl)
