-- A placement has more parts than sections: each section is a part, and header and commands are one.
use Rattle.std.proofs.Common.{◌≡◌, ℕ, ◌+◌, ◌<◌, List, ◌∷◌, ◌++◌, map, length, get_or, ap, arith}
use Rattle.std.proofs.lemmas.List.{length-append}
use Rattle.std.proofs.lemmas.List.FromFn.{length-map-range_with_len}
use Rattle.macho_model.specs.declared.placed.Counts.{Counts}
use Rattle.macho_model.specs.Placement.{Placed, range_piece, head_size}
use Rattle.macho_layout.specs.declared.spec.SectionSpec.{SectionSpec}
use Rattle.macho_layout.specs.declared.spec.CommonSpec.{CommonSpec}
use Rattle.macho_placement_rules.specs.declared.parts.Part.{Part}
use Rattle.macho_placement_rules.specs.steps.Pieces.{template_exponent_of, section_part, section_parts, common_part, slot_part, stub_part, table_piece, as_part, tables_of, made_parts, no_section, no_spec}

-- the first of five lists is no longer than all of them
fits : {X : Type 0} (a b c d e : List X) (n : ℕ) → length a ≡ n → n < length ((((a ++ b) ++ c) ++ d) ++ e) + 1
fits a b c d e n long =
    omega (
      arith,
      long,
      length-append (((a ++ b) ++ c) ++ d) e,
      length-append ((a ++ b) ++ c) d,
      length-append (a ++ b) c,
      length-append a b,
    )

pub made_long : (counts : Counts) (p : Placed) (specs : List SectionSpec) (commons : List CommonSpec) (parts : List Part)
    → parts ≡ made_parts counts p specs commons → length p.sections < length parts
unfolding made_parts
made_long counts p specs commons parts made =
    let S : List Part = section_parts (template_exponent_of specs) specs p.sections in
    let C : List Part = map (common_part commons) p.commons in
    let G : List Part = map slot_part p.slots in
    let B : List Part = map stub_part p.stubs in
    let J : List Part = as_part (range_piece 0 p.init_offsets) ∷ as_part (range_piece 0 p.unwind)
    ∷ map (λ r. as_part (table_piece p.segments r)) (tables_of p.linkedit) in
    let many : length S ≡ length p.sections
    = length-map-range_with_len (λ k. section_part (template_exponent_of specs) (get_or p.sections k no_section) (get_or specs k no_spec))
    0 (length p.sections) in
    let h : Part = record { start = p.base; size = head_size counts p; exponent = 0 } in
    let whole : parts ≡ h ∷ ((((S ++ C) ++ G) ++ B) ++ J) = made in
    let all : length parts ≡ length ((((S ++ C) ++ G) ++ B) ++ J) + 1 = omega (arith, ap length whole) in
    omega (arith, all, fits S C G B J (length p.sections) many)
