-- The commons of a placed link, in the segment of an image.
--
-- Commons are placed by number, so the one of a number has its size at that number among the chosen ones. By the placement a `__DATA` holds
-- it, and segments of one name are one; so each `__DATA` does. That name isn't `__PAGEZERO`, so where the common has bytes the image has
-- mapped the segment.
use Rattle.std.proofs.Common.{◌≡◌, ℕ, ◌<◌, true, false, List, length, get_or, refl, ap, subst, ◌∙◌, arith}
use Rattle.std.specs.Prelude.{Contains}
use Rattle.std.specs.List.{enumerate_from}
use Rattle.std.specs.Str.{bytes_eq}
use Rattle.std.proofs.lemmas.Slice.Eq.{bytes_eq-Decides}
use Rattle.std.proofs.lemmas.List.{get_or-map, length-map}
use Rattle.std.proofs.lemmas.List.FromFn.{get_or-enumerate_from, length-enumerate_from}
use Rattle.macho_records.specs.Segments.{text_of}
use Rattle.macho_records.specs.Symbols.{common_size_of}
use Rattle.macho_model.specs.declared.placed.Counts.{Counts}
use Rattle.macho_model.specs.declared.placed.PlacedCommon.{PlacedCommon}
use Rattle.macho_model.specs.declared.placed.PlacedSegment.{PlacedSegment}
use Rattle.macho_model.specs.Links.{Link}
use Rattle.macho_model.specs.Resolution.{SymbolId, entry_at, chosen_commons}
use Rattle.macho_model.specs.Segments.{PAGEZERO, DATA}
use Rattle.macho_model.specs.Placement.{Placed, IsPlaced, IsInNamed, LiesIn, common_piece, common_of, is_segment_named}
use Rattle.macho_model.proofs.Sections.{one_named}
use Rattle.macho_bytes.proofs.Members.{all_contains, contains_all, contains_map, range_contains}
use Rattle.macho_layout.specs.declared.spec.CommonSpec.{CommonSpec}
use Rattle.macho_layout.specs.Plans.{common_spec_of}
use Rattle.macho_image_rules.specs.Segments.{SegmentsAre}
use Rattle.macho_image_rules.specs.Commons.{LiesMapped, CommonStands, PlacedCommonsStand, commons_of}
use Rattle.macho_image_rules.proofs.Mapped.{placed_is_mapped}

-- no common
no_spec : CommonSpec
no_spec = record { id = 0; size = 0; align = 0 }

abbrev no_symbol : SymbolId
no_symbol = record { file = 0; symbol = 0 }

-- the common of a number among the chosen ones
chosen_at : (l : Link) (k : ℕ) (d : CommonSpec) → k < length (chosen_commons l)
    → get_or (commons_of l) k d ≡ common_spec_of l (k, common_of l k)
chosen_at l k d low =
    get_or-map (common_spec_of l) (enumerate_from 0 (chosen_commons l)) k (0, no_symbol) d
    (omega (arith, low, length-enumerate_from 0 (chosen_commons l)))
    ∙ ap (common_spec_of l) (get_or-enumerate_from 0 (chosen_commons l) k (0, no_symbol) low)
    ∙ ap (λ (n : ℕ). common_spec_of l (n, common_of l k)) (omega arith)

length_chosen : (l : Link) → length (commons_of l) ≡ length (chosen_commons l)
length_chosen l = length-map (enumerate_from 0 (chosen_commons l)) (common_spec_of l) ∙ length-enumerate_from 0 (chosen_commons l)

-- the size that is told by a number is that of the common
pub size_told : (l : Link) (sizes : List CommonSpec) (k : ℕ) (d : CommonSpec) → sizes ≡ commons_of l → k < length sizes
    → (get_or sizes k d).size ≡ common_size_of (entry_at l (common_of l k))
size_told l sizes k d same low =
    ap (λ (cs : List CommonSpec). (get_or cs k d).size) same
    ∙ ap (λ (c : CommonSpec). c.size) (chosen_at l k d (omega (arith, low, ap length same, length_chosen l)))

-- a segment of another name isn't `__PAGEZERO`
pub named_elsewhere : (name : List ℕ) (s : PlacedSegment) → bytes_eq name PAGEZERO ≡ false → is_segment_named name s ≡ true
    → is_segment_named PAGEZERO s ≡ false
named_elsewhere name s other named = ap (λ (n : List ℕ). bytes_eq n PAGEZERO) ((bytes_eq-Decides (text_of s.name) name).0 named) ∙ other

lies_mapped : (l : Link) (b : List ℕ) (p : Placed) (c : PlacedCommon) (s : PlacedSegment) → SegmentsAre b p → Contains p.segments s
    → is_segment_named DATA s ≡ true → LiesIn false (common_piece l c) s
    → LiesMapped b s c.address (common_size_of (entry_at l (common_of l c.id)))
lies_mapped l b p c s are there named lies = record {
  mapped = λ some. placed_is_mapped b p s are there (omega (arith, some, lies.0, lies.1)) (named_elsewhere DATA s refl named);
  from = lies.0;
  to = lies.1;
}

common_stands : (l : Link) (counts : Counts) (b : List ℕ) (p : Placed) (c : PlacedCommon) → IsPlaced l counts p → SegmentsAre b p
    → Contains p.commons c → c.id < length (chosen_commons l) → CommonStands b p (commons_of l) c
common_stands l counts b p c placed are here low =
    let held = all_contains (λ (x : PlacedCommon). IsInNamed p DATA (LiesIn false (common_piece l x))) p.commons c
    placed.in_segment.commons here in
    record {
      spec = common_spec_of l (c.id, common_of l c.id);
      number = (omega (arith, low, length_chosen l), chosen_at l c.id (common_spec_of l (c.id, common_of l c.id)) low);
      some = (held.0, held.1, held.2);
      each = λ s there named.
          let same : held.0 ≡ s = one_named l p.segments DATA held.0 s placed.follow held.1 there held.2 named in
          lies_mapped l b p c s are there named (subst (LiesIn false (common_piece l c)) same held.3);
    }

-- THE commons of a placed link.
pub placed_commons : PlacedCommonsStand
placed_commons l counts b p placed are =
    contains_all (CommonStands b p (commons_of l)) p.commons (λ c here.
    common_stands l counts b p c placed are here
    (range_contains (length (chosen_commons l)) c.id
    (subst (λ (ns : List ℕ). Contains ns c.id) placed.whole_list.commons (contains_map (λ (x : PlacedCommon). x.id) p.commons c here))))
