-- A placed link fits.
--
-- A placed section is one of an object of the link, which is viewed. It lies in a segment, whose end is below 2 ^ 64. Stubs follow
-- one another in memory, and so do the bytes of the file from the place of the first one. The rows of an object's symbols are kept.
use Rattle.std.proofs.Common.{◌≡◌, ℕ, ◌+◌, ◌*◌, ◌^◌, ◌<◌, ◌≤◌, not, ◌&&◌, ◌==◌, if◌then◌else◌, true, false, Bool, List, get_or, refl, sym, ap, subst, ◌∙◌, arith, inl, inr, Some, None, All}
use Rattle.std.specs.Prelude.{Contains}
use Rattle.std.proofs.lemmas.Bool.{cases_lt}
use Rattle.std.proofs.lemmas.List.{get_or_default, get_or-map}
use Rattle.macho_records.specs.Sections.{is_zerofill}
use Rattle.macho_model.specs.declared.placed.Counts.{Counts}
use Rattle.macho_model.specs.declared.placed.PlacedSection.{PlacedSection}
use Rattle.macho_model.specs.declared.placed.PlacedSegment.{PlacedSegment}
use Rattle.macho_model.specs.Objects.{num_symbols, section_at}
use Rattle.macho_model.specs.Links.{Object, Link, SectionId, no_input, header_at, is_carried, sections_of, carried_of}
use Rattle.macho_model.specs.WrittenSum.{STUB_SIZE}
use Rattle.macho_model.specs.Placement.{Placed, IsPlaced, IsPaged, id_of}
use Rattle.macho_model.specs.steps.Parts.{SectionLies}
use Rattle.macho_model.specs.Addresses.{offset_in_file}
use Rattle.macho_bytes.proofs.Members.{all_contains, contains_all, contains_filter, filter_contains}
use Rattle.macho_placed_laws.proofs.OfLink.{IsSectionOf, section_of}
use Rattle.macho_promise.specs.Views.{object_view, views_of}
use Rattle.macho_places.proofs.Telling.{symbol_here}
use Rattle.macho_contents.specs.Fitting.{HasRoom, SectionFits}
use Rattle.macho_contents.specs.FillingLaws.{SectionsHaveRoom, StubsHaveRoom, SymbolsAreKnown}
use Rattle.macho_contents.proofs.Viewing.{placed_carried, view_is}
use Rattle.macho_model.proofs.Parts.{in_segment_of}
use Rattle.macho_model.specs.Spans.{filled_sections}

-- a section's end is that of its segment or before
section_low : (l : Link) (counts : Counts) (p : Placed) (q : PlacedSection) → IsPlaced l counts p
    → All (λ s. s.address + s.size ≤ 2 ^ 64) p.segments
    → Contains p.sections q → q.address + (header_at l (id_of q)).size ≤ 2 ^ 64
section_low l counts p q placed ends here =
    let lies = all_contains (SectionLies l p) p.sections q (in_segment_of placed).sections here in
    let s = lies.0 in
    let there : Contains p.segments s = (q.segment, (lies.1).0, (lies.1).1) in
    let end = all_contains (λ (t : PlacedSegment). t.address + t.size ≤ 2 ^ 64) p.segments s ends there in
    let paged = all_contains IsPaged p.segments s placed.paged there in
    by s (not (is_zerofill (header_at l (id_of q))) && not ((header_at l (id_of q)).size == 0)) (lies.3).to end paged.file_size
  where
    by : (s : PlacedSegment) (b : Bool) → q.address + (header_at l (id_of q)).size ≤ s.address + (if b then s.file_size else s.size)
        → s.address + s.size ≤ 2 ^ 64 → s.file_size ≤ s.size → q.address + (header_at l (id_of q)).size ≤ 2 ^ 64
    by s true to end more = omega (arith, to, end, more)
    by s false to end more = omega (arith, to, end)

-- the view of its object
section_viewed : (l : Link) (q : PlacedSection) (of : IsSectionOf l (id_of q))
    → get_or (views_of l) q.file None ≡ Some (record { bytes = of.bytes; is_dynamic = false })
section_viewed l q of =
    get_or-map object_view l.inputs q.file no_input None of.input.0
    ∙ ap object_view (get_or_default l.inputs q.file no_input (Object of.bytes) of.input.0 ∙ of.input.1)

section_fits : (l : Link) (counts : Counts) (p : Placed) (n : ℕ) (q : PlacedSection) → IsPlaced l counts p
    → All (λ s. s.address + s.size ≤ 2 ^ 64) p.segments
    → All (λ t. 1 ≤ (header_at l (id_of t)).size → offset_in_file p t.address + (header_at l (id_of t)).size ≤ n) (filled_sections l p)
    → Contains p.sections q → IsSectionOf l (id_of q) → SectionFits (views_of l) p n q
section_fits l counts p n q placed ends inside here of = record {
  file = record { bytes = of.bytes; is_dynamic = false };
  viewed = section_viewed l q of;
  static = refl;
  among = of.section;
  room = λ bytes.
      let header : header_at l (id_of q) ≡ section_at of.bytes q.section = ap (λ (b : List ℕ). section_at b q.section) of.object in
      let filled : is_zerofill (header_at l (id_of q)) ≡ false = ap is_zerofill header ∙ bytes in
      let among_filled = contains_filter (λ (t : PlacedSection). not (is_zerofill (header_at l (id_of t)))) p.sections q here
      (ap not filled) in
      let fits = all_contains
      (λ (t : PlacedSection). 1 ≤ (header_at l (id_of t)).size → offset_in_file p t.address + (header_at l (id_of t)).size ≤ n)
      (filled_sections l p) q inside among_filled in
      subst (HasRoom p n q) header (record {
        low = section_low l counts p q placed ends here;
        inside = elim (cases_lt 0 (header_at l (id_of q)).size) [
          | inl some ↦ inr (fits (omega (arith, some)))
          | inr empty ↦ inl (omega (arith, empty))
        ];
      });
}

pub sections_have_room : SectionsHaveRoom
unfolding carried_of
sections_have_room l counts p n placed listed ends inside =
    contains_all (SectionFits (views_of l) p n) p.sections (λ q here.
    section_fits l counts p n q placed ends inside here
    (section_of l (id_of q) (filter_contains (λ (s : SectionId). is_carried (header_at l s)) (sections_of l) (id_of q)
    (placed_carried l p q listed here)).0))

pub stubs_have_room : StubsHaveRoom
stubs_have_room p n row file ends = record {
  row = λ k d low. ap (offset_in_file p) (row k d low) ∙ file d (STUB_SIZE * k) (omega (arith, low));
  ends = λ d some. ends d (omega (arith, some));
}

pub symbols_are_known : SymbolsAreKnown
symbols_are_known l noted rows is = record {
  each = λ k f seen s low.
      symbol_here l noted rows k s is (subst (λ (b : List ℕ). s < num_symbols b) (sym (view_is l (views_of l) k f refl seen)) low);
}
