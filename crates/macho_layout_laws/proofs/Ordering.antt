-- Parts stand in the stated order, each as low as it may.
--
-- A stack stands in order, and each of its pieces at the least place. So do rows of segments, pieces of output sections, and tables;
-- `__PAGEZERO` and `__LINKEDIT` have their front alone. The ends of rows tell the sizes.
use Rattle.std.proofs.Common.{◌≡◌, ℕ, ◌-◌, Bool, true, false, List, [], ◌∷◌, ◌++◌, map, length, get_or, All, refl, sym, ap, ◌∙◌, subst, arith}
use Rattle.std.specs.Str.{bytes_eq}
use Rattle.std.proofs.lemmas.List.Elements.{All-nil, All-cons, All-append, All-weaker}
use Rattle.macho_bytes.specs.Numbers.{rounded_up}
use Rattle.macho_records.specs.Segments.{text_of}
use Rattle.macho_model.specs.declared.placed.Counts.{Counts}
use Rattle.macho_model.specs.declared.placed.Linkedit.{Linkedit}
use Rattle.macho_model.specs.declared.placed.PlacedSegment.{PlacedSegment}
use Rattle.macho_model.specs.Lists.{EachNext}
use Rattle.macho_model.specs.Links.{Link}
use Rattle.macho_model.specs.Segments.{PAGEZERO, LINKEDIT, SEGMENT_PAGE, segment_names_of, list_if}
use Rattle.macho_model.specs.Placement.{Placed, Piece}
use Rattle.macho_model.specs.steps.Outputs.{OutputSection, pieces_of, output_sections_in, output_sections_of}
use Rattle.macho_model.specs.Order.{BeginsLeast}
use Rattle.macho_model.specs.steps.Least.{row_of, sections_in, least_size, least_file_size, AreLeast}
use Rattle.macho_model.specs.Spans.{StandInOrder}
use Rattle.macho_layout.specs.Plans.{Planning, IsPlanOf}
use Rattle.macho_layout.specs.Keys.{padded}
use Rattle.macho_layout.specs.Sums.{FitsLimits}
use Rattle.macho_layout.specs.Laid.{IsLaidOut, zero_page}
use Rattle.macho_layout.proofs.Rooms.{unmapped}
use Rattle.macho_layout.proofs.Whole.{sections_are_listed, commons_are_listed}
use Rattle.macho_layout_laws.proofs.Stacks.{stack_next}
use Rattle.macho_layout_laws.proofs.Names.{mapped_of, mapped_names_are}
use Rattle.macho_layout_laws.proofs.Segments.{segments_are, last_segment, row_names, texts_are, fields_are, map_whole, mapped_not_last}
use Rattle.macho_layout_laws.proofs.Rooms.{front_is, tables_least, rooms}
use Rattle.macho_layout_laws.proofs.Standing.{IsGood, all_good, all_flat, zero_sections, last_sections, IsRowOf, rows_are, mapped_not_zero}
use Rattle.macho_bytes.proofs.Maps.{map_map}

module _ (l : Link) (p : Planning) (counts : Counts) (q : Placed) (plan : IsPlanOf l p) (fits : FitsLimits p counts)
    (h : IsLaidOut p counts q) where
  abbrev last : PlacedSegment
  last = last_segment l p counts q plan fits h

  -- what holds of the linker's own segments and of each row's holds of all
  pub segments_all : (P : PlacedSegment → Type 0) → P zero_page → All P h.segments → P last → All P q.segments
  segments_all P zero rows end =
      subst (All P) (sym (segments_are l p counts q plan fits h))
      (All-append P (list_if p.executable (zero_page ∷ []) ++ h.segments) (last ∷ [])
      (All-append P (list_if p.executable (zero_page ∷ [])) h.segments (by p.executable) rows)
      (All-cons P last [] end (All-nil P)))
    where
      by : (b : Bool) → All P (list_if b (zero_page ∷ []))
      by true = All-cons P zero_page [] zero (All-nil P)
      by false = All-nil P

  row_texts : map (λ (s : PlacedSegment). text_of s.name) h.segments ≡ mapped_of l
  row_texts =
      sym (map_map text_of (λ (s : PlacedSegment). s.name) h.segments) ∙ ap (map text_of) (row_names l p counts q plan fits h)
      ∙ map_map text_of padded (mapped_of l)
      ∙ map_whole l p counts q plan fits h (mapped_of l) (mapped_names_are l)

  -- what holds of the mapped names holds of those of the rows' segments
  row_named : (P : List ℕ → Type 0) → All P (mapped_of l) → All (λ s. P (text_of s.name)) h.segments
  row_named P all = unmapped P (λ (s : PlacedSegment). text_of s.name) h.segments (mapped_of l) row_texts all

  abbrev row : PlacedSegment → List Piece
  row s = row_of l counts q s (sections_in l counts s)

  alone_next : (s : PlacedSegment) → sections_in l counts s ≡ [] → EachNext BeginsLeast (row s)
  unfolding row_of
  alone_next s none k x y hx hy =
      let long = ap (λ (os : List OutputSection). length (row_of l counts q s os)) none in absurd (omega (arith, hy.0, long))

  rows_least : All (λ s. EachNext BeginsLeast (row s)) q.segments
  rows_least =
      segments_all (λ s. EachNext BeginsLeast (row s)) (alone_next zero_page (zero_sections l p counts q plan fits h))
      (All-weaker (IsRowOf l p counts q plan fits h) (λ s. EachNext BeginsLeast (row s))
      (λ s r. stack_next s.address (row s) r.end r.stack) h.segments (rows_are l p counts q plan fits h))
      (alone_next last (last_sections l p counts q plan fits h))

  -- all output sections of the image are good
  pub outputs_good : All (IsGood l p counts q plan fits h) (output_sections_of l counts)
  unfolding output_sections_of
  outputs_good =
      all_flat (IsGood l p counts q plan fits h) (output_sections_in l counts) (segment_names_of l)
      (λ k d low. all_good l p counts q plan fits h (get_or (segment_names_of l) k d))

  pieces_least : All (λ o. EachNext BeginsLeast (pieces_of l q o)) (output_sections_of l counts)
  pieces_least =
      All-weaker (IsGood l p counts q plan fits h) (λ o. EachNext BeginsLeast (pieces_of l q o))
      (λ o g. stack_next _ (pieces_of l q o) _ g.fit.stack) (output_sections_of l counts) outputs_good

  sizes_are : All (λ s. s.size ≡ least_size l counts q s) q.segments
  sizes_are =
      let end = ap (λ (t : Linkedit). rounded_up SEGMENT_PAGE (t.signature.end - h.offset)) (sym h.from_them.linkedit) in
      segments_all (λ s. s.size ≡ least_size l counts q s) refl
      (λ k d low.
      let s : PlacedSegment = get_or h.segments k d in
      let r = rows_are l p counts q plan fits h k d low in
      let one = row_named (λ n. bytes_eq n PAGEZERO ≡ false) (mapped_not_zero l p counts q plan fits h) k d low in
      let two = row_named (λ n. bytes_eq n LINKEDIT ≡ false) (mapped_not_last l) k d low in
      r.size ∙ sym (rw (one, two) refl))
      end

  file_sizes_are : All (λ s. s.file_size ≡ least_file_size l counts q s) q.segments
  file_sizes_are =
      let end = ap (λ (t : Linkedit). t.signature.end - h.offset) (sym h.from_them.linkedit) in
      segments_all (λ s. s.file_size ≡ least_file_size l counts q s) refl
      (λ k d low.
      let s : PlacedSegment = get_or h.segments k d in
      let r = rows_are l p counts q plan fits h k d low in
      let one = row_named (λ n. bytes_eq n PAGEZERO ≡ false) (mapped_not_zero l p counts q plan fits h) k d low in
      let two = row_named (λ n. bytes_eq n LINKEDIT ≡ false) (mapped_not_last l) k d low in
      r.file_size ∙ sym (rw (one, two) refl))
      end

  pub stand_in_order : StandInOrder l counts q
  stand_in_order = record {
    segments = texts_are l p counts q plan fits h;
    names = fields_are l p counts q plan fits h;
    sections = sections_are_listed l p counts q plan h;
    commons = commons_are_listed l p counts q plan h;
  }

  pub are_least : AreLeast l counts q
  are_least = record {
    front = front_is l p counts q plan fits h;
    rows = rows_least;
    pieces = pieces_least;
    tables = tables_least l p counts q plan fits h;
    sizes = sizes_are;
    file_sizes = file_sizes_are;
    rooms = rooms l p counts q plan fits h;
  }
