-- What is laid out of a link's plan is placed, and a plan is refused only where its link is.
--
-- Base, lists, the beginning of `__TEXT` and the end within the sum are laws of the layout; the other fields are proved beside. A plan has
-- as many segments and output sections as its link, and the link's sum. What isn't small has a segment or a signature past the limit;
-- where all is small, all tables end with the signature. Fewer pages need no more room.
use Rattle.std.proofs.Common.{◌≡◌, ℕ, zero, suc, ◌*◌, ◌^◌, ◌≤◌, ◌&&◌, nat_lt, if◌then◌else◌, Bool, true, false, Some, None, List, [], ◌∷◌, All, Contains, sum_by, refl, sym, ap, ◌∙◌, arith, inl, inr}
use Rattle.std.specs.List.{list_all}
use Rattle.std.proofs.lemmas.Bool.{false≢true, and_parts, and_cases, ltb-true, ltb-false}
use Rattle.std.proofs.lemmas.List.Elements.{All-head, All-tail, All-contains}
use Rattle.std.proofs.lemmas.List.Sums.{sum_by-cons}
use Rattle.macho_records.specs.Segments.{text_of}
use Rattle.macho_model.specs.declared.placed.Counts.{Counts}
use Rattle.macho_model.specs.declared.placed.PlacedSegment.{PlacedSegment}
use Rattle.macho_model.specs.declared.placed.Range64.{Range64}
use Rattle.macho_model.specs.declared.targets.Limit.TheVariants as limit
use Rattle.macho_model.specs.Links.{Link}
use Rattle.macho_model.specs.Segments.{may_hold_pointers}
use Rattle.macho_model.specs.Placement.{Placed, IsPlaced, linkedit_ranges}
use Rattle.macho_model.specs.Order.{pages_of}
use Rattle.macho_model.specs.Limits.{ImagePasses}
use Rattle.macho_layout.specs.declared.fault.LayoutFault.TheVariants.{TooMany, TooLarge, OutOfMemory}
use Rattle.macho_layout.specs.Placements.{placed_of}
use Rattle.macho_layout.specs.Plans.{Planning, IsPlanOf}
use Rattle.macho_layout.specs.Sums.{FitsLimits}
use Rattle.macho_layout.specs.Laid.{IsLaidOut, is_small_segment, is_small_tables}
use Rattle.macho_layout.proofs.CostLaw.{outputs_same, written_same}
use Rattle.macho_layout.proofs.Ends.{text_is_first, ends_within_sum}
use Rattle.macho_stack.proofs.RowSteps.{rounded-mono}
use Rattle.macho_layout.proofs.SumLaw.{segments_same}
use Rattle.macho_layout.proofs.Whole.{base_is_links, lists_are_whole}
use Rattle.macho_layout_laws.specs.Laws.{LaidOutIsPlaced, KeptIsPlaced, RefusalsAreLinks, AnsweredPassNone, PagesFit}
use Rattle.macho_layout_laws.proofs.Segments.{all_paged, all_follow}
use Rattle.macho_layout_laws.proofs.Lying.{is_aligned, in_segment, ranges_between}
use Rattle.macho_layout_laws.proofs.Apart.{all_apart}
use Rattle.macho_layout_laws.proofs.Template.{template_holds}
use Rattle.macho_layout_laws.proofs.Rooms.{rooms, sum_kept}
use Rattle.macho_layout_laws.proofs.Ordering.{stand_in_order, are_least}
use Rattle.macho_layout_laws.proofs.Outputs.{headers_are}
use Rattle.macho_model.proofs.Parts.{even_pieces, pieces_in, apart_pieces, template_pieces}
use Rattle.macho_model.proofs.Outputs.{stand_least, headers_same}
use Rattle.macho_model.specs.Rooms.{pointer_pages}

is_placed : (l : Link) (p : Planning) (counts : Counts) (q : Placed) → IsPlanOf l p → FitsLimits p counts → IsLaidOut p counts q
    → IsPlaced l counts q
is_placed l p counts q plan fits h = record {
  base = base_is_links l p counts q plan h;
  whole_list = lists_are_whole l p counts q plan h;
  aligned = even_pieces l counts q (is_aligned l p counts q plan fits h);
  in_segment = pieces_in l counts q (in_segment l p counts q plan fits h);
  apart = apart_pieces l counts q q.sections (all_apart l p counts q plan fits h);
  paged = all_paged l p counts q plan fits h;
  follow = all_follow l p counts q plan fits h;
  begins = text_is_first l p counts q plan h;
  template = template_pieces l counts q q.template (template_holds l p counts q plan fits h);
  within_sum = ends_within_sum l p counts q plan fits h;
}

pub laid_out_is_placed : LaidOutIsPlaced
laid_out_is_placed l p counts q plan fits h = record {
  placed = is_placed l p counts q plan fits h;
  order = stand_in_order l p counts q plan fits h;
  least = stand_least (are_least l p counts q plan fits h);
  sections = headers_are l p counts q plan fits h ∙ sym (headers_same l counts q);
}

pub kept_is_placed : KeptIsPlaced
kept_is_placed l p counts q plan t = laid_out_is_placed l p counts q plan t.fits t.laid

-- a list in which not all pass has one that doesn't
some_fails : {X : Type 0} (t : X → Bool) (xs : List X) → list_all t xs ≡ false → (x : X) × Contains xs x × (t x ≡ false)
some_fails t [] e = absurd (false≢true (sym e))
some_fails {X} t (x ∷ xs) e = elim (and_cases (t x) (list_all t xs) e) [
  | inl here ↦ (x, (0, omega arith, refl), here)
  | inr later ↦ let r = some_fails t xs later in (r.0, (suc r.1.0, omega (arith, r.1.1), r.1.2), r.2)
]

image_passes : (l : Link) (q : Placed) → (list_all is_small_segment q.segments && is_small_tables q.linkedit) ≡ false → ImagePasses l q
image_passes l q e = elim (and_cases (list_all is_small_segment q.segments) (is_small_tables q.linkedit) e) [
  | inl segments ↦
      let s = some_fails is_small_segment q.segments segments in
      elim (and_cases (nat_lt s.0.file_offset (2 ^ 32)) (nat_lt s.0.file_size (2 ^ 32)) s.2) [
        | inl offset ↦ inl (s.0, s.1, inl (ltb-false s.0.file_offset (2 ^ 32) offset))
        | inr size ↦ inl (s.0, s.1, inr (ltb-false s.0.file_size (2 ^ 32) size))
      ]
  | inr tables ↦ inr (inl (q.linkedit.signature, (4, omega arith, refl), ltb-false q.linkedit.signature.end (2 ^ 32) tables))
]

pub refusals_are_links : RefusalsAreLinks
refusals_are_links l p counts (TooMany limit.Segments number) plan f = (f.0 ∙ segments_same l p plan, f.1)
refusals_are_links l p counts (TooMany limit.Libraries number) plan f = absurd f
refusals_are_links l p counts (TooMany limit.Sections number) plan f = (f.0 ∙ outputs_same l p counts plan, f.1)
refusals_are_links l p counts (TooMany limit.Personalities number) plan f = absurd f
refusals_are_links l p counts (TooMany limit.Imports number) plan f = absurd f
refusals_are_links l p counts (TooMany limit.NameBytes number) plan f = absurd f
refusals_are_links l p counts (TooMany limit.Symbols number) plan f = absurd f
refusals_are_links l p counts (TooMany limit.Pages number) plan f = absurd f
refusals_are_links l p counts (TooLarge None) plan f = omega (arith, f, written_same l p counts plan)
refusals_are_links l p counts (TooLarge (Some placement)) plan f = image_passes l (placed_of placement) f.large
refusals_are_links l p counts OutOfMemory plan f = tt

pub answered_pass_none : AnsweredPassNone
answered_pass_none l p counts q plan fits h small =
    let both = and_parts (list_all is_small_segment q.segments) (is_small_tables q.linkedit) small.small in
    let signature = ltb-true q.linkedit.signature.end (2 ^ 32) both.1 in
    record {
      segments = λ number x. omega (arith, x.0, x.1, segments_same l p plan, fits.segments);
      sections = λ number x. omega (arith, x.0, x.1, outputs_same l p counts plan, fits.sections);
      sum = λ x. omega (arith, x, written_same l p counts plan, fits.sum);
      files = λ s there.
          let one = small_one q.segments both.0 s there in
          let parts = and_parts (nat_lt s.file_offset (2 ^ 32)) (nat_lt s.file_size (2 ^ 32)) one in
          (ltb-true s.file_offset (2 ^ 32) parts.0, ltb-true s.file_size (2 ^ 32) parts.1);
      ranges = λ r there.
          let b = All-contains (λ (r : Range64). (h.offset ≤ r.start) × (r.start ≤ r.end) × (r.end ≤ q.linkedit.signature.end))
          (linkedit_ranges q) r (ranges_between l p counts q plan fits h) there in
          omega (arith, b.2, signature);
    }
  where
    small_one : (ss : List PlacedSegment) → list_all is_small_segment ss ≡ true → (s : PlacedSegment) → Contains ss s → is_small_segment s
        ≡ true
    small_one [] all s (k, low, is) = absurd (omega (arith, low))
    small_one (x ∷ ss) all s (zero, low, is) = ap is_small_segment (sym is) ∙
        (and_parts (is_small_segment x) (list_all is_small_segment ss) all).0
    small_one (x ∷ ss) all s (suc k, low, is) = small_one ss (and_parts (is_small_segment x) (list_all is_small_segment ss) all).1 s
        (k, omega (arith, low), is)

sum_less : {X : Type 0} (f g : X → ℕ) (xs : List X) → All (λ x. f x ≤ g x) xs → sum_by f xs ≤ sum_by g xs
sum_less f g [] h = omega arith
sum_less f g (x ∷ xs) h =
    omega (
      arith,
      sum_by-cons f x xs,
      sum_by-cons g x xs,
      All-head (λ y. f y ≤ g y) x xs h,
      sum_less f g xs
          (All-tail (λ y. f y ≤ g y) x xs h),
    )

pub pages_do_fit : PagesFit
pages_do_fit l p counts q used plan fits h each =
    let less = sum_less used (λ s. if may_hold_pointers (text_of s.name) then pages_of s else 0) q.segments each in
    let pages = sum_kept pages_of (λ s. may_hold_pointers (text_of s.name)) q.segments in
    let room = (rooms l p counts q plan fits h).fixups in
    let more = rounded-mono 8 (2 * sum_by used q.segments) (2 * pointer_pages q) (omega arith) (omega (arith, less, pages)) in
    omega (arith, room, more)
