-- The file when the other texts are written behind its contents: each stands in a range of its own.
use Rattle.std.proofs.Common.{◌≡◌, ℕ, ◌+◌, ◌-◌, ◌<◌, ◌≤◌, inl, inr, nat_le, nat_lt, List, [], ◌∷◌, ◌++◌, map, length, filter, refl, sym, ap, ◌&&◌, subst, ◌∙◌, arith, append_assoc, All, Contains}
use Rattle.std.proofs.lemmas.Bool.{ltb-true}
use Rattle.macho_bytes.specs.Texts.{Part, end_of}
use Rattle.macho_model.specs.declared.placed.Counts.{Counts}
use Rattle.macho_model.specs.declared.placed.PlacedSegment.{PlacedSegment}
use Rattle.macho_model.specs.declared.placed.Range64.{Range64}
use Rattle.macho_model.specs.Links.{Link}
use Rattle.macho_model.specs.Placement.{Placed, linkedit_ranges}
use Rattle.macho_model.specs.Zeros.{Span}
use Rattle.macho_model.specs.Spans.{AreApart, range_span, in_file}
use Rattle.macho_model.specs.Lists.{of_first}
use Rattle.macho_model.specs.Addresses.{offset_in_file}
use Rattle.macho_fixups.specs.declared.run.Fixup.{Fixup}
use Rattle.macho_bytes.proofs.Members.{contains_first, filter_contains, all_contains, all_left, all_right}
use Rattle.macho_bytes.proofs.Orders.{EachLater}
use Rattle.macho_placed_laws.proofs.Room.{file_parts_end}
use Rattle.macho_placed_laws.specs.Parts.{written, LiesInRange, LieInRanges, IsMadeOf, part_now}
use Rattle.macho_placed_laws.specs.Ranges.{file_ranges, head_range, EndsInFile}
use Rattle.macho_placed_laws.proofs.Parts.{all_more}
use Rattle.macho_promise_laws.specs.Written.{AreContents, Texts, TextsFit, text_parts, content_ranges}
use Rattle.macho_promise_laws.proofs.Pieces.{swapped}
use Rattle.macho_promise_laws.proofs.Exactly.{filling_lie}
use Rattle.macho_promise_laws.proofs.Slices.{each_all, now_fill}
use Rattle.macho_promise_laws.proofs.Contents.{Grounds, section_ranges, slot_ranges, stub_ranges, filled_parts, contents_fill, contents_made, words_made, all_ranges}
use Rattle.macho_bytes.proofs.Bools.{and_right}

-- no address is told to be past the end of the file
offset_low : (l : Link) (counts : Counts) (p : Placed) (n a : ℕ) → Grounds l counts p n → offset_in_file p a ≤ n
unfolding offset_in_file
offset_low l counts p n a g = by (filter (λ (t : PlacedSegment). nat_le t.address a && nat_lt a (t.address + t.file_size)) p.segments) refl
  where
    ends : All (λ (s : PlacedSegment). s.file_offset + s.file_size ≤ p.linkedit.signature.end) p.segments
    ends = file_parts_end l counts p g.placed.follow g.laid_out

    by : (found : List PlacedSegment)
        → filter (λ (t : PlacedSegment). nat_le t.address a && nat_lt a (t.address + t.file_size)) p.segments ≡ found
        → of_first 0 (λ s. s.file_offset + (a - s.address)) found ≤ n
    by [] e = omega arith
    by (s ∷ found) e =
        let there = filter_contains (λ (t : PlacedSegment). nat_le t.address a && nat_lt a (t.address + t.file_size)) p.segments s
        (subst (λ (xs : List PlacedSegment). Contains xs s) (sym e) (contains_first s found)) in
        let below : a < s.address + s.file_size = ltb-true a (s.address + s.file_size)
        (and_right (nat_le s.address a) (nat_lt a (s.address + s.file_size)) there.1) in
        let end = all_contains (λ (u : PlacedSegment). u.file_offset + u.file_size ≤ p.linkedit.signature.end) p.segments s ends there.0 in
        omega (arith, below, end, g.size)

-- the ranges of the texts, in the order in which they are written
abbrev pub text_ranges : Counts → Placed → List Span
text_ranges counts p =
    in_file p (range_span p.init_offsets) ∷ in_file p (range_span p.unwind) ∷ range_span p.linkedit.fixups ∷ range_span p.linkedit.trie
    ∷ range_span p.linkedit.symtab ∷ range_span p.linkedit.strtab ∷ head_range counts p ∷ range_span p.linkedit.signature ∷ []

-- those but the last two
abbrev pub first_ranges : Placed → List Span
first_ranges p =
    in_file p (range_span p.init_offsets) ∷ in_file p (range_span p.unwind) ∷ range_span p.linkedit.fixups ∷ range_span p.linkedit.trie
    ∷ range_span p.linkedit.symtab ∷ range_span p.linkedit.strtab ∷ []

apart_behind : (l : Link) (counts : Counts) (p : Placed) (n : ℕ) → Grounds l counts p n
    → EachLater AreApart (content_ranges l p ++ text_ranges counts p)
unfolding content_ranges file_ranges
apart_behind l counts p n g =
    let joined : EachLater AreApart (content_ranges l p ++ first_ranges p ++ range_span p.linkedit.signature ∷ head_range counts p ∷ []) =
    subst (EachLater AreApart) (regroup (content_ranges l p) (first_ranges p) (range_span p.linkedit.signature) (head_range counts p))
    (all_ranges l counts p n g) in
    subst (EachLater AreApart) (append_assoc (content_ranges l p) (first_ranges p)
    (head_range counts p ∷ range_span p.linkedit.signature ∷ []))
    (swapped (content_ranges l p ++ first_ranges p) (range_span p.linkedit.signature) (head_range counts p) joined)
  where
    regroup : (xs ys : List Span) (a b : Span) → (xs ++ (ys ++ a ∷ [])) ++ b ∷ [] ≡ (xs ++ ys) ++ a ∷ b ∷ []
    regroup xs ys a b =
        append_assoc xs (ys ++ a ∷ []) (b ∷ []) ∙ ap (λ (zs : List Span). xs ++ zs) (append_assoc ys (a ∷ []) (b ∷ []))
        ∙ sym (append_assoc xs ys (a ∷ b ∷ []))

-- a text at the front of a range lies in it
front_lies : (at size : ℕ) (text : List ℕ) → length text ≤ size
    → LiesInRange (record { at = at; text = text }) (record { start = at; size = size })
front_lies at size text fits = inr (omega arith, omega (arith, fits))

pub texts_lie : (counts : Counts) (p : Placed) (t : Texts) → TextsFit counts p t → LieInRanges (text_parts p t) (text_ranges counts p)
texts_lie counts p t fit = (
  front_lies _ _ t.initializers fit.made.initializers,
  (
    front_lies _ _ t.unwind fit.made.unwind,
    (
      front_lies _ _ t.fixups fit.fixups,
      (
        front_lies _ _ t.trie fit.trie,
        (
          front_lies _ _ t.symbols fit.symbols.0,
          (
            front_lies _ _ t.strings fit.symbols.1,
            (
              front_lies _ _ t.head fit.head,
              (front_lies _ _ t.signature fit.signature, tt),
            ),
          ),
        ),
      ),
    ),
  ),
)

-- the tables of `__LINKEDIT` begin in the file
abbrev pub TablesBegin : Placed → ℕ → Type 0
TablesBegin p n = All (λ (r : Range64). r.start ≤ n) (linkedit_ranges p)

-- a text that is at the front of a range ends in the file
front_ends : (p : Placed) (n at size : ℕ) (text : List ℕ) → n ≡ p.linkedit.signature.end → EndsInFile p (record { start = at; size = size })
    → length text ≤ size → at ≤ n
    → at + length text ≤ n
front_ends p n at size text is (inl none) fits low = omega (arith, none, fits, low)
front_ends p n at size text is (inr inside) fits low = omega (arith, is, inside, fits)

pub texts_end : (l : Link) (counts : Counts) (p : Placed) (n : ℕ) (t : Texts) → Grounds l counts p n → TablesBegin p n → TextsFit counts p t
    → All (λ (q : Part). end_of q ≤ n) (text_parts p t)
unfolding file_ranges
texts_end l counts p n t g begin fit =
    let all = g.ends l counts p g.placed g.laid_out in
    let contents : List Span = (section_ranges l p ++ slot_ranges p) ++ stub_ranges p in
    let others : List Span = in_file p (range_span p.init_offsets) ∷ in_file p (range_span p.unwind) ∷ map range_span (linkedit_ranges p) in
    let made : All (EndsInFile p) others =
    all_right (EndsInFile p) contents others (all_left (EndsInFile p) (contents ++ others) (head_range counts p ∷ []) all) in
    let head : All (EndsInFile p) (head_range counts p ∷ []) = all_right (EndsInFile p) (contents ++ others) (head_range counts p ∷ []) all
    in
    each_all (λ (q : Part). end_of q ≤ n) (text_parts p t) (
      front_ends p n _ _ t.initializers g.size (made 0 (head_range counts p) (omega arith)) fit.made.initializers
          (offset_low l counts p n p.init_offsets.start g),
      (
        front_ends p n _ _ t.unwind g.size (made 1 (head_range counts p) (omega arith)) fit.made.unwind
            (offset_low l counts p n p.unwind.start g),
        (
          front_ends p n _ _ t.fixups g.size (made 2 (head_range counts p) (omega arith)) fit.fixups
              (begin 0 p.linkedit.fixups (omega arith)),
          (
            front_ends p n _ _ t.trie g.size (made 3 (head_range counts p) (omega arith)) fit.trie
                (begin 1 p.linkedit.fixups (omega arith)),
            (
              front_ends p n _ _ t.symbols g.size (made 4 (head_range counts p) (omega arith)) fit.symbols.0
                  (begin 2 p.linkedit.fixups (omega arith)),
              (
                front_ends p n _ _ t.strings g.size (made 5 (head_range counts p) (omega arith)) fit.symbols.1
                    (begin 3 p.linkedit.fixups (omega arith)),
                (
                  front_ends p n _ _ t.head g.size (head 0 (head_range counts p) (omega arith)) fit.head (omega arith),
                  (
                    front_ends p n _ _ t.signature g.size (made 6 (head_range counts p) (omega arith)) fit.signature
                        (begin 4 p.linkedit.fixups (omega arith)),
                    tt,
                  ),
                ),
              ),
            ),
          ),
        ),
      ),
    )

-- THE file
pub all_made : (l : Link) (counts : Counts) (p : Placed) (run : List Fixup) (n : ℕ) (now : List ℕ) (t : Texts) → Grounds l counts p n
    → TablesBegin p n → (c : AreContents l p run n now) → TextsFit counts p t
    → IsMadeOf n (map (part_now now) (filled_parts c) ++ text_parts p t) (written (text_parts p t) now)
all_made l counts p run n now t g begin c fit =
    let before = contents_made l counts p run n now g c in
    let made = words_made l counts p run n now g c in
    let lie = filling_lie (map (part_now now) (filled_parts c)) (content_ranges l p)
    (now_fill c.before now (filled_parts c) (content_ranges l p) before.each (made.size ∙ sym before.size)
    (contents_fill l p run n now c)) in
    all_more n (map (part_now now) (filled_parts c)) (text_parts p t) (content_ranges l p) (text_ranges counts p) now made lie
    (apart_behind l counts p n g) (texts_lie counts p t fit) (texts_end l counts p n t g begin fit)
