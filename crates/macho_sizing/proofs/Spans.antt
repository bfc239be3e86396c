-- The span of a link's views is the span of the link.
--
-- Each is a sum over the carried sections in `__TEXT` with bytes in the file: by views and numbers of sections, and by sections of the
-- link. Such a section is placed at its own alignment, since what is thread-local stands in `__DATA`.
use Rattle.std.proofs.Common.{◌≡◌, ℕ, ◌+◌, ◌^◌, ◌<◌, ◌≤◌, ◌&&◌, ◌||◌, not, ◌==◌, if◌then◌else◌, suc, Bool, true, false, List, [], ◌∷◌, ◌++◌, map, length, get_or, take, sum_by, refl, sym, ap, ◌∙◌, subst, arith, Some, None}
use Rattle.std.specs.Prelude.{All, filter, Option, max, nat_lt}
use Rattle.std.specs.List.{flat_map, range_with_len, enumerate_from}
use Rattle.std.specs.Str.{bytes_eq}
use Rattle.std.proofs.lemmas.Bool.{true≢false, ltb-false}
use Rattle.std.proofs.lemmas.Slice.Eq.{bytes_eq-Decides}
use Rattle.std.proofs.lemmas.List.{get_or_default}
use Rattle.std.proofs.lemmas.List.Concat.{flat_map-cons}
use Rattle.std.proofs.lemmas.List.Elements.{All-head, All-tail, filter-append}
use Rattle.std.proofs.lemmas.List.Sums.{sum_by-cons, sum_by-append, sum_by_more, sum_by_more_le}
use Rattle.std.proofs.lemmas.List.FromFn.{length-range_with_len, get_or-range_with_len}
use Rattle.macho_records.specs.declared.header.SectionHeader.{SectionHeader}
use Rattle.macho_records.specs.declared.constants.TheConstants.{S_THREAD_LOCAL_REGULAR, S_THREAD_LOCAL_ZEROFILL, S_THREAD_LOCAL_VARIABLES}
use Rattle.macho_records.specs.Sections.{is_zerofill, type_of, segment_name_of}
use Rattle.macho_model.specs.Objects.{num_sections, section_at}
use Rattle.macho_model.specs.ObjectRules.{is_thread_local}
use Rattle.macho_model.specs.Segments.{TEXT, DATA}
use Rattle.macho_model.specs.Links.{Link, Input, Object, Dylib, Stub, SectionId, object_bytes, object_of, no_input, header_at, sections_of_file, sections_of, is_carried, template_exponent, placed_exponent, carried_of}
use Rattle.macho_model.specs.WrittenSum.{section_cost as cost_in_link}
use Rattle.macho_object.specs.Views.{FileBytes}
use Rattle.macho_promise.specs.Views.{object_view, views_of, ViewsObject}
use Rattle.macho_promise.specs.Sizes.{text_span}
use Rattle.macho_layout.specs.Sums.{fitting, section_cost}
use Rattle.macho_sizing.specs.Sections.{KeepsRules}
use Rattle.macho_sizing.proofs.Standing.{keeps_rules}
use Rattle.macho_sizing.specs.steps.Spans.{holds_text, span_of, span_of_view, span_of_views}
use Rattle.macho_bytes.proofs.Members.{contains_all, range_contains}

pub span_held : (h : SectionHeader) → holds_text h ≡ true → span_of h ≡ section_cost h.size h.align
unfolding span_of
span_held h e = rw e refl

pub span_other : (h : SectionHeader) → holds_text h ≡ false → span_of h ≡ 0
unfolding span_of
span_other h e = rw e refl

-- sums over numbers, one number more
pub below_more : (f : ℕ → ℕ) (n k : ℕ) → k < n → sum_by f (take (k + 1) (range_with_len 0 n)) ≡ sum_by f (take k (range_with_len 0 n)) + f k
below_more f n k lt =
    let within : k < length (range_with_len 0 n) = omega (arith, lt, length-range_with_len 0 n) in
    let at : get_or (range_with_len 0 n) k 0 ≡ k = omega (arith, get_or-range_with_len 0 n k 0 lt) in
    sum_by_more f (range_with_len 0 n) k 0 within ∙ ap (λ (j : ℕ). sum_by f (take k (range_with_len 0 n)) + f j) at

pub below_less : (f : ℕ → ℕ) (n k : ℕ) → k < n → sum_by f (take k (range_with_len 0 n)) + f k ≤ sum_by f (range_with_len 0 n)
below_less f n k lt =
    let within : k < length (range_with_len 0 n) = omega (arith, lt, length-range_with_len 0 n) in
    let at : get_or (range_with_len 0 n) k 0 ≡ k = omega (arith, get_or-range_with_len 0 n k 0 lt) in
    omega (
      arith,
      sum_by_more_le f (range_with_len 0 n) k 0 within,
      ap f at,
    )

-- a section of the link in `__TEXT` with bytes in the file
abbrev pub in_text : Link → SectionId → Bool
in_text l s = bytes_eq (segment_name_of (header_at l s)) TEXT && not (is_zerofill (header_at l s))

abbrev pub carried_in : Link → SectionId → Bool
carried_in l s = is_carried (header_at l s)

-- what stands in `__TEXT` stands in no other segment
one_segment : (name : List ℕ) → bytes_eq name TEXT ≡ true → bytes_eq name DATA ≡ true → ⊥
one_segment name first second =
    let same : TEXT ≡ DATA = sym (bytes_eq-true name TEXT first) ∙ bytes_eq-true name DATA second in
    let d : 84 ≡ 68 = ap (λ (t : List ℕ). get_or t 2 0) same in
    absurd (omega (arith, d))
  where
    bytes_eq-true : (xs ys : List ℕ) → bytes_eq xs ys ≡ true → xs ≡ ys
    bytes_eq-true xs ys e = (bytes_eq-Decides xs ys).0 e

-- a section in `__TEXT` is placed at its own alignment
own_alignment : (l : Link) (s : SectionId) → KeepsRules (header_at l s) → bytes_eq (segment_name_of (header_at l s)) TEXT ≡ true
    → placed_exponent l s ≡ (header_at l s).align
unfolding placed_exponent
own_alignment l s rules text = by (is_thread_local (type_of (header_at l s))) refl
  where
    parts : (a b c d : Bool) (x y z : ℕ) → (a || b || c) ≡ false → (if d && (a || b) then x else if c then y else z) ≡ z
    parts true b c d x y z e = absurd (true≢false e)
    parts false true c d x y z e = absurd (true≢false e)
    parts false false true d x y z e = absurd (true≢false e)
    parts false false false true x y z e = refl
    parts false false false false x y z e = refl

    by : (t : Bool) → is_thread_local (type_of (header_at l s)) ≡ t → placed_exponent l s ≡ (header_at l s).align
    by true e = absurd (one_segment (segment_name_of (header_at l s)) text (rules.thread_local e))
    by false e =
        parts (type_of (header_at l s) == S_THREAD_LOCAL_REGULAR) (type_of (header_at l s) == S_THREAD_LOCAL_ZEROFILL)
        (type_of (header_at l s) == S_THREAD_LOCAL_VARIABLES) (is_carried (header_at l s)) (template_exponent l) (max 3
        (header_at l s).align)
        (header_at l s).align e

-- one section
abbrev cost_of : Link → List SectionId → ℕ
cost_of l ss = sum_by (cost_in_link l) (filter (in_text l) (filter (carried_in l) ss))

one_cost : (l : Link) (s : SectionId) → KeepsRules (header_at l s) → cost_of l (s ∷ []) ≡ span_of (header_at l s)
one_cost l s rules = by (is_carried (header_at l s)) (bytes_eq (segment_name_of (header_at l s)) TEXT) (is_zerofill (header_at l s))
    refl refl refl
  where
    by : (a b z : Bool) → is_carried (header_at l s) ≡ a → bytes_eq (segment_name_of (header_at l s)) TEXT ≡ b
        → is_zerofill (header_at l s) ≡ z
        → cost_of l (s ∷ []) ≡ span_of (header_at l s)
    by false b z e f g = rw e (sym (span_other (header_at l s) (rw e refl)))
    by true false z e f g = rw (e, f) (sym (span_other (header_at l s) (rw (e, f) refl)))
    by true true true e f g = rw (e, f, g) (sym (span_other (header_at l s) (rw (e, f, g) refl)))
    by true true false e f g =
        let held = span_held (header_at l s) (rw (e, f, g) refl) in
        rw (e, f, g) (omega (arith, held, ap (λ (n : ℕ). section_cost (header_at l s).size n) (own_alignment l s rules f)))

-- sections behind others
cost_both : (l : Link) (ss ts : List SectionId) → cost_of l (ss ++ ts) ≡ cost_of l ss + cost_of l ts
cost_both l ss ts =
    ap (λ (xs : List SectionId). sum_by (cost_in_link l) (filter (in_text l) xs)) (filter-append (carried_in l) ss ts)
    ∙ ap (sum_by (cost_in_link l)) (filter-append (in_text l) (filter (carried_in l) ss) (filter (carried_in l) ts))
    ∙ sum_by-append (cost_in_link l) (filter (in_text l) (filter (carried_in l) ss)) (filter (in_text l) (filter (carried_in l) ts))

-- the sections of an object
object_cost : (l : Link) (file : ℕ) (b : List ℕ) (ks : List ℕ) → object_of l file ≡ b → All (λ k. KeepsRules (section_at b k)) ks
    → cost_of l (map (λ k. record { file = file; section = k }) ks) ≡ sum_by (λ k. span_of (section_at b k)) ks
object_cost l file b [] is rules = refl
object_cost l file b (k ∷ ks) is rules =
    let id : SectionId = record { file = file; section = k } in
    let header : header_at l id ≡ section_at b k = ap (λ (c : List ℕ). section_at c k) is in
    let rule : KeepsRules (header_at l id)
    = subst KeepsRules (sym header) (All-head (λ (n : ℕ). KeepsRules (section_at b n)) k ks rules) in
    omega (
      arith,
      cost_both l (id ∷ []) (map (λ n. record { file = file; section = n }) ks),
      one_cost l id rule,
      ap span_of header,
      object_cost l file b ks is (All-tail (λ (n : ℕ). KeepsRules (section_at b n)) k ks rules),
      sum_by-cons (λ n. span_of (section_at b n)) k ks,
    )

-- of a file
file_cost : (l : Link) (file : ℕ) (x : Input) → object_of l file ≡ object_bytes x → ViewsObject (object_view x)
    → cost_of l (sections_of_file file x) ≡ span_of_view (object_view x)
file_cost l file (Object b) is rules =
    object_cost l file b (range_with_len 0 (num_sections b)) is
    (contains_all (λ k. KeepsRules (section_at b k)) (range_with_len 0 (num_sections b))
    (λ k there. keeps_rules b k rules.0 (range_contains (num_sections b) k there)))
file_cost l file (Dylib b) is rules = refl
file_cost l file (Stub text says) is rules = refl

-- of all files
files_cost : (l : Link) (n : ℕ) (xs : List Input) → ((k : ℕ) (d : Input) → k < length xs
    → object_of l (n + k) ≡ object_bytes (get_or xs k d))
    → All ViewsObject (map object_view xs)
    → cost_of l (flat_map (λ i. sections_of_file i.0 i.1) (enumerate_from n xs)) ≡ span_of_views (map object_view xs)
files_cost l n [] same rules = refl
files_cost l n (x ∷ xs) same rules =
    let zero_more : n + 0 ≡ n = omega arith in
    let first : object_of l n ≡ object_bytes x = ap (object_of l) (sym zero_more) ∙ same 0 x (omega arith) in
    let rest = files_cost l (n + 1) xs (λ k d lt.
    let number : n + 1 + k ≡ n + suc k = omega arith in
    ap (object_of l) number ∙ same (suc k) d (omega (arith, lt))) (All-tail ViewsObject (object_view x) (map object_view xs) rules) in
    omega (
      arith,
      ap (cost_of l) (flat_map-cons (λ (i : ℕ × Input). sections_of_file i.0 i.1) (n, x) (enumerate_from (n + 1) xs)),
      cost_both l (sections_of_file n x) (flat_map (λ i. sections_of_file i.0 i.1) (enumerate_from (n + 1) xs)),
      file_cost l n x first (All-head ViewsObject (object_view x) (map object_view xs) rules),
      rest,
      sum_by-cons span_of_view (object_view x) (map object_view xs),
    )

-- THE span of a link
pub span_is : (l : Link) → All ViewsObject (views_of l) → span_of_views (views_of l) ≡ text_span l
unfolding carried_of sections_of
span_is l rules = sym (files_cost l 0 l.inputs (λ k d lt.
    let number : 0 + k ≡ k = omega arith in
    ap (object_of l) number ∙ ap object_bytes (get_or_default l.inputs k no_input d lt)) rules)

-- it is part of what the sections cost
pub span_within : (l : Link) → text_span l ≤ sum_by (cost_in_link l) (carried_of l)
span_within l = less (carried_of l)
  where
    less : (ss : List SectionId) → sum_by (cost_in_link l) (filter (in_text l) ss) ≤ sum_by (cost_in_link l) ss
    less [] = omega arith
    less (s ∷ ss) = by (in_text l s) refl (less ss)
      where
        by : (b : Bool) → in_text l s ≡ b → sum_by (cost_in_link l) (filter (in_text l) ss) ≤ sum_by (cost_in_link l) ss
            → sum_by (cost_in_link l) (filter (in_text l) (s ∷ ss)) ≤ sum_by (cost_in_link l) (s ∷ ss)
        by true e rest =
            rw e (omega (arith, rest, sum_by-cons (cost_in_link l) s (filter (in_text l) ss), sum_by-cons (cost_in_link l) s ss))
        by false e rest = rw e (omega (arith, rest, sum_by-cons (cost_in_link l) s ss))

pub views_span : (l : Link) (views : List (Option FileBytes)) → views ≡ views_of l → All ViewsObject views
    → span_of_views views ≡ text_span l
views_span l views are rules =
    ap span_of_views are ∙ span_is l (subst (λ (vs : List (Option FileBytes)). All ViewsObject vs) are rules)

-- what doesn't fit 64 bits is 2 ^ 64 or more
pub span_large : (n : ℕ) → None ≡ fitting n → 2 ^ 64 ≤ n
span_large n e = by (nat_lt n (2 ^ 64)) refl e
  where
    by : (b : Bool) → nat_lt n (2 ^ 64) ≡ b → None ≡ fitting n → 2 ^ 64 ≤ n
    by true is e = let some : None ≡ Some n = rw is at e in cc
    by false is e = ltb-false n (2 ^ 64) is
