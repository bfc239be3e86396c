-- A file that is made part by part.
--
-- Ranges that share no byte hold parts that share none, but for empty parts, which are written nowhere. So every part stands
-- once all are written,
-- whatever the order, and a byte in none of them is as it was: 0. A later write over some parts alone, as that of the words
-- that the loader writes,
-- leaves the others, and each of these holds then what stands there.
use Rattle.std.proofs.Common.{◌≡◌, ℕ, suc, ◌+◌, ◌-◌, ◌<◌, ◌≤◌, ◌⊎◌, inl, inr, ◌==◌, Bool, true, false, List, [], ◌∷◌, ◌++◌, map, length, get_or, slice_index, slice_range, refl, sym, ap, subst, ◌∙◌, arith, append_assoc, eqb-true, All}
use Rattle.std.proofs.lemmas.Bool.Decides.{nat_tests}
use Rattle.std.proofs.lemmas.Bool.{cases_lt}
use Rattle.std.proofs.lemmas.List.{get_or_past, get_or_append_left, get_or_at, get_or-map, get_or-replicate, append-nil, length-append, length-map, length-replicate}
use Rattle.std.proofs.lemmas.List.Edits.{length-between}
use Rattle.std.proofs.lemmas.List.Elements.{All-nil, All-cons, All-append, All-map, Contains-append_right}
use Rattle.macho_bytes.specs.Texts.{put, Part, end_of, Stands, Apart, IsOutside}
use Rattle.macho_bytes.specs.Images.{zeros}
use Rattle.macho_bytes.proofs.Puts.{length-put, get_or-put_below, get_or-put_above, put_stands, put_nothing, is_put, stands_by_bytes, stands_beside}
use Rattle.macho_model.specs.Zeros.{Span}
use Rattle.macho_model.specs.Spans.{AreApart}
use Rattle.macho_bytes.proofs.Members.{all_contains, contains_first}
use Rattle.macho_bytes.proofs.Orders.{EachLater}
use Rattle.macho_placed_laws.specs.Parts.{written, LiesInRange, LieInRanges, IsMadeOf, part_now}
use Rattle.macho_bytes.proofs.Comparing.{no_elements}

-- parts in ranges that share no byte share none, where neither is empty
apart_parts : (q r : Part) (s t : Span) → AreApart s t → (s.start ≤ q.at) × (end_of q ≤ s.start + s.size)
    → (t.start ≤ r.at) × (end_of r ≤ t.start + t.size)
    → 1 ≤ length q.text → 1 ≤ length r.text → Apart q r
apart_parts q r s t (inl e) a b x y = absurd (omega (arith, e, a.0, a.1, x))
apart_parts q r s t (inr (inl e)) a b x y = absurd (omega (arith, e, b.0, b.1, y))
apart_parts q r s t (inr (inr (inl e))) a b x y = inl (omega (arith, e, a.0, a.1, b.0, b.1))
apart_parts q r s t (inr (inr (inr e))) a b x y = inr (omega (arith, e, a.0, a.1, b.0, b.1))

-- an empty part stands wherever it ends in the file
empty_stands : (b : List ℕ) (q : Part) → length q.text ≡ 0 → end_of q ≤ length b → Stands b q
empty_stands b q none within = stands_by_bytes b q within (λ i low. absurd (omega (arith, none, low)))

-- what is outside all parts and one more is outside them, and outside that one
outside_front : (i : ℕ) (parts : List Part) (q : Part) → All (IsOutside i) (parts ++ q ∷ []) → All (IsOutside i) parts
outside_front i parts q each = λ k d lt.
    let at_k = each k d (omega (arith, lt, length-append parts (q ∷ []))) in
    subst (IsOutside i) (get_or_append_left parts (q ∷ []) d k lt) at_k

outside_last : (i : ℕ) (parts : List Part) (q : Part) → All (IsOutside i) (parts ++ q ∷ []) → IsOutside i q
outside_last i parts q each =
    let at_end = each (length parts) q (omega (arith, length-append parts (q ∷ []))) in
    subst (IsOutside i) (get_or_at parts q [] q (length parts) refl) at_end

-- a part that stands goes on standing beside what is written
stays : (q : Part) (b : List ℕ) (r : Part) → end_of q ≤ length b → Stands b r → (length r.text ≡ 0) ⊎ Apart r q
    → Stands (put q.at q.text b) r
stays q b r fits stands (inl none) =
    empty_stands (put q.at q.text b) r none (omega (arith, stands.within, length-put q.at q.text b fits))
stays q b r fits stands (inr apart) = stands_beside q.at q.text b r fits stands apart

-- each part that was written is empty or apart from a part in a range of its own
each_beside : (parts : List Part) (spans : List Span) (q : Part) (s : Span) → LieInRanges parts spans → All (λ t. AreApart t s) spans
    → (s.start ≤ q.at) × (end_of q ≤ s.start + s.size) → 1 ≤ length q.text → All (λ r. (length r.text ≡ 0) ⊎ Apart r q) parts
each_beside [] [] q s lie apart inside some = All-nil (λ r. (length r.text ≡ 0) ⊎ Apart r q)
each_beside [] (t ∷ spans) q s lie apart inside some = absurd lie
each_beside (r ∷ parts) [] q s lie apart inside some = absurd lie
each_beside (r ∷ parts) (t ∷ spans) q s lie apart inside some =
    All-cons (λ u. (length u.text ≡ 0) ⊎ Apart u q) r parts (by (length r.text == 0) refl lie.0)
    (each_beside parts spans q s lie.1 (λ k d lt. apart (suc k) d (omega arith)) inside some)
  where
    by : (x : Bool) → (length r.text == 0) ≡ x → LiesInRange r t → (length r.text ≡ 0) ⊎ Apart r q
    by true e lies = inl (eqb-true (length r.text) 0 e)
    by false e (inl none) = inl none
    by false e (inr lies) =
        let more : 1 ≤ length r.text = grind (arith, nat_tests) in
        inr (apart_parts r q t s (apart 0 t (omega arith)) lies inside more some)

-- nothing changes where an empty part is written
nothing_put : (q : Part) (b : List ℕ) → length q.text ≡ 0 → end_of q ≤ length b → put q.at q.text b ≡ b
nothing_put q b none fits =
    ap (λ (t : List ℕ). put q.at t b) (no_elements q.text none) ∙ put_nothing q.at b (omega (arith, fits))

-- THE step: a part is written into a range of its own
pub one_more : (n : ℕ) (parts : List Part) (spans : List Span) (q : Part) (s : Span) (b : List ℕ) → IsMadeOf n parts b
    → LieInRanges parts spans
    → All (λ t. AreApart t s) spans → LiesInRange q s → end_of q ≤ n → IsMadeOf n (parts ++ q ∷ []) (put q.at q.text b)
one_more n parts spans q s b made lie apart within fits = record {
  size = length-put q.at q.text b inside ∙ made.size;
  each = All-append (Stands (put q.at q.text b)) parts (q ∷ []) (kept (length q.text == 0) refl within)
      (All-cons (Stands (put q.at q.text b)) q [] (put_stands q.at q.text b inside) (All-nil (Stands (put q.at q.text b))));
  rest = λ i outside. zero_at i (outside_front i parts q outside) (outside_last i parts q outside);
}
  where
    inside : end_of q ≤ length b
    inside = omega (arith, fits, made.size)

    unchanged : length q.text ≡ 0 → All (Stands (put q.at q.text b)) parts
    unchanged none = subst (λ (c : List ℕ). All (Stands c) parts) (sym (nothing_put q b none inside)) made.each

    kept : (x : Bool) → (length q.text == 0) ≡ x → LiesInRange q s → All (Stands (put q.at q.text b)) parts
    kept true e lies = unchanged (eqb-true (length q.text) 0 e)
    kept false e (inl none) = unchanged none
    kept false e (inr lies) =
        let some : 1 ≤ length q.text = grind (arith, nat_tests) in
        let beside = each_beside parts spans q s lie apart lies some in
        λ k d lt. stays q b (get_or parts k d) inside (made.each k d lt) (beside k d lt)

    zero_at : (i : ℕ) → All (IsOutside i) parts → IsOutside i q → slice_index (put q.at q.text b) i ≡ 0
    zero_at i outside (inl below) = get_or-put_below q.at q.text b i inside (omega arith) ∙ made.rest i outside
    zero_at i outside (inr above) = get_or-put_above q.at q.text b i inside above ∙ made.rest i outside

-- a place of a part is in none that is empty or apart from it
outside_each : (i : ℕ) (parts : List Part) (q : Part) → q.at ≤ i → i < end_of q → All (λ r. (length r.text ≡ 0) ⊎ Apart r q) parts
    → All (IsOutside i) parts
outside_each i parts q from to beside k d lt = by (get_or parts k d) (beside k d lt)
  where
    by : (r : Part) → (length r.text ≡ 0) ⊎ Apart r q → IsOutside i r
    by r (inl none) = elim (cases_lt i r.at) [ inl below ↦ inl (omega (arith, below)) | inr above ↦ inr (omega (arith, above, none)) ]
    by r (inr (inl before)) = inr (omega (arith, before, from))
    by r (inr (inr after)) = inl (omega (arith, after, to))

zeros_at : (k i : ℕ) → get_or (zeros k) i 0 ≡ 0
zeros_at k i = elim (cases_lt i k) [
  | inl lt ↦ get_or-replicate k i 0 0 lt
  | inr le ↦ get_or_past (zeros k) i 0 (omega (arith, le, length-replicate {A = ℕ} k 0))
]

-- a range of its own in which nothing was written holds zeros
pub one_zero : (n : ℕ) (parts : List Part) (spans : List Span) (s : Span) (b : List ℕ) → IsMadeOf n parts b → LieInRanges parts spans
    → All (λ t. AreApart t s) spans → s.start + s.size ≤ n → IsMadeOf n (parts ++ record { at = s.start; text = zeros s.size } ∷ []) b
one_zero n parts spans s b made lie apart fits =
    subst (IsMadeOf n (parts ++ q ∷ [])) (sym same) (one_more n parts spans q s b made lie apart within (omega (arith, long, fits)))
  where
    q : Part
    q = record { at = s.start; text = zeros s.size }

    long : length q.text ≡ s.size
    long = length-replicate s.size 0

    within : LiesInRange q s
    within = inr (omega arith, omega (arith, long))

    zero_in : (i : ℕ) → q.at ≤ i → i < end_of q → get_or b i 0 ≡ 0
    zero_in i from to =
        let some : 1 ≤ length q.text = omega (arith, from, to) in
        made.rest i (outside_each i parts q from to (each_beside parts spans q s lie apart (omega arith, omega (arith, long)) some))

    same : b ≡ put q.at q.text b
    same = is_put q.at q.text b b (omega (arith, long, fits, made.size)) refl
        (λ i from to. zero_in i from to ∙ sym (zeros_at s.size (i - s.start))) (λ i below. refl) (λ i above. refl)

-- parts and ranges, one more
pub lie_more : (parts : List Part) (spans : List Span) (q : Part) (s : Span) → LieInRanges parts spans → LiesInRange q s
    → LieInRanges (parts ++ q ∷ []) (spans ++ s ∷ [])
lie_more [] [] q s lie one = (one, tt)
lie_more [] (t ∷ spans) q s lie one = absurd lie
lie_more (r ∷ parts) [] q s lie one = absurd lie
lie_more (r ∷ parts) (t ∷ spans) q s lie one = (lie.0, lie_more parts spans q s lie.1 one)

-- THE parts that were written over those before them: each stands
pub all_more : (n : ℕ) (parts more : List Part) (spans behind : List Span) (b : List ℕ) → IsMadeOf n parts b → LieInRanges parts spans
    → EachLater AreApart (spans ++ behind) → LieInRanges more behind → All (λ q. end_of q ≤ n) more
    → IsMadeOf n (parts ++ more) (written more b)
all_more n parts [] spans behind b made lie apart lies fit =
    subst (λ (qs : List Part). IsMadeOf n qs b) (sym (append-nil parts)) made
all_more n parts (q ∷ more) spans [] b made lie apart lies fit = absurd lies
all_more n parts (q ∷ more) spans (s ∷ behind) b made lie apart lies fit =
    let first = later_split spans s behind apart in
    let step = one_more n parts spans q s b made lie first lies.0 (fit 0 q (omega arith)) in
    let regrouped : EachLater AreApart ((spans ++ s ∷ []) ++ behind) =
    subst (EachLater AreApart) (sym (append_assoc spans (s ∷ []) behind)) apart in
    let rest = all_more n (parts ++ q ∷ []) more (spans ++ s ∷ []) behind (put q.at q.text b) step
    (lie_more parts spans q s lie lies.0) regrouped lies.1
    (λ k d lt. fit (suc k) d (omega arith)) in
    subst (λ (qs : List Part). IsMadeOf n qs (written more (put q.at q.text b))) (append_assoc parts (q ∷ []) more) rest
  where
    later_split : (ts : List Span) (u : Span) (us : List Span) → EachLater AreApart (ts ++ u ∷ us) → All (λ t. AreApart t u) ts
    later_split [] u us later = All-nil (λ t. AreApart t u)
    later_split (t ∷ ts) u us later =
        All-cons (λ v. AreApart v u) t ts
        (all_contains (AreApart t) (ts ++ u ∷ us) u later.0 (Contains-append_right ts (u ∷ us) u (contains_first u us)))
        (later_split ts u us later.1)

-- THE parts once more: where bytes outside all of them stay, the file is made of what stands in them now
pub made_again : (n : ℕ) (parts : List Part) (b c : List ℕ) → IsMadeOf n parts b → length c ≡ n
    → ((i : ℕ) → All (IsOutside i) parts → slice_index c i ≡ slice_index b i) → IsMadeOf n (map (part_now c) parts) c
made_again n parts b c made long same = record {
  size = long;
  each = All-map (Stands c) (part_now c) parts (λ k d lt. now_stands (get_or parts k d) (made.each k d lt));
  rest = λ i outside.
      let before : All (IsOutside i) parts = λ k d lt. was_outside i (get_or parts k d) (made.each k d lt)
      (subst (IsOutside i) (get_or-map (part_now c) parts k d (part_now c d) lt)
      (outside k (part_now c d) (omega (arith, lt, length-map parts (part_now c))))) in
      same i before ∙ made.rest i before;
}
  where
    length_now : (q : Part) → Stands b q → length (slice_range c q.at (end_of q)) ≡ length q.text
    length_now q stands = omega (arith, length-between c q.at (end_of q), stands.within, made.size, long)

    now_stands : (q : Part) → Stands b q → Stands c (part_now c q)
    now_stands q stands =
        let size = length_now q stands in
        record {
          within = omega (arith, size, stands.within, made.size, long);
          same = ap (slice_range c q.at) (omega (arith, size));
        }

    was_outside : (i : ℕ) (q : Part) → Stands b q → IsOutside i (part_now c q) → IsOutside i q
    was_outside i q stands (inl below) = inl below
    was_outside i q stands (inr above) = inr (omega (arith, above, length_now q stands))
