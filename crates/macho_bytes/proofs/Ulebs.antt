-- The form of a number in groups is read back wherever it stands, and what is read is a form.
--
-- Reading cuts the bytes at the first last group. Where a whole form stands, that cut is the form itself, since its
-- groups before the last one go on; and what is cut is a form, since all groups before the first last one go on. The
-- groups of a number are such a form (`Groups`).
use Rattle.std.proofs.Common.{◌≡◌, ◌≢◌, ℕ, zero, suc, ◌+◌, ◌*◌, ◌%◌, ◌^◌, ◌-◌, ◌<◌, ◌≤◌, ◌⊎◌, Bool, true, false, ◌&&◌, nat_lt, List, [], ◌∷◌, ◌++◌, length, get_or, take, drop, slice_index, slice_range, refl, sym, ap, ◌∙◌, arith, inl, inr, min, Option, Some, None, IfSome, if◌then◌else◌}
use Rattle.std.proofs.lemmas.Bool.{cases_lt, lt-ltb, ltb-true}
use Rattle.std.proofs.lemmas.Bool.Decides.{nat_tests}
use Rattle.std.proofs.lemmas.List.{get_or-take, drop_all, length-take, length-drop, length-append, get_or_append_left, take-append-drop}
use Rattle.std.proofs.Math.Seq.{take-append_seam, drop-cons}
use Rattle.std.proofs.lemmas.List.Sums.{position_or_len_is, fails_before_first, passes_at_first}
use Rattle.macho_bytes.specs.Texts.{Stands}
pub use Rattle.macho_bytes.proofs.Groups.{FitsGroups, groups_last, groups_more, fits-last, fits-more, fits-ten, groups-shortest, length-groups, groups-grow, size-step, write-step, write-ends}
use Rattle.macho_bytes.proofs.Groups.{not_below}
use Rattle.macho_bytes.specs.Uleb.{uleb_value, IsUleb, IsShortest, MOST_GROUPS, IsUlebAt, groups_of, uleb_of, groups_before_last, first_groups, has_last_group, uleb_at, UlebReadsBack}

not_false : (a b : ℕ) → nat_lt a b ≡ false → b ≤ a
not_false a b h = grind (arith, nat_tests)

-- where a form stands at the front, its end is the first last group
first-form : (text rest : List ℕ) → IsUleb text → groups_before_last (text ++ rest) ≡ length text - 1
first-form text rest u =
    position_or_len_is (λ (b : ℕ). nat_lt b 128) (text ++ rest) (length text - 1) 0 (omega (arith, length-append text rest)) before here
  where
    same : (k : ℕ) → k < length text → get_or (text ++ rest) k 0 ≡ slice_index text k
    same k h = get_or_append_left text rest 0 k h

    before : (k : ℕ) → k < length text - 1 → nat_lt (get_or (text ++ rest) k 0) 128 ≡ false
    before k h = not_below (get_or (text ++ rest) k 0) 128 (omega (arith, same k (omega arith), u.goes_on k (omega arith)))

    here : length text - 1 < length (text ++ rest) → nat_lt (get_or (text ++ rest) (length text - 1) 0) 128 ≡ true
    here h = lt-ltb (get_or (text ++ rest) (length text - 1) 0) 128 (omega (arith, same (length text - 1) (omega (arith, u.some)), u.ends))

-- and it is what is cut off
cut-form : (text rest : List ℕ) → IsUleb text → first_groups (text ++ rest) ≡ text
cut-form text rest u =
    let whole : groups_before_last (text ++ rest) + 1 ≡ length text = omega (arith, first-form text rest u, u.some) in
    ap (λ (k : ℕ). take k (text ++ rest)) whole ∙ take-append_seam text rest

-- what a text of groups says at a place
abbrev told : List ℕ → ℕ → Option (ℕ × ℕ)
told text at = Some (uleb_value text, at + length text)

-- the answer, once the tests are known
answer : (xs text : List ℕ) (at : ℕ) → has_last_group xs ≡ true → first_groups xs ≡ text → uleb_value text < 2 ^ 64
    → (if has_last_group xs && nat_lt (uleb_value (first_groups xs)) (2 ^ 64) then told (first_groups xs) at else None) ≡ told text at
answer xs text at has cut fits =
    let one = ap (λ (t : List ℕ). if has_last_group xs && nat_lt (uleb_value t) (2 ^ 64) then told t at else None) cut in
    let two = ap (λ (b : Bool). if b && nat_lt (uleb_value text) (2 ^ 64) then told text at else None) has in
    let three = ap (λ (b : Bool). if b then told text at else None) (lt-ltb (uleb_value text) (2 ^ 64) fits) in
    one ∙ two ∙ three

-- a number that stands is read
pub uleb_at-only : (bytes : List ℕ) (at n last : ℕ) → IsUlebAt bytes at n last → uleb_at bytes at ≡ Some (n, last)
unfolding uleb_at
uleb_at-only bytes at n last u =
    let text : List ℕ = slice_range bytes at last in
    let split : text ++ drop (last - at) (drop at bytes) ≡ drop at bytes = take-append-drop (last - at) (drop at bytes) in
    let long : length text ≡ min (last - at) (length (drop at bytes)) = length-take (last - at) (drop at bytes) in
    let rest : length (drop at bytes) ≡ length bytes - at = length-drop at bytes in
    let some : 1 ≤ length text = u.form.some in
    let first : groups_before_last (drop at bytes) ≡ length text - 1 =
    ap groups_before_last (sym split) ∙ first-form text (drop (last - at) (drop at bytes)) u.form in
    let cut : first_groups (drop at bytes) ≡ text = ap first_groups (sym split) ∙ cut-form text (drop (last - at) (drop at bytes)) u.form in
    let has : has_last_group (drop at bytes) ≡ true =
    both (lt-ltb (groups_before_last (drop at bytes)) MOST_GROUPS (omega (arith, u.groups)))
    (lt-ltb (groups_before_last (drop at bytes)) (length (drop at bytes)) (omega arith)) in
    let ends : at + length text ≡ last = omega (arith, u.within) in
    let fits : uleb_value text < 2 ^ 64 = omega (arith, u.value, u.fits) in
    answer (drop at bytes) text at has cut fits ∙ pair u.value ends
  where
    both : {a b : Bool} → a ≡ true → b ≡ true → (a && b) ≡ true
    both p q = cc

    pair : {a b c d : ℕ} → a ≡ c → b ≡ d → (let r : Option (ℕ × ℕ) = Some (a, b) in r ≡ Some (c, d))
    pair p q = cc

-- what is cut off before the tests hold is a form
is-cut : (xs : List ℕ) → groups_before_last xs < length xs
    → (IsUleb (first_groups xs)) × (length (first_groups xs) ≡ groups_before_last xs + 1)
is-cut xs within = (record { some = omega (arith, long); goes_on = each; ends = last }, long)
  where
    long : length (first_groups xs) ≡ groups_before_last xs + 1
    long = omega (arith, length-take (groups_before_last xs + 1) xs)

    same : (k : ℕ) → k < groups_before_last xs + 1 → slice_index (first_groups xs) k ≡ slice_index xs k
    same k h = get_or-take (groups_before_last xs + 1) xs k 0 h

    each : (k : ℕ) → k + 1 < length (first_groups xs) → 128 ≤ slice_index (first_groups xs) k
    each k h =
        let goes : 128 ≤ slice_index xs k = not_false (slice_index xs k) 128
        (fails_before_first (λ (b : ℕ). nat_lt b 128) xs k 0 (omega (arith, long))) in
        omega (arith, same k (omega (arith, long)))

    last : slice_index (first_groups xs) (length (first_groups xs) - 1) < 128
    last =
        let stops : slice_index xs (groups_before_last xs) < 128 = ltb-true (slice_index xs (groups_before_last xs)) 128
        (passes_at_first (λ (b : ℕ). nat_lt b 128) xs 0 within) in
        let there : length (first_groups xs) - 1 ≡ groups_before_last xs = omega (arith, long) in
        omega (arith, ap (λ (k : ℕ). slice_index (first_groups xs) k) there, same (groups_before_last xs) (omega arith))

-- by the answers of the three tests
by_tests : {X : Type 0} (P : X → Type 0) (x : X) (a b c : Bool) → (a ≡ true → b ≡ true → c ≡ true → P x)
    → IfSome (if a && b && c then Some x else None) P
by_tests P x true true true holds = holds refl refl refl
by_tests P x true true false holds = tt
by_tests P x true false c holds = tt
by_tests P x false b c holds = tt

-- a number that is read stands
pub uleb_at-found : (bytes : List ℕ) (at : ℕ) → IfSome (uleb_at bytes at) (λ r. IsUlebAt bytes at r.0 r.1)
unfolding uleb_at
uleb_at-found bytes at =
    by_tests (λ (r : ℕ × ℕ). IsUlebAt bytes at r.0 r.1) (uleb_value text, at + length text) (nat_lt (groups_before_last xs) MOST_GROUPS)
    (nat_lt (groups_before_last xs) (length xs)) (nat_lt (uleb_value text) (2 ^ 64))
    (λ few within fits. stands (ltb-true (groups_before_last xs) MOST_GROUPS few) (ltb-true (groups_before_last xs) (length xs) within)
    (ltb-true (uleb_value text) (2 ^ 64) fits))
  where
    xs : List ℕ
    xs = drop at bytes

    text : List ℕ
    text = first_groups xs

    stands : groups_before_last xs < MOST_GROUPS → groups_before_last xs < length xs → uleb_value text < 2 ^ 64
        → IsUlebAt bytes at (uleb_value text) (at + length text)
    stands few within fits =
        let cut = is-cut xs within in
        let rest : length xs ≡ length bytes - at = length-drop at bytes in
        let count : at + length text - at ≡ groups_before_last xs + 1 = omega (arith, cut.1) in
        let same : slice_range bytes at (at + length text) ≡ text = ap (λ (k : ℕ). take k xs) count in
        record {
          within = omega (arith, cut.1);
          groups = omega (arith, cut.1);
          form = rw same cut.0;
          value = ap uleb_value same;
          fits = fits;
        }

-- the form of a number reads back
pub uleb_reads_back : (n : ℕ) → n < 2 ^ 64 → UlebReadsBack n
unfolding uleb_of
uleb_reads_back n fits = record { shortest = shortest; long = omega (arith, (length-groups (MOST_GROUPS - 1) n).1); back = back }
  where
    shortest : IsShortest (groups_of (MOST_GROUPS - 1) n) n
    shortest = groups-shortest (MOST_GROUPS - 1) n (fits-ten n fits)

    back : (bytes : List ℕ) (at : ℕ) → Stands bytes (record { at = at; text = groups_of (MOST_GROUPS - 1) n })
        → uleb_at bytes at ≡ Some (n, at + length (groups_of (MOST_GROUPS - 1) n))
    back bytes at s =
        uleb_at-only bytes at n (at + length (groups_of (MOST_GROUPS - 1) n)) (record {
          within = s.within;
          groups = omega (arith, (length-groups (MOST_GROUPS - 1) n).1);
          form = rw s.same shortest.form;
          value = ap uleb_value s.same ∙ shortest.value;
          fits = fits;
        })

-- a number has one byte at least, and ten at most
pub length-uleb_of : (n : ℕ) → (1 ≤ length (uleb_of n)) × (length (uleb_of n) ≤ MOST_GROUPS)
unfolding uleb_of
length-uleb_of n = length-groups (MOST_GROUPS - 1) n

-- a greater number has no fewer bytes
pub uleb_of-grows : (m n : ℕ) → m ≤ n → length (uleb_of m) ≤ length (uleb_of n)
unfolding uleb_of
uleb_of-grows m n le = groups-grow (MOST_GROUPS - 1) m n le

-- where the first groups go on, up to the tenth or to the end of the list, there is no last group
pub no_last_group : (xs : List ℕ) (i : ℕ) → (length xs ≤ i) ⊎ (MOST_GROUPS ≤ i) → ((k : ℕ) → k < i → k < length xs → 128 ≤ slice_index xs k)
    → has_last_group xs ≡ false
no_last_group xs i far goes =
    elim (cases_lt (groups_before_last xs) (length xs)) [
      | inr past ↦ rw (not_below (groups_before_last xs) (length xs) past) (and_false (nat_lt (groups_before_last xs) MOST_GROUPS))
      | inl within ↦
          let stops : slice_index xs (groups_before_last xs) < 128 = ltb-true (slice_index xs (groups_before_last xs)) 128
          (passes_at_first (λ (b : ℕ). nat_lt b 128) xs 0 within) in
          elim (cases_lt (groups_before_last xs) i) [
            | inl early ↦ absurd (omega (arith, goes (groups_before_last xs) early within))
            | inr late ↦ elim far [
              | inl end ↦ absurd (omega arith)
              | inr ten ↦ rw (not_below (groups_before_last xs) MOST_GROUPS (omega arith)) refl
            ]
          ]
    ]
  where
    and_false : (b : Bool) → (b && false) ≡ false
    and_false true = refl
    and_false false = refl

-- where the first groups go on and the next one is a last one, it is found there
pub has_last_group-at : (xs : List ℕ) (i : ℕ) → i < MOST_GROUPS → i < length xs → ((k : ℕ) → k < i → 128 ≤ slice_index xs k)
    → slice_index xs i < 128
    → (has_last_group xs ≡ true) × (first_groups xs ≡ take (i + 1) xs)
has_last_group-at xs i few within goes stops = (
  both (lt-ltb (groups_before_last xs) MOST_GROUPS (omega (arith, here)))
      (lt-ltb (groups_before_last xs) (length xs) (omega (arith, here))),
  ap (λ (k : ℕ). take (k + 1) xs) here,
)
  where
    here : groups_before_last xs ≡ i
    here = position_or_len_is (λ (b : ℕ). nat_lt b 128) xs i 0 (omega arith) (λ k h. not_below (get_or xs k 0) 128 (goes k h))
        (λ h. lt-ltb (get_or xs i 0) 128 stops)

    both : {a b : Bool} → a ≡ true → b ≡ true → (a && b) ≡ true
    both p q = cc

-- one group more in front of those that are done
pub uleb_value-more : (xs : List ℕ) (i : ℕ) → i < length xs
    → uleb_value (drop i xs) ≡ slice_index xs i % 128 + 128 * uleb_value (drop (i + 1) xs)
uleb_value-more xs i within =
    let next : suc i ≡ i + 1 = omega arith in
    ap uleb_value (drop-cons xs i 0 within) ∙ ap (λ (k : ℕ). slice_index xs i % 128 + 128 * uleb_value (drop k xs)) next

-- the groups from a place on are no more than all
pub uleb_value-drop : (xs : List ℕ) (i : ℕ) → uleb_value (drop i xs) ≤ uleb_value xs
uleb_value-drop xs zero = omega arith
uleb_value-drop [] (suc i) = omega arith
uleb_value-drop (x ∷ xs) (suc i) = omega (arith, uleb_value-drop xs i)

-- what is read, by what the parts say
pub uleb_at-unended : (bytes : List ℕ) (at : ℕ) → has_last_group (drop at bytes) ≡ false → uleb_at bytes at ≡ None
unfolding uleb_at
uleb_at-unended bytes at none =
    ap (λ (b : Bool). if b && nat_lt (uleb_value (first_groups (drop at bytes))) (2 ^ 64) then told
    (first_groups (drop at bytes)) at else None) none

pub uleb_at-great : (bytes text : List ℕ) (at : ℕ) → has_last_group (drop at bytes) ≡ true → text ≡ first_groups (drop at bytes)
    → 2 ^ 64 ≤ uleb_value text → uleb_at bytes at ≡ None
unfolding uleb_at
uleb_at-great bytes text at has cut great =
    let big : nat_lt (uleb_value (first_groups (drop at bytes))) (2 ^ 64)
    ≡ false = not_below (uleb_value (first_groups (drop at bytes))) (2 ^ 64) (omega (arith, ap uleb_value cut)) in
    ap (λ (b : Bool). if b && nat_lt (uleb_value (first_groups (drop at bytes))) (2 ^ 64) then told
    (first_groups (drop at bytes)) at else None) has
    ∙ ap (λ (b : Bool). if b then told (first_groups (drop at bytes)) at else None) big

pub uleb_at-told : (bytes text : List ℕ) (at n last : ℕ) → has_last_group (drop at bytes) ≡ true → text ≡ first_groups (drop at bytes)
    → n ≡ uleb_value text → n < 2 ^ 64
    → last ≡ at + length text → uleb_at bytes at ≡ Some (n, last)
unfolding uleb_at
uleb_at-told bytes text at n last has cut value fits ends =
    answer (drop at bytes) text at has (sym cut) (omega arith) ∙ pair (sym value) (sym ends)
  where
    pair : {a b c d : ℕ} → a ≡ c → b ≡ d → (let r : Option (ℕ × ℕ) = Some (a, b) in r ≡ Some (c, d))
    pair p q = cc

-- past the end nothing is read
pub uleb_at-past : (bytes : List ℕ) (at : ℕ) → length bytes ≤ at → uleb_at bytes at ≡ None
uleb_at-past bytes at past = uleb_at-unended bytes at (ap has_last_group (drop_all at bytes past))

-- a group and the number of those above it are no more than all
pub uleb_value-part : (xs : List ℕ) (left value : ℕ) → left ≢ 0 → left ≤ length xs → value ≡ uleb_value (drop left xs)
    → slice_index xs (left - 1) % 128 + 128 * value ≤ uleb_value xs
uleb_value-part xs left value some within is =
    let same : left - 1 + 1 ≡ left = omega arith in
    let here = uleb_value-more xs (left - 1) (omega arith) in
    omega (arith, here, is, uleb_value-drop xs (left - 1), ap (λ (k : ℕ). uleb_value (drop k xs)) same)
