-- The parts of a pattern in a name that matches it.
--
-- Bytes in front that are no stars are matched one by one (`run_front`). So a name begins with the first part. Bytes somewhere in
-- a pattern that are no stars: what stands before them takes some bytes of the name, a star any number and each other byte
-- one, and then they are in front (`run_some`). A pattern with a star is a front, its last star and plain bytes behind it:
-- whatever bytes the front takes, some rest of the name matches behind the star (`reached`), and so the name ends with the
-- plain bytes. A pattern with no star is its own last part, and the name is the same.
use Rattle.std.proofs.Common.{◌≡◌, ℕ, zero, suc, ◌+◌, ◌-◌, ◌<◌, ◌≤◌, ◌==◌, ◌⊎◌, not, true, false, Bool, List, [], ◌∷◌, ◌++◌, length, get_or, take, drop, refl, ap, sym, subst, ◌∙◌, arith, inl, inr, length-take, length-drop, length-append, take-append-drop, drop-drop, take_all}
use Rattle.std.proofs.Math.Seq.{get_or-append_seam, drop-append-add}
use Rattle.std.proofs.lemmas.Bool.{both_ways, false_from_ne_true, and_parts, eqb-true}
use Rattle.std.proofs.lemmas.List.{get_or-drop, get_or-take, get_or-append-add, get_or_default}
use Rattle.std.proofs.lemmas.List.Sums.{suffix_len_is, fails_before_first}
use Rattle.std.proofs.lemmas.Slice.Eq.{bytes_eq-Decides}
use Rattle.std.specs.List.{position_or_len, suffix_len}
use Rattle.memchr.specs.Find.{Nowhere, NoneAfter, OccursAt, Passes, is_byte}
use Rattle.memchr.proofs.lemmas.MatchLemmas.{OccursAt-part, OccursAt-from_part, OccursAt-split}
use Rattle.macho_model.specs.ExportLists.{STAR, matches}
use Rattle.macho_export_lists.specs.declared.ends.Where.{Where}
use Rattle.macho_export_lists.specs.declared.ends.Where.TheVariants.{Front, Anywhere, Back}
use Rattle.macho_export_lists.specs.steps.Ends.{front_of, back_of, IsPart, first_place, last_place}
use Rattle.macho_export_lists.specs.steps.Matching.{matches_behind}
use Rattle.macho_export_lists.proofs.Matching.{IsPlain, rest_plain, plain_from, plain_entry, at_star, one_byte, no_byte, last_star, behind_some, behind_later}

-- plain bytes in front
run_front : (run rest name : List ℕ) → IsPlain run → matches (run ++ rest) name ≡ true → take (length run) name ≡ run
run_front [] rest name plain is = refl
run_front (c ∷ run) rest [] plain is = absurd (both_ways _ (no_byte c (run ++ rest) (plain 0 c (omega arith))) is)
run_front (c ∷ run) rest (y ∷ name) plain is =
    let both = and_parts _ _ (sym (one_byte c (run ++ rest) y name (plain 0 c (omega arith))) ∙ is) in
    ap (λ b. b ∷ take (length run) name) (sym (eqb-true c y both.0))
    ∙ ap (λ (r : List ℕ). c ∷ r) (run_front run rest name (rest_plain c run plain) both.1)

-- a name begins with the first part of what it matches
front_plain : (pattern : List ℕ) → IsPlain (front_of pattern)
front_plain pattern k d h =
    let n = position_or_len (λ b. b == STAR) pattern in
    let below : k < n = omega (arith, h, length-take n pattern) in
    ap (λ b. b == STAR) (get_or-take n pattern k d below) ∙ fails_before_first (λ b. b == STAR) pattern k d below

begins : (pattern name : List ℕ) → matches pattern name ≡ true → take (length (front_of pattern)) name ≡ front_of pattern
begins pattern name is =
    let n = position_or_len (λ b. b == STAR) pattern in
    run_front (front_of pattern) (drop n pattern) name (front_plain pattern) (ap (λ p. matches p name) (take-append-drop n pattern) ∙ is)

-- a pattern by its last star
record LastStar (pattern : List ℕ) : Type 0 where
  before : List ℕ
  rest : List ℕ
  plain : IsPlain rest
  is : pattern ≡ before ++ STAR ∷ rest

plain_more : (c : ℕ) (xs : List ℕ) → (c == STAR) ≡ false → IsPlain xs → IsPlain (c ∷ xs)
plain_more c xs other plain zero d h = other
plain_more c xs other plain (suc k) d h = plain k d (omega (arith, h))

by_last : (pattern : List ℕ) → IsPlain pattern ⊎ LastStar pattern
by_last [] = inl (λ k d h. absurd (omega (arith, h)))
by_last (c ∷ pattern) = of (c == STAR) refl (by_last pattern)
  where
    of : (t : Bool) → (c == STAR) ≡ t → IsPlain pattern ⊎ LastStar pattern → IsPlain (c ∷ pattern) ⊎ LastStar (c ∷ pattern)
    of t is (inr l) = inr (record { before = c ∷ l.before; rest = l.rest; plain = l.plain; is = ap (λ p. c ∷ p) l.is })
    of true star (inl plain) =
        inr (record { before = []; rest = pattern; plain = plain; is = ap (λ b. b ∷ pattern) (eqb-true c STAR star) })
    of false other (inl plain) = inl (plain_more c pattern other plain)

-- the last part of a pattern
back_plain : (pattern : List ℕ) → IsPlain pattern → back_of pattern ≡ pattern
back_plain pattern plain =
    let none : length pattern - suffix_len (λ b. not (b == STAR)) pattern ≡ 0 =
    omega (
      arith,
      suffix_len_is (λ b. not (b == STAR)) pattern 0 0 (omega arith) (λ k low h. ap not (plain k 0 h))
          (λ h. absurd (omega (arith, h))),
    ) in
    ap (λ n. drop n pattern) none

back_star : (before rest : List ℕ) → IsPlain rest → back_of (before ++ STAR ∷ rest) ≡ rest
back_star before rest plain = ap (λ n. drop n pattern) there ∙ drop-append-add before (STAR ∷ rest) 1
  where
    pattern : List ℕ
    pattern = before ++ STAR ∷ rest

    long : length pattern ≡ length before + suc (length rest)
    long = length-append before (STAR ∷ rest)

    others : (k : ℕ) → length before + 1 ≤ k → k < length pattern → not (get_or pattern k 0 == STAR) ≡ true
    others k low h =
        let j = k - (length before + 1) in
        let at : k ≡ length before + suc j = omega (arith, low) in
        let same : get_or pattern k 0 ≡ get_or rest j 0 = ap (λ i. get_or pattern i 0) at
        ∙ get_or-append-add before (STAR ∷ rest) (suc j) 0 in
        ap (λ b. not (b == STAR)) same ∙ ap not (plain j 0 (omega (arith, at, h, long)))

    star : get_or pattern (length before + 1 - 1) 0 ≡ STAR
    star =
        let at : length before + 1 - 1 ≡ length before = omega arith in
        ap (λ i. get_or pattern i 0) at ∙ get_or-append_seam before STAR rest 0

    there : length pattern - suffix_len (λ b. not (b == STAR)) pattern ≡ length before + 1
    there =
        omega (
          arith,
          long,
          suffix_len_is (λ b. not (b == STAR)) pattern (length before + 1) 0 (omega (arith, long)) others
              (λ h. ap (λ b. not (b == STAR)) star),
        )

pub back_is : (pattern : List ℕ) (k : ℕ) → NoneAfter (Passes (is_byte STAR) pattern) 0 (length pattern) k
    → Passes (is_byte STAR) pattern k → back_of pattern ≡ drop (k + 1) pattern
back_is pattern k last star =
    ap back_of (at_star pattern k last.high star) ∙ back_star (take k pattern) (drop (k + 1) pattern) plain
  where
    plain : IsPlain (drop (k + 1) pattern)
    plain j d h =
        let inside : k + 1 + j < length pattern = omega (arith, h, length-drop (k + 1) pattern) in
        let same : get_or (drop (k + 1) pattern) j d ≡ get_or pattern (k + 1 + j) 0 =
        get_or-drop (k + 1) pattern j d ∙ get_or_default pattern (k + 1 + j) d 0 inside in
        ap (λ b. b == STAR) same ∙ false_from_ne_true (get_or pattern (k + 1 + j) 0 == STAR) (last.after (k + 1 + j) (omega arith) inside)

pub back_all : (pattern : List ℕ) → Nowhere (Passes (is_byte STAR) pattern) 0 (length pattern) → back_of pattern ≡ pattern
back_all pattern none = back_plain pattern (plain_from pattern none)

-- some rest of a name matches what stands behind a star of what the name matches
star_byte : (c : ℕ) (entry name : List ℕ) → (c == STAR) ≡ true → matches (c ∷ entry) name ≡ matches_behind entry name
unfolding matches_behind
star_byte c entry name star = rw star refl

reached : (xs rest name : List ℕ) → matches (xs ++ STAR ∷ rest) name ≡ true → matches_behind rest name ≡ true
reached [] rest name is = sym (star_byte STAR rest name refl) ∙ is
reached (c ∷ xs) rest name is = of (c == STAR) refl name is (reached xs rest)
  where
    of : (t : Bool) → (c == STAR) ≡ t → (n : List ℕ) → matches (c ∷ (xs ++ STAR ∷ rest)) n ≡ true
        → ((m : List ℕ) → matches (xs ++ STAR ∷ rest) m ≡ true → matches_behind rest m ≡ true) → matches_behind rest n ≡ true
    of true star n is below =
        let some = behind_some (xs ++ STAR ∷ rest) n (sym (star_byte c (xs ++ STAR ∷ rest) n star) ∙ is) in
        behind_later rest n some.at (below (drop some.at n) some.matched)
    of false plain [] is below = absurd (both_ways _ (no_byte c (xs ++ STAR ∷ rest) plain) is)
    of false plain (y ∷ n) is below =
        behind_later rest (y ∷ n) 1 (below n (and_parts _ _ (sym (one_byte c (xs ++ STAR ∷ rest) y n plain) ∙ is)).1)

-- a name ends with the last part of what it matches
ends : (pattern name : List ℕ) → matches pattern name ≡ true → drop (length name - length (back_of pattern)) name ≡ back_of pattern
ends pattern name is = elim (by_last pattern) [
  | inl plain ↦
      let same : pattern ≡ name = (bytes_eq-Decides pattern name).0 (sym (plain_entry pattern name plain) ∙ is) in
      let none : length name - length pattern ≡ 0 = omega (arith, ap length same) in
      rw (back_plain pattern plain) (ap (λ n. drop n name) none ∙ sym same)
  | inr l ↦
      let matched : matches (l.before ++ STAR ∷ l.rest) name ≡ true = ap (λ p. matches p name) (sym l.is) ∙ is in
      let behind = sym (last_star l.rest name l.plain) ∙ reached l.before l.rest name matched in
      rw (ap back_of l.is ∙ back_star l.before l.rest l.plain)
      (sym ((bytes_eq-Decides l.rest (drop (length name - length l.rest) name)).0 behind))
]

-- plain bytes somewhere
record Somewhere (run name : List ℕ) : Type 0 where
  at : ℕ
  occurs : OccursAt name run at

later : (run name : List ℕ) (k : ℕ) → k ≤ length name → Somewhere run (drop k name) → Somewhere run name
later run name k within s = record {
  at = k + s.at;
  occurs = OccursAt-from_part name run (k + s.at) (omega (arith, within, s.occurs.fits, length-drop k name))
      (ap (take (length run)) (sym (drop-drop s.at k name)) ∙ OccursAt-part (drop k name) run s.at s.occurs);
}

run_some : (xs run rest name : List ℕ) → IsPlain run → matches (xs ++ (run ++ rest)) name ≡ true → Somewhere run name
run_some [] run rest name plain is =
    let there = run_front run rest name plain is in
    record { at = 0; occurs = OccursAt-from_part name run 0 (omega (arith, ap length there, length-take (length run) name)) there }
run_some (c ∷ xs) run rest name plain is = of (c == STAR) refl name is (λ n. run_some xs run rest n plain)
  where
    of : (t : Bool) → (c == STAR) ≡ t → (n : List ℕ) → matches (c ∷ (xs ++ (run ++ rest))) n ≡ true
        → ((m : List ℕ) → matches (xs ++ (run ++ rest)) m ≡ true → Somewhere run m) → Somewhere run n
    of true star n is below =
        let some = behind_some (xs ++ (run ++ rest)) n (sym (star_byte c (xs ++ (run ++ rest)) n star) ∙ is) in
        later run n some.at some.within (below (drop some.at n) some.matched)
    of false plain [] is below = absurd (both_ways _ (no_byte c (xs ++ (run ++ rest)) plain) is)
    of false plain (y ∷ n) is below =
        later run (y ∷ n) 1 (omega arith) (below n (and_parts _ _ (sym (one_byte c (xs ++ (run ++ rest)) y n plain) ∙ is)).1)

-- a part of a pattern stands where it has to in each name that matches
pub record StandsIn (w : Where) (part name : List ℕ) : Type 0 where
  pub at : ℕ
  pub low : first_place w (length name) (length part) ≤ at
  pub high : at ≤ last_place w (length name) (length part)
  pub occurs : OccursAt name part at

in_front : (part name : List ℕ) → take (length part) name ≡ part → StandsIn Front part name
in_front part name there = record {
  at = 0;
  low = omega arith;
  high = omega arith;
  occurs = OccursAt-from_part name part 0 (omega (arith, ap length there, length-take (length part) name)) there;
}

anywhere : (part name : List ℕ) → Somewhere part name → StandsIn Anywhere part name
anywhere part name s = record { at = s.at; low = omega arith; high = omega (arith, s.occurs.fits); occurs = s.occurs }

behind_all : (part name : List ℕ) → drop (length name - length part) name ≡ part → StandsIn Back part name
behind_all part name there = record {
  at = length name - length part;
  low = omega arith;
  high = omega arith;
  occurs = OccursAt-from_part name part (length name - length part)
      (omega (arith, ap length there, length-drop (length name - length part) name))
      (ap (take (length part)) there ∙ take_all (length part) part (omega arith));
}

pub stands : (w : Where) (part pattern name : List ℕ) → IsPart w part pattern → matches pattern name ≡ true → StandsIn w part name
stands Front part pattern name is matched =
    in_front part name (subst (λ (p : List ℕ). take (length p) name ≡ p) (sym is) (begins pattern name matched))
stands Anywhere part pattern name is matched =
    let parts : pattern ≡ take is.at pattern ++ (part ++ drop (is.at + length part) pattern) =
    sym (take-append-drop is.at pattern) ∙ ap (λ t. take is.at pattern ++ t) (OccursAt-split pattern part is.at is.occurs) in
    anywhere part name
    (run_some (take is.at pattern) part (drop (is.at + length part) pattern) name is.plain
    (ap (λ p. matches p name) (sym parts) ∙ matched))
stands Back part pattern name is matched =
    behind_all part name (subst (λ (p : List ℕ). drop (length name - length p) name ≡ p) (sym is) (ends pattern name matched))
