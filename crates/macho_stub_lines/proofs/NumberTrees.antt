-- Numbers: what is read of a value that is digits, and what its tree says, are the same.
-- The digits of the value are a run (`run_of`), and what follows it must be spaces and a comment at most; the reading
-- is worked out on these two (`version_is`). The zeros in front are again a run, now of the digits, and what is left of
-- them is what the number says (`number_is`): it begins with no zero since the run of zeros is the longest.
-- The other way, the zeros and what the tree says are together a run of digits, and the zeros are a run of zeros.
use Rattle.std.proofs.Common.{◌≡◌, ℕ, ◌+◌, ◌<◌, Bool, true, false, cond, eqb, ◌||◌, not, List, [], ◌∷◌, ◌++◌, length, replicate, Ok, refl, sym, ap, ◌∙◌, append_assoc, subst, arith, length-append}
use Rattle.std.specs.Char.{is_ascii_digit}
use Rattle.std.proofs.lemmas.Bool.Decides.{nat_tests}
use Rattle.std.proofs.lemmas.List.{length-replicate}
use Rattle.std.proofs.Math.Seq.{take-append_seam, drop-append_seam}
use Rattle.macho_stub_lines.specs.declared.fault.StubRule.TheVariants.{S1}
use Rattle.macho_stub_lines.specs.Bytes.{zero_digit, is_tail}
use Rattle.macho_stub_lines.specs.Slices.{Slice}
use Rattle.macho_stub_lines.specs.Faults.{outside}
use Rattle.macho_stub_lines.specs.Keys.{is_zero, number_of, version_value}
use Rattle.macho_stub_lines.specs.Spelling.{HasNoZeroInFront, IsNumberValue}
use Rattle.macho_stub_lines.proofs.Bind.{eq_false, not_zero, ne_at, same_ok, no_ok}
use Rattle.macho_stub_lines.proofs.Runs.{Stops, Passes, Run, run_of, run_len, all_append, all_behind, all_replicate, replicate_from_all}

-- ---- the readings, on runs and what stands behind them

version_is : (line : ℕ) (front rest : List ℕ) → Passes is_ascii_digit front → Stops is_ascii_digit rest → version_value line (front ++ rest)
    ≡ cond (eqb (length front) 0 || not (is_tail rest)) (outside line) (Ok (number_of front))
unfolding version_value
version_is line front rest passes stops =
    rw (run_len is_ascii_digit front rest passes stops, drop-append_seam front rest, take-append_seam front rest) refl

number_is : (zeros rest : List ℕ) → Passes is_zero zeros → Stops is_zero rest → number_of (zeros ++ rest) ≡ rest
unfolding number_of
number_is zeros rest passes stops = rw (run_len is_zero zeros rest passes stops) (drop-append_seam zeros rest)

-- ---- from what is read to a tree

shortest_at_stop : (rest : List ℕ) → Stops is_zero rest → HasNoZeroInFront rest
shortest_at_stop [] stops = tt
shortest_at_stop (b ∷ rest) stops = ne_at b zero_digit stops

some_in_parts : (front rest all : ℕ) → all ≡ front + rest → eqb all 0 ≡ false → 0 < front + rest
some_in_parts front rest all is some = grind (arith, nat_tests)

-- digits, with nothing behind them, are a number
number_tree : (at : ℕ) (value front rest : List ℕ) → value ≡ front ++ rest → Passes is_ascii_digit front → eqb (length front) 0 ≡ false
    → is_tail rest ≡ true → (says : Slice) × IsNumberValue at value says × (says.text ≡ number_of front)
number_tree at value front rest is passes some ends = by_run (run_of is_zero front)
  where
    by_run : Run is_zero front → (says : Slice) × IsNumberValue at value says × (says.text ≡ number_of front)
    by_run run =
        let zeros = length run.front in
        let row : run.front ≡ replicate zeros zero_digit = replicate_from_all zero_digit run.front run.passes in
        let P : List ℕ → Type 0 = λ all. Passes is_ascii_digit all in
        let parts : front ≡ replicate zeros zero_digit ++ run.rest = run.is ∙ ap (λ all. all ++ run.rest) row in
        let tree : IsNumberValue at value (record { at = at + zeros; text = run.rest }) = record {
          zeros = zeros;
          tail = rest;
          spelled = is ∙ ap (λ all. all ++ rest) parts ∙ append_assoc (replicate zeros zero_digit) run.rest rest;
          some = some_in_parts zeros (length run.rest) (length front) (ap length run.is ∙ length-append run.front run.rest) some;
          digits = all_behind (λ b. is_ascii_digit b ≡ true) run.front run.rest (subst P run.is passes);
          shortest = shortest_at_stop run.rest run.stops;
          ends = ends;
          is = refl;
        } in (
          record { at = at + zeros; text = run.rest },
          tree,
          sym (ap number_of run.is ∙ number_is run.front run.rest run.passes run.stops),
        )

-- what is read of a value that is a number is what a sound tree says
pub number_found : (line at : ℕ) (value text : List ℕ) → version_value line value ≡ Ok text
    → (says : Slice) × IsNumberValue at value says × (says.text ≡ text)
number_found line at value text e = by_run (run_of is_ascii_digit value)
  where
    by_test : (front rest : List ℕ) → value ≡ front ++ rest → Passes is_ascii_digit front → (empty ends : Bool)
        → eqb (length front) 0 ≡ empty → is_tail rest ≡ ends → cond (empty || not ends) (outside line) (Ok (number_of front)) ≡ Ok text
        → (says : Slice) × IsNumberValue at value says × (says.text ≡ text)
    by_test front rest is passes true ends h k f = absurd (no_ok line S1 text f)
    by_test front rest is passes false false h k f = absurd (no_ok line S1 text f)
    by_test front rest is passes false true h k f =
        let tree = number_tree at value front rest is passes h k in
        (tree.0, tree.1, tree.2 ∙ same_ok (number_of front) text f)

    by_run : Run is_ascii_digit value → (says : Slice) × IsNumberValue at value says × (says.text ≡ text)
    by_run run = by_test run.front run.rest run.is run.passes (eqb (length run.front) 0) (is_tail run.rest) refl refl
        (sym (version_is line run.front run.rest run.passes run.stops) ∙ ap (version_value line) (sym run.is) ∙ e)

-- ---- from a tree to what is read

stop_at_shortest : (rest : List ℕ) → HasNoZeroInFront rest → Stops is_zero rest
stop_at_shortest [] shortest = tt
stop_at_shortest (b ∷ rest) shortest = eq_false b zero_digit shortest

tail_stops : (tail : List ℕ) → is_tail tail ≡ true → Stops is_ascii_digit tail
unfolding is_tail
tail_stops [] e = tt
tail_stops (b ∷ tail) e = grind (arith, nat_tests)

-- a value that is a number is read, as what it says
pub number_reads : (line at : ℕ) (value : List ℕ) (says : Slice) → IsNumberValue at value says → version_value line value ≡ Ok says.text
number_reads line at value says v =
    let zeros = replicate v.zeros zero_digit in
    let parts : value ≡ (zeros ++ says.text) ++ v.tail = v.spelled ∙ sym (append_assoc zeros says.text v.tail) in
    let digits : Passes is_ascii_digit (zeros ++ says.text) =
    all_append (λ b. is_ascii_digit b ≡ true) zeros says.text
    (all_replicate (λ b. is_ascii_digit b ≡ true) v.zeros zero_digit refl) v.digits in
    let long : eqb (length (zeros ++ says.text)) 0 ≡ false =
    not_zero (length (zeros ++ says.text))
    (omega (arith, v.some, length-append zeros says.text, length-replicate v.zeros zero_digit)) in
    let number = number_is zeros says.text (all_replicate (λ b. is_zero b ≡ true) v.zeros zero_digit refl)
    (stop_at_shortest says.text v.shortest) in
    ap (version_value line) parts ∙ version_is line (zeros ++ says.text) v.tail digits (tail_stops v.tail v.ends)
    ∙ rw (long, v.ends, number) refl
