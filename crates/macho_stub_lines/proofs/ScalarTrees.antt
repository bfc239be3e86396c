-- Scalars: what is read at the front of some bytes is a tree, and each tree is read at the front of what it spells.
-- Each reading looks for a run of bytes, so the bytes are cut into that run and the rest (`run_of`), and the reading is
-- worked out on these two once (`quoted_is`, `plain_is`). It succeeds where the rest begins with the closing quote, and
-- for a plain scalar where the run isn't empty and has no control character: this is what makes the tree sound.
-- The other way, the text of a sound tree is such a run, since its bytes pass and a quote doesn't. Nothing closes a
-- plain scalar, so there what follows must not go on with it (`EndsPlain`).
use Rattle.std.proofs.Common.{◌≡◌, ℕ, ◌+◌, ◌<◌, Bool, true, false, cond, eqb, List, [], ◌∷◌, ◌++◌, length, drop, Option, Some, None, Ok, refl, sym, ap, ◌∙◌, subst, append_assoc, arith, slice_index, ◌≢◌, ◌||◌, length-append}
use Rattle.std.proofs.lemmas.Bool.Decides.{nat_tests}
use Rattle.std.proofs.Math.Seq.{take-append_seam, drop-append_seam}
use Rattle.macho_stub_lines.specs.Bytes.{space, comma, close_bracket, single_quote, double_quote, backslash, is_mark, is_plain_byte, has_late_control, is_tail}
use Rattle.macho_stub_lines.specs.Scalars.{ScalarSpan, in_single, in_double, plain_front, quoted_front, scalar_front}
use Rattle.macho_stub_lines.specs.declared.fault.StubRule.TheVariants.{S1}
use Rattle.macho_stub_lines.specs.Slices.{Slice}
use Rattle.macho_stub_lines.specs.Keys.{alone, scalar_value}
use Rattle.macho_stub_lines.specs.Spelling.{ScalarTree, Plain, Single, Double, scalar_bytes, slice_of, IsPlain, IsScalar, IsScalarValue}
use Rattle.macho_stub_lines.specs.steps.Spelling.{text_of}
use Rattle.macho_stub_lines.proofs.Bind.{eq_at, eq_true, eq_false, not_broken_else, no_ok, same_ok}
use Rattle.macho_stub_lines.proofs.Runs.{Stops, Passes, Run, run_of, run_len, first_behind}
use Rattle.macho_bytes.proofs.Maps.{all_weaker}

-- ---- what ends a plain scalar

-- what follows ends a plain scalar: it doesn't go on with it
abbrev pub EndsPlain : List ℕ → Type 0
EndsPlain rest = Stops is_plain_byte rest

-- a space, a comma and a closing bracket do so
pub space_ends : (rest : List ℕ) → EndsPlain (space ∷ rest)
unfolding is_plain_byte
space_ends rest = refl

-- and so does what may stand behind a value
pub tail_ends : (tail : List ℕ) → is_tail tail ≡ true → EndsPlain tail
unfolding is_tail
tail_ends [] e = tt
tail_ends (b ∷ tail) e =
    let is : b ≡ space = grind (arith, nat_tests) in
    let E : ℕ → Type 0 = λ n. EndsPlain (n ∷ tail) in
    subst E (sym is) (space_ends tail)

-- ---- the readings, on a run and the rest

quoted_is : (inside : ℕ → Bool) (quote : ℕ) (front rest : List ℕ) → Passes inside front → Stops inside rest
    → quoted_front inside quote (front ++ rest)
    ≡ cond (eqb (slice_index rest 0) quote) (Some (record { text = front; width = length front + 2 })) None
unfolding quoted_front
quoted_is inside quote front rest passes stops =
    rw (run_len inside front rest passes stops, first_behind front rest, take-append_seam front rest) refl

plain_is : (front rest : List ℕ) → Passes is_plain_byte front → Stops is_plain_byte rest → plain_front (front ++ rest)
    ≡ cond (eqb (length front) 0 || has_late_control front) None (Some (record { text = front; width = length front }))
unfolding plain_front
plain_is front rest passes stops = rw (run_len is_plain_byte front rest passes stops, take-append_seam front rest) refl

-- ---- from what is read to a tree

abbrev some : {A : Type 0} → A → Option A
some x = Some x

-- what a quoted scalar says, its bytes, and the rest
record Quoted (inside : ℕ → Bool) (quote : ℕ) (bytes : List ℕ) (span : ScalarSpan) : Type 0 where
  text : List ℕ
  rest : List ℕ
  is : bytes ≡ text ++ quote ∷ rest
  passes : Passes inside text
  says : span.text ≡ text
  width : span.width ≡ length text + 2

quoted_found : (inside : ℕ → Bool) (quote : ℕ) (bytes : List ℕ) (span : ScalarSpan) → 0 < quote
    → quoted_front inside quote bytes ≡ Some span → Quoted inside quote bytes span
quoted_found inside quote bytes span positive e =
    let run = run_of inside bytes in
    by_rest run.front run.rest run.is run.passes run.stops
  where
    by_test : (front rest : List ℕ) (b : ℕ) → bytes ≡ front ++ b ∷ rest → Passes inside front → (t : Bool) → eqb b quote ≡ t
        → cond t (some (record { text = front; width = length front + 2 })) None ≡ Some span → Quoted inside quote bytes span
    by_test front rest b is passes true same f = record {
      text = front;
      rest = rest;
      is = is ∙ ap (λ n. front ++ n ∷ rest) (eq_at b quote same);
      passes = passes;
      says = cc;
      width = cc;
    }
    by_test front rest b is passes false other f = absurd cc

    by_rest : (front rest : List ℕ) → bytes ≡ front ++ rest → Passes inside front → Stops inside rest → Quoted inside quote bytes span
    by_rest front [] is passes stops =
        let f = sym (quoted_is inside quote front [] passes stops) ∙ ap (quoted_front inside quote) (sym is) ∙ e in
        let none : eqb 0 quote ≡ false = eq_false 0 quote (λ h. omega arith) in
        let g = rw none at f in absurd cc
    by_rest front (b ∷ rest) is passes stops =
        let f = sym (quoted_is inside quote front (b ∷ rest) passes stops) ∙ ap (quoted_front inside quote) (sym is) ∙ e in
        by_test front rest b is passes (eqb b quote) refl f

-- a tree with what it spells, and what stands behind it
abbrev Found : List ℕ → ScalarSpan → Type 0
Found bytes span = (scalar : ScalarTree) × (rest : List ℕ) × IsScalar scalar × (bytes ≡ scalar_bytes scalar ++ rest)
    × (span.text ≡ text_of scalar) × (span.width ≡ length (scalar_bytes scalar)) × (rest ≡ drop span.width bytes)

found : (bytes : List ℕ) (span : ScalarSpan) (scalar : ScalarTree) (rest : List ℕ) → IsScalar scalar → bytes ≡ scalar_bytes scalar ++ rest
    → span.text ≡ text_of scalar → span.width ≡ length (scalar_bytes scalar) → Found bytes span
found bytes span scalar rest sound is says width =
    let behind : rest ≡ drop span.width bytes = rw (width, is) (sym (drop-append_seam (scalar_bytes scalar) rest)) in
    (scalar, rest, sound, is, says, width, behind)

-- the quote behind a text, as a tree spells it
requoted : (quote : ℕ) (text rest : List ℕ) → quote ∷ (text ++ quote ∷ rest) ≡ (quote ∷ (text ++ quote ∷ [])) ++ rest
requoted quote text rest = ap (λ all. quote ∷ all) (sym (append_assoc text (quote ∷ []) rest))

quoted_width : (quote : ℕ) (text : List ℕ) → length text + 2 ≡ length (quote ∷ (text ++ quote ∷ []))
quoted_width quote text = omega (arith, length-append text (quote ∷ []))

no_single : (b : ℕ) → in_single b ≡ true → b ≢ single_quote
no_single b e = λ h. grind (arith, nat_tests)

no_double : (b : ℕ) → in_double b ≡ true → (b ≢ double_quote) × (b ≢ backslash)
no_double b e = (λ h. grind (arith, nat_tests), λ h. grind (arith, nat_tests))

single_found : (bytes : List ℕ) (span : ScalarSpan) → quoted_front in_single single_quote bytes ≡ Some span
    → Found (single_quote ∷ bytes) span
single_found bytes span e =
    let q = quoted_found in_single single_quote bytes span (omega arith) e in
    found (single_quote ∷ bytes) span (Single q.text) q.rest
    (all_weaker (λ b. in_single b ≡ true) (λ b. b ≢ single_quote) no_single q.text q.passes)
    (ap (λ all. single_quote ∷ all) q.is ∙ requoted single_quote q.text q.rest) q.says
    (q.width ∙ quoted_width single_quote q.text)

double_found : (bytes : List ℕ) (span : ScalarSpan) → quoted_front in_double double_quote bytes ≡ Some span
    → Found (double_quote ∷ bytes) span
double_found bytes span e =
    let q = quoted_found in_double double_quote bytes span (omega arith) e in
    found (double_quote ∷ bytes) span (Double q.text) q.rest
    (all_weaker (λ b. in_double b ≡ true) (λ b. (b ≢ double_quote) × (b ≢ backslash)) no_double q.text q.passes)
    (ap (λ all. double_quote ∷ all) q.is ∙ requoted double_quote q.text q.rest) q.says
    (q.width ∙ quoted_width double_quote q.text)

plain_found : (bytes : List ℕ) (span : ScalarSpan) → plain_front bytes ≡ Some span → Found bytes span
plain_found bytes span e = by_run (run_of is_plain_byte bytes)
  where
    by_test : (front rest : List ℕ) → bytes ≡ front ++ rest → Passes is_plain_byte front → (empty control : Bool)
        → eqb (length front) 0 ≡ empty → has_late_control front ≡ control
        → cond (empty || control) None (some (record { text = front; width = length front })) ≡ Some span → Found bytes span
    by_test front rest is passes true control e h f = absurd cc
    by_test front rest is passes false true e h f = absurd cc
    by_test front rest is passes false false e h f =
        found bytes span (Plain front) rest
        (record { some = grind (arith, nat_tests); bytes = passes; controls = h }) is (cc) (cc)

    by_run : Run is_plain_byte bytes → Found bytes span
    by_run run = by_test run.front run.rest run.is run.passes (eqb (length run.front) 0) (has_late_control run.front) refl refl
        (sym (plain_is run.front run.rest run.passes run.stops) ∙ ap plain_front (sym run.is) ∙ e)

-- what is read at the front of some bytes is a sound tree, spelled there
pub front_found : (bytes : List ℕ) (span : ScalarSpan) → scalar_front bytes ≡ Some span → (scalar : ScalarTree) × (rest : List ℕ)
    × IsScalar scalar × (bytes ≡ scalar_bytes scalar ++ rest) × (span.text ≡ text_of scalar)
    × (span.width ≡ length (scalar_bytes scalar)) × (rest ≡ drop span.width bytes)
unfolding scalar_front
front_found [] span e = absurd cc
front_found (b ∷ bytes) span e = by_quote (eqb b single_quote) (eqb b double_quote) refl refl e
  where
    by_quote : (single double : Bool) → eqb b single_quote ≡ single → eqb b double_quote ≡ double
        → cond single (quoted_front in_single single_quote bytes)
        (cond double (quoted_front in_double double_quote bytes) (plain_front (b ∷ bytes)))
        ≡ Some span → Found (b ∷ bytes) span
    by_quote true double s d f =
        let F : ℕ → Type 0 = λ n. Found (n ∷ bytes) span in
        subst F (sym (eq_at b single_quote s)) (single_found bytes span f)
    by_quote false true s d f =
        let F : ℕ → Type 0 = λ n. Found (n ∷ bytes) span in
        subst F (sym (eq_at b double_quote d)) (double_found bytes span f)
    by_quote false false s d f = plain_found (b ∷ bytes) span f

-- ---- from a tree to what is read

not_in_quotes : (b : ℕ) → is_plain_byte b ≡ true → (eqb b single_quote ≡ false) × (eqb b double_quote ≡ false)
unfolding is_plain_byte is_mark
not_in_quotes b e = (grind (arith, nat_tests), grind (arith, nat_tests))

in_single_is : (b : ℕ) → b ≢ single_quote → in_single b ≡ true
in_single_is b n = rw (eq_false b single_quote n) refl

in_double_is : (b : ℕ) → (b ≢ double_quote) × (b ≢ backslash) → in_double b ≡ true
in_double_is b n = rw (eq_false b double_quote n.0, eq_false b backslash n.1) refl

plain_reads : (text rest : List ℕ) → IsPlain text → EndsPlain rest
    → scalar_front (text ++ rest) ≡ Some (record { text = text; width = length text })
unfolding scalar_front
plain_reads [] rest sound ends = absurd (omega (arith, sound.some))
plain_reads (b ∷ text) rest sound ends =
    let q = not_in_quotes b sound.bytes.0 in
    let some : eqb (length (b ∷ text)) 0 ≡ false = grind (arith, nat_tests) in
    rw (q.0, q.1, plain_is (b ∷ text) rest sound.bytes ends, some, sound.controls) refl

quoted_reads : (inside : ℕ → Bool) (quote : ℕ) (text rest : List ℕ) → Passes inside text → inside quote ≡ false
    → quoted_front inside quote ((text ++ quote ∷ []) ++ rest) ≡ Some (record { text = text; width = length text + 2 })
quoted_reads inside quote text rest passes stops =
    ap (quoted_front inside quote) (append_assoc text (quote ∷ []) rest) ∙ quoted_is inside quote text (quote ∷ rest) passes stops
    ∙ rw (eq_true quote quote refl) refl

-- a sound tree is read where it is spelled, if what follows doesn't go on with it
pub front_reads : (scalar : ScalarTree) (rest : List ℕ) → IsScalar scalar → EndsPlain rest
    → scalar_front (scalar_bytes scalar ++ rest) ≡ Some (record { text = text_of scalar; width = length (scalar_bytes scalar) })
unfolding scalar_front
front_reads (Plain text) rest sound ends = plain_reads text rest sound ends
front_reads (Single text) rest sound ends =
    quoted_reads in_single single_quote text rest
    (all_weaker (λ b. b ≢ single_quote) (λ b. in_single b ≡ true) in_single_is text sound) refl
    ∙ ap (λ n. Some (record { text = text; width = n })) (quoted_width single_quote text)
front_reads (Double text) rest sound ends =
    quoted_reads in_double double_quote text rest
    (all_weaker (λ b. (b ≢ double_quote) × (b ≢ backslash)) (λ b. in_double b ≡ true) in_double_is text sound) refl
    ∙ ap (λ n. Some (record { text = text; width = n })) (quoted_width double_quote text)

-- ---- a value that is a scalar

-- the text of a slice doesn't depend on its place
pub slice_text : (at : ℕ) (scalar : ScalarTree) → (slice_of at scalar).text ≡ text_of scalar
slice_text at (Plain text) = refl
slice_text at (Single text) = refl
slice_text at (Double text) = refl

-- what is read of a value that is a scalar is the text of a sound tree, with nothing behind it
pub scalar_found : (line at : ℕ) (value text : List ℕ) → scalar_value line value ≡ Ok text
    → (says : Slice) × IsScalarValue at value says × (says.text ≡ text)
unfolding scalar_value
scalar_found line at value text e = by_front (scalar_front value) refl e
  where
    by_front : (front : Option ScalarSpan) → scalar_front value ≡ front → alone line value front ≡ Ok text
        → (says : Slice) × IsScalarValue at value says × (says.text ≡ text)
    by_front None is f = absurd (no_ok line S1 text f)
    by_front (Some span) is f =
        let test = not_broken_else (is_tail (drop span.width value)) line S1 (Ok span.text) text f in
        let t = front_found value span is in
        let ends : is_tail t.1 ≡ true = rw (t.6) test.0 in (
          slice_of at t.0,
          record { scalar = t.0; tail = t.1; spelled = t.3; sound = t.2; ends = ends; is = refl },
          slice_text at t.0 ∙ sym t.4 ∙ same_ok span.text text test.1,
        )

-- a value that is a scalar is read, as what it says
pub scalar_reads : (line at : ℕ) (value : List ℕ) (says : Slice) → IsScalarValue at value says → scalar_value line value ≡ Ok says.text
unfolding scalar_value
scalar_reads line at value says v =
    let front = front_reads v.scalar v.tail v.sound (tail_ends v.tail v.ends) in
    rw (v.spelled, front, drop-append_seam (scalar_bytes v.scalar) v.tail, v.ends, v.is, slice_text at v.scalar) refl
