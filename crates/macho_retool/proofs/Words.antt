-- What words ask for, by their number and their texts.
--
-- A list with so many elements is the list of these. So four words are an option, a name and two paths; and where five words begin with an
-- option and a number that go together in no way, they ask for nothing.
use Rattle.std.proofs.Common.{◌≡◌, ℕ, ◌<◌, ◌≤◌, List, [], ◌∷◌, map, length, get_or, refl, sym, ap, ◌∙◌, arith, String, Option, Some, None}
use Rattle.std.specs.Prelude.{codes}
use Rattle.std.specs.String.{string_bytes}
use Rattle.std.proofs.lemmas.List.{length-map}
use Rattle.macho_retool.specs.Runs.{Asked, own_name, library, rpath, AskFor}
use Rattle.macho_retool.specs.declared.running.Kind.{Kind}
use Rattle.macho_retool.specs.declared.running.Kind.TheVariants.{Library, Rpath}
use Rattle.macho_retool.specs.steps.Asked.{IsNumbered}

-- four words are their four texts
pub four_words : {A : Type 0} (ws : List (String A)) (x y z u : String A) (first second third fourth : List ℕ) → 4 ≤ length ws
    → length ws < 5 → x ≡ get_or ws 0 x → y ≡ get_or ws 1 y → z ≡ get_or ws 2 z → u ≡ get_or ws 3 u → first ≡ string_bytes x
    → second ≡ string_bytes y → third ≡ string_bytes z → fourth ≡ string_bytes u
    → map string_bytes ws ≡ first ∷ second ∷ third ∷ fourth ∷ []
four_words (a ∷ b ∷ c ∷ d ∷ []) x y z u first second third fourth some few p q r s i j k l =
    rw (i, j, k, l, p, q, r, s) refl
four_words [] x y z u first second third fourth some few p q r s i j k l = absurd (omega (arith, some))
four_words (a ∷ []) x y z u first second third fourth some few p q r s i j k l = absurd (omega (arith, some))
four_words (a ∷ b ∷ []) x y z u first second third fourth some few p q r s i j k l = absurd (omega (arith, some))
four_words (a ∷ b ∷ c ∷ []) x y z u first second third fourth some few p q r s i j k l = absurd (omega (arith, some))
four_words (a ∷ b ∷ c ∷ d ∷ e ∷ ws) x y z u first second third fourth some few p q r s i j k l = absurd (omega (arith, few))

-- an option with its number stands in front
at-front : {A : Type 0} (ws : List (String A)) (x y : String A) (option number text : List ℕ) (name : List ℕ) (rest : List (List ℕ))
    → 4 < length ws → x ≡ get_or ws 0 x → y ≡ get_or ws 1 y → map string_bytes ws ≡ name ∷ text ∷ rest → option ≡ string_bytes x
    → number ≡ string_bytes y → (option ≡ name) × (number ≡ text)
at-front (w ∷ v ∷ ws) x y option number text name rest many at next is first second = (
  first ∙ ap string_bytes at ∙ ap (λ (t : List (List ℕ)). get_or t 0 []) is,
  second ∙ ap string_bytes next ∙ ap (λ (t : List (List ℕ)). get_or t 1 []) is,
)
at-front [] x y option number text name rest many at next is first second = absurd (omega (arith, many))
at-front (w ∷ []) x y option number text name rest many at next is first second = absurd (omega (arith, many))

-- five words whose option and number go together in no way ask for nothing
pub nothing_asked : {A : Type 0} (ws : List (String A)) (x y : String A) (option number : List ℕ) (told : Option Kind) → 4 < length ws
    → x ≡ get_or ws 0 x → y ≡ get_or ws 1 y → option ≡ string_bytes x → number ≡ string_bytes y
    → ((kind : Kind) → IsNumbered option number kind → told ≡ Some kind) → told ≡ None → (asked : Asked) (image output : List ℕ)
    → AskFor (map string_bytes ws) asked image output → ⊥
nothing_asked ws x y option number told many at next first second only none (own_name name) image output is =
    omega (arith, many, ap length is, length-map ws string_bytes)
nothing_asked ws x y option number told many at next first second only none (library n name) image output (text, count, is) =
    let front = at-front ws x y option number text (codes "-library") (name ∷ image ∷ output ∷ []) many at next is first second in
    let some = only (Library n) (front.0, rw front.1 count) in
    let never : None ≡ Some (Library n) = sym none ∙ some in cc
nothing_asked ws x y option number told many at next first second only none (rpath n name) image output (text, count, is) =
    let front = at-front ws x y option number text (codes "-rpath") (name ∷ image ∷ output ∷ []) many at next is first second in
    let some = only (Rpath n) (front.0, rw front.1 count) in
    let never : None ≡ Some (Rpath n) = sym none ∙ some in cc
