-- Plain scalars, scalars and numbers by their bytes, and with places: where a text is one of those with places, it is one by its bytes, and
-- a text by its bytes has such places, wherever it begins.
use Rattle.std.proofs.Common.{◌≡◌, ◌≢◌, ℕ, ◌+◌, ◌&&◌, Bool, true, false, List, [], ◌∷◌, ◌++◌, length, replicate, slice_index, refl, sym, ap, ◌∙◌, append_assoc, subst, arith, length-append}
use Rattle.std.specs.List.{AllByRecursion, list_any}
use Rattle.std.specs.Char.{is_ascii_digit}
use Rattle.std.proofs.lemmas.List.{length-replicate}
use Rattle.macho_stub_lines.specs.Bytes.{space, zero_digit, is_tail, is_mark, is_plain_byte, has_late_control_after}
use Rattle.macho_stub_lines.specs.Slices.{Slice}
use Rattle.macho_stub_lines.specs.Spelling as old
use Rattle.macho_stub_lines.specs.Spelling.{ScalarTree, Plain, Single, Double, scalar_bytes, slice_of, HasNoZeroInFront, IsNumberValue, IsScalarValue}
use Rattle.macho_stub_lines.specs.steps.Spelling.{text_of}
use Rattle.macho_stub_lines.specs.Values.{IsPlain, IsScalar, plain, single, double, IsNumber}
use Rattle.macho_stub_lines.proofs.Bind.{eq_at, eq_true}
use Rattle.std.proofs.lemmas.Bool.Decides.{nat_tests}
use Rattle.std.specs.Prelude.{codes, ◌==◌, nat_lt, not, ◌||◌, ◌≤◌}
use Rattle.macho_stub_lines.proofs.Runs.{all_append, all_behind, all_replicate}
use Rattle.macho_stub_lines.proofs.ScalarTrees.{slice_text}
use Rattle.macho_bytes.proofs.Maps.{all_weaker}

-- ---- plain scalars

any_of : (a b c d e f g h : Bool) → (a || (b || (c || (d || (e || (f || (g || (h || false))))))))
    ≡ (((((((a || b) || c) || d) || e) || f) || g) || h)
any_of true b c d e f g h = refl
any_of false true c d e f g h = refl
any_of false false true d e f g h = refl
any_of false false false true e f g h = refl
any_of false false false false true f g h = refl
any_of false false false false false true g h = refl
any_of false false false false false false true h = refl
any_of false false false false false false false true = refl
any_of false false false false false false false false = refl

-- a byte that has a meaning of its own is one of these
one_of : (b : ℕ) → list_any (λ mark. b == mark) (codes ",'\"#[]{}") ≡ is_mark b
unfolding is_mark
one_of b = any_of (b == 44) (b == 39) (b == 34) (b == 35) (b == 91) (b == 93) (b == 123) (b == 125)

abbrev is_plain : ℕ → Bool
is_plain b = nat_lt space b && not (b == 127) && not (list_any (λ mark. b == mark) (codes ",'\"#[]{}"))

plain_byte : (b : ℕ) → is_plain b ≡ is_plain_byte b
unfolding is_plain_byte
plain_byte b = ap (λ (t : Bool). nat_lt space b && not (b == 127) && not t) (one_of b)

-- no control character stands behind this byte
NoneLate : List ℕ → Type 0
NoneLate bytes = (before behind : List ℕ) (b : ℕ) → bytes ≡ before ++ 0xC2 ∷ b ∷ behind → 0xA0 ≤ b

both_false : (s t : Bool) → (s || t) ≡ false → (s ≡ false) × (t ≡ false)
both_false true t e = absurd cc
both_false false t e = (refl, e)

not_late : (b : ℕ) → nat_lt b 0xA0 ≡ false → 0xA0 ≤ b
not_late b e = grind (arith, nat_tests)

late : (b : ℕ) → nat_lt b 0xA0 ≡ true → 0xA0 ≤ b → ⊥
late b e h = grind (arith, nat_tests)

none_late : (first : ℕ) (text : List ℕ) → has_late_control_after first text ≡ false → NoneLate (first ∷ text)
unfolding has_late_control_after NoneLate
none_late first [] e [] behind b is = absurd cc
none_late first [] e (x ∷ []) behind b is = absurd cc
none_late first [] e (x ∷ y ∷ before) behind b is = absurd cc
none_late first (c ∷ text) e [] behind b is =
    let is_first : first ≡ 0xC2 = cc in
    let second : c ≡ b = cc in
    let f = both_false (first == 0xC2 && nat_lt c 0xA0) (has_late_control_after c text) e in
    let low : nat_lt c 0xA0 ≡ false = sym (ap (λ (t : Bool). t && nat_lt c 0xA0) (eq_true first 0xC2 is_first)) ∙ f.0 in
    not_late b (ap (λ (n : ℕ). nat_lt n 0xA0) (sym second) ∙ low)
none_late first (c ∷ text) e (x ∷ before) behind b is =
    none_late c text (both_false (first == 0xC2 && nat_lt c 0xA0) (has_late_control_after c text) e).1 before behind b (cc)

late_none : (first : ℕ) (text : List ℕ) → NoneLate (first ∷ text) → has_late_control_after first text ≡ false
unfolding has_late_control_after NoneLate
late_none first [] n = refl
late_none first (c ∷ text) n =
    rw (here (first == 0xC2) (nat_lt c 0xA0) refl refl) (late_none c text
    (λ before behind b is. n (first ∷ before) behind b (ap (λ (all : List ℕ). first ∷ all) is)))
  where
    here : (s t : Bool) → first == 0xC2 ≡ s → nat_lt c 0xA0 ≡ t → (first == 0xC2 && nat_lt c 0xA0) ≡ false
    here true true p q = absurd (late c q (n [] text c (ap (λ (b : ℕ). b ∷ c ∷ text) (eq_at first 0xC2 p))))
    here true false p q = rw (p, q) refl
    here false t p q = rw p refl

plain_alone : (text : List ℕ) → old.IsPlain text → IsPlain text
unfolding NoneLate
plain_alone text p = record {
  some = p.some;
  bytes = all_weaker (λ b. is_plain_byte b ≡ true) (λ b. is_plain b ≡ true) (λ b e. plain_byte b ∙ e) text p.bytes;
  controls = λ before behind b is. none_late 0 text p.controls (0 ∷ before) behind b (ap (λ (all : List ℕ). 0 ∷ all) is);
}

plain_tree : (text : List ℕ) → IsPlain text → old.IsPlain text
unfolding NoneLate
plain_tree text p = record {
  some = p.some;
  bytes = all_weaker (λ b. is_plain b ≡ true) (λ b. is_plain_byte b ≡ true) (λ b e. sym (plain_byte b) ∙ e) text p.bytes;
  controls = late_none 0 text behind_zero;
}
  where
    behind_zero : NoneLate (0 ∷ text)
    behind_zero [] behind b is = absurd (omega (arith, ap (λ (all : List ℕ). slice_index all 0) is))
    behind_zero (x ∷ before) behind b is = p.controls before behind b (cc)

-- ---- scalars

pub scalar_spelled : (s : ScalarTree) → old.IsScalar s → IsScalar (scalar_bytes s) (text_of s)
scalar_spelled (Plain text) i = plain text (plain_alone text i)
scalar_spelled (Single text) i = single text i
scalar_spelled (Double text) i = double text i

pub record ScalarTreeOf (bytes text : List ℕ) : Type 0 where
  pub tree : ScalarTree
  pub sound : old.IsScalar tree
  pub spelled : scalar_bytes tree ≡ bytes
  pub says : text_of tree ≡ text

pub scalar_tree : (bytes text : List ℕ) → IsScalar bytes text → ScalarTreeOf bytes text
scalar_tree bytes text (plain t i) = record { tree = Plain t; sound = plain_tree t i; spelled = refl; says = refl }
scalar_tree bytes text (single t i) = record { tree = Single t; sound = i; spelled = refl; says = refl }
scalar_tree bytes text (double t i) = record { tree = Double t; sound = i; spelled = refl; says = refl }

-- a value that is such bytes, with nothing behind them but spaces and a comment
abbrev pub Ends : (List ℕ → List ℕ → Type 0) → List ℕ → List ℕ → Type 0
Ends Spells value text =
    (bytes : List ℕ) × (tail : List ℕ) × (value ≡ bytes ++ tail) × Spells bytes text × (is_tail tail ≡ true)

pub scalar_alone : (at : ℕ) (value : List ℕ) (says : Slice) → IsScalarValue at value says → Ends IsScalar value says.text
scalar_alone at value says v =
    let same : text_of v.scalar ≡ says.text = sym (slice_text at v.scalar) ∙ ap (λ (s : Slice). s.text) (sym v.is) in
    (scalar_bytes v.scalar, v.tail, v.spelled, subst (IsScalar (scalar_bytes v.scalar)) same (scalar_spelled v.scalar v.sound), v.ends)

pub scalar_placed : (at : ℕ) (value text : List ℕ) → Ends IsScalar value text
    → (says : Slice) × IsScalarValue at value says × (says.text ≡ text)
scalar_placed at value text e =
    let t = scalar_tree e.0 text e.3 in (
      slice_of at t.tree,
      record {
        scalar = t.tree;
        tail = e.1;
        spelled = e.2 ∙ ap (λ (b : List ℕ). b ++ e.1) (sym t.spelled);
        sound = t.sound;
        ends = e.4;
        is = refl;
      },
      slice_text at t.tree ∙ t.says,
    )

-- ---- numbers

shortest_first : (text : List ℕ) → HasNoZeroInFront text → slice_index text 0 ≢ zero_digit
shortest_first [] s = λ e. absurd (omega (arith, e))
shortest_first (b ∷ text) s = s

first_shortest : (text : List ℕ) → slice_index text 0 ≢ zero_digit → HasNoZeroInFront text
first_shortest [] s = tt
first_shortest (b ∷ text) s = s

pub number_alone : (at : ℕ) (value : List ℕ) (says : Slice) → IsNumberValue at value says → Ends IsNumber value says.text
number_alone at value says v =
    let zeros = replicate v.zeros zero_digit in
    let D : ℕ → Type 0 = λ b. is_ascii_digit b ≡ true in (
      zeros ++ says.text,
      v.tail,
      v.spelled ∙ sym (append_assoc zeros says.text v.tail),
      (
        omega (arith, v.some, length-append zeros says.text, length-replicate v.zeros zero_digit),
        all_append D zeros says.text (all_replicate D v.zeros zero_digit refl) v.digits,
        v.zeros,
        refl,
        shortest_first says.text v.shortest,
      ),
      v.ends,
    )

pub number_placed : (at : ℕ) (value text : List ℕ) → Ends IsNumber value text
    → (says : Slice) × IsNumberValue at value says × (says.text ≡ text)
number_placed at value text e =
    let n = e.3 in
    let zeros = replicate n.2 zero_digit in
    let D : ℕ → Type 0 = λ b. is_ascii_digit b ≡ true in
    let long : length e.0 ≡ length (zeros ++ text) = ap length n.3 in (
      record { at = at + n.2; text = text },
      record {
        zeros = n.2;
        tail = e.1;
        spelled = e.2 ∙ ap (λ (b : List ℕ). b ++ e.1) n.3 ∙ append_assoc zeros text e.1;
        some = omega (arith, n.0, long, length-append zeros text, length-replicate n.2 zero_digit);
        digits = all_behind D zeros text (subst (AllByRecursion D) n.3 n.1);
        shortest = first_shortest text n.4;
        ends = e.4;
        is = refl;
      },
      refl,
    )
