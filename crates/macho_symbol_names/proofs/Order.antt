-- Which of two rows is the better definition: the stronger one, of two commons the greater. It is an order of pairs of
-- numbers, by the first and then by the second.
use Rattle.std.proofs.Common.{◌≡◌, ℕ, ◌<◌, ◌≤◌, Bool, true, false, ◌==◌, nat_lt, ◌&&◌, ◌||◌, arith, refl, ap, sym, ◌∙◌}
use Rattle.std.proofs.lemmas.Bool.{false≢true}
use Rattle.std.proofs.lemmas.Bool.Decides.{nat_tests}
use Rattle.macho_symbol_names.specs.Kept.{Row}
use Rattle.macho_symbol_names.specs.Events.{beats, strength, strength_of, common_size, size_of_common}
use Rattle.macho_symbol_names.specs.steps.Levels.{ties}
use Rattle.macho_symbol_names.specs.declared.notes.Sort.{Sort}
use Rattle.macho_symbol_names.specs.declared.notes.Sort.TheVariants.{Section, Absolute, Common, Offered, Nowhere}
use Rattle.macho_bytes.proofs.Bools.{is_equal}

abbrev over : ℕ → ℕ → ℕ → ℕ → Bool
over s z t y = nat_lt t s || ((t == s) && nat_lt y z)

abbrev level : ℕ → ℕ → ℕ → ℕ → Bool
level s z t y = (s == t) && (z == y)

over_itself : (s z : ℕ) → over s z s z ≡ false
over_itself s z = grind (arith, nat_tests)

over_over : (s z t y u x : ℕ) → over s z t y ≡ true → over t y u x ≡ true → over s z u x ≡ true
over_over s z t y u x p q = grind (arith, nat_tests)

not_over_not_over : (s z t y u x : ℕ) → over s z t y ≡ false → over t y u x ≡ false → over s z u x ≡ false
not_over_not_over s z t y u x p q = grind (arith, nat_tests)

over_apart : (s z t y : ℕ) → over s z t y ≡ true → level s z t y ≡ false
over_apart s z t y p = grind (arith, nat_tests)

level_itself : (s z : ℕ) → level s z s z ≡ true
level_itself s z = grind (arith, nat_tests)

level_over : (s z t y u x : ℕ) → over s z u x ≡ true → over t y u x ≡ false → level s z t y ≡ false
level_over s z t y u x p q = grind (arith, nat_tests)

-- no row is better than itself
pub beats_itself : (a : Row) → beats a a ≡ false
beats_itself a = over_itself (strength a) (common_size a)

pub beats_beats : (a b c : Row) → beats a b ≡ true → beats b c ≡ true → beats a c ≡ true
beats_beats a b c p q = over_over (strength a) (common_size a) (strength b) (common_size b) (strength c) (common_size c) p q

pub not_beats_not_beats : (a b c : Row) → beats a b ≡ false → beats b c ≡ false → beats a c ≡ false
not_beats_not_beats a b c p q = not_over_not_over (strength a) (common_size a) (strength b) (common_size b) (strength c) (common_size c) p q

-- a row that beats another is not as good as it, but better
pub beats_apart : (a b : Row) → beats a b ≡ true → ties a b ≡ false
beats_apart a b p = over_apart (strength a) (common_size a) (strength b) (common_size b) p

pub ties_itself : (a : Row) → ties a a ≡ true
ties_itself a = level_itself (strength a) (common_size a)

-- a row that beats a third is better than one that doesn't
pub ties_beats : (a b c : Row) → beats a c ≡ true → beats b c ≡ false → ties a b ≡ false
ties_beats a b c p q = level_over (strength a) (common_size a) (strength b) (common_size b) (strength c) (common_size c) p q

apart_by_test : (a b : ℕ) → (a == b) ≡ false → (b == a) ≡ false
apart_by_test a b e = grind (arith, nat_tests)

-- how strong a row is at most, and that a row that is no common has no size
strength_most : (sort : Sort) (weak : Bool) → strength_of sort weak ≤ 4
strength_most Section true = omega arith
strength_most Section false = omega arith
strength_most Absolute true = omega arith
strength_most Absolute false = omega arith
strength_most Common weak = omega arith
strength_most Offered weak = omega arith
strength_most Nowhere weak = omega arith

size_of_strength : (sort : Sort) (weak : Bool) (value : ℕ) → (strength_of sort weak == 2) ≡ false → size_of_common sort value ≡ 0
size_of_strength Section weak value other = refl
size_of_strength Absolute weak value other = refl
size_of_strength Common weak value other = absurd (false≢true (sym other))
size_of_strength Offered weak value other = refl
size_of_strength Nowhere weak value other = refl

pub strength_below : (r : Row) → (strength r == 4) ≡ false → strength r < 4
strength_below r other = let most = strength_most r.sort r.weak in grind (arith, nat_tests, most)

pub no_size : (r : Row) → (strength r == 2) ≡ false → common_size r ≡ 0
no_size r other = size_of_strength r.sort r.weak r.value other

-- a stronger row beats a weaker one
pub stronger_beats : (a b : Row) → strength b < strength a → beats a b ≡ true
stronger_beats a b less = by (strength a) (common_size a) (strength b) (common_size b) less
  where
    by : (s z t y : ℕ) → t < s → over s z t y ≡ true
    by s z t y less = grind (arith, nat_tests)

-- rows that are no commons are as good as each other where they are as strong
pub ties_strength : (a b : Row) (s : ℕ) → strength a ≡ s → (s == 2) ≡ false → ties a b ≡ (strength b == s)
ties_strength a b s is other = of (strength b == s) refl
  where
    size_a : common_size a ≡ 0
    size_a = no_size a (ap (λ n. n == 2) is ∙ other)

    of : (t : Bool) → (strength b == s) ≡ t → ties a b ≡ t
    of true same =
        let level : strength b ≡ s = is_equal (strength b) s same in
        let size_b : common_size b ≡ 0 = no_size b (ap (λ n. n == 2) level ∙ other) in
        rw (is, level, size_a, size_b) (level_itself s 0)
    of false apart = rw (is, apart_by_test (strength b) s apart) refl
