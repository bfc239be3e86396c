-- Targets that are the same, by their test.
use Rattle.std.proofs.Common.{◌≡◌, ℕ, ◌==◌, ◌&&◌, true, false, refl, ap, ◌∙◌}
use Rattle.macho_model.specs.declared.targets.Target.TheVariants as target
use Rattle.macho_model.specs.declared.targets.Target.{Target}
use Rattle.macho_model.specs.Targets.{same_target}
use Rattle.macho_bytes.proofs.Bools.{true_or_false, and_left, and_right, is_equal, equal_is}

-- targets are the same where the test says so
pub same_target_is : (a b : Target) → same_target a b ≡ true → a ≡ b
same_target_is (target.Section f s o) (target.Section g t q) h =
    let front = and_left ((f == g) && (s == t)) (o == q) h in
    ap (λ (n : ℕ). target.Section n s o) (is_equal f g (and_left (f == g) (s == t) front))
    ∙ ap (λ (n : ℕ). target.Section g n o) (is_equal s t (and_right (f == g) (s == t) front))
    ∙ ap (λ (n : ℕ). target.Section g t n) (is_equal o q (and_right ((f == g) && (s == t)) (o == q) h))
same_target_is (target.Common i) (target.Common j) h = ap (λ (n : ℕ). target.Common n) (is_equal i j h)
same_target_is (target.Import i) (target.Import j) h = ap (λ (n : ℕ). target.Import n) (is_equal i j h)
same_target_is target.Base target.Base h = refl
same_target_is (target.Absolute v) (target.Absolute w) h = ap (λ (n : ℕ). target.Absolute n) (is_equal v w h)
same_target_is target.None target.None h = refl
same_target_is a b h = absurd (true_or_false false h refl)

pub target_itself : (a : Target) → same_target a a ≡ true
target_itself (target.Section f s o) = rw (equal_is f f refl, equal_is s s refl, equal_is o o refl) refl
target_itself (target.Common i) = equal_is i i refl
target_itself (target.Import i) = equal_is i i refl
target_itself target.Base = refl
target_itself (target.Absolute v) = equal_is v v refl
target_itself target.None = refl
