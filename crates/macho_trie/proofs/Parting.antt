-- The order of names, as the walk meets them.
--
-- A name is less than one that goes on behind it. Of two names that share some bytes, the next byte decides, whatever
-- comes behind it. What is less than a name is less than every longer one. So names of a node's children are in the
-- order of the first bytes of their labels, and all names below a node come before those of the next one.
use Rattle.std.proofs.Common.{◌≡◌, ℕ, ◌<◌, ◌==◌, nat_lt, true, false, List, [], ◌∷◌, ◌++◌, length, slice_index, refl, ap, ◌∙◌, sym, arith, append_assoc}
use Rattle.std.specs.Cmp.Lexicographic.{slice_cmp}
use Rattle.std.specs.Ordering.{nat_cmp, ordering_then}
use Rattle.std.specs.declared.cmp.Ordering.{Ordering}
use Rattle.std.specs.declared.cmp.Ordering.TheVariants.{Less, Equal, Greater}
use Rattle.std.proofs.lemmas.Bool.Decides.{nat_tests}
use Rattle.macho_trie.specs.steps.Walking.{IsBefore, IsParted}

same_byte : (a : ℕ) → nat_cmp a a ≡ Equal
same_byte a =
    let no : nat_lt a a ≡ false = grind (arith, nat_tests) in
    let equal : (a == a) ≡ true = grind (arith, nat_tests) in
    rw (no, equal) refl

less_byte : (a b : ℕ) → a < b → nat_cmp a b ≡ Less
less_byte a b h =
    let yes : nat_lt a b ≡ true = grind (arith, nat_tests) in
    rw yes refl

-- what is less than a name is less than every longer one
pub before_longer : (x y more : List ℕ) → IsBefore x y → IsBefore x (y ++ more)
before_longer [] [] more h = absurd (cc)
before_longer [] (b ∷ y) more h = refl
before_longer (a ∷ x) [] more h = absurd (cc)
before_longer (a ∷ x) (b ∷ y) more h =
    elim (nat_cmp a b) as (λ o. ordering_then o (slice_cmp nat_cmp x y) ≡ Less → ordering_then o (slice_cmp nat_cmp x (y ++ more)) ≡ Less) [
      | Less ↦ λ e. refl
      | Equal ↦ λ e. before_longer x y more e
      | Greater ↦ λ e. absurd (cc)
    ] h

-- a name is less than one that goes on behind it
pub before_more : (x more : List ℕ) → 0 < length more → IsBefore x (x ++ more)
before_more [] [] h = absurd (omega arith)
before_more [] (b ∷ more) h = refl
before_more (a ∷ x) more h = ap (λ (o : Ordering). ordering_then o (slice_cmp nat_cmp x (x ++ more))) (same_byte a) ∙ before_more x more h

-- no name is less than itself
pub before_itself : (x : List ℕ) → IsBefore x x → ⊥
before_itself [] h = cc
before_itself (a ∷ x) h = before_itself x (sym (ap (λ (o : Ordering). ordering_then o (slice_cmp nat_cmp x x)) (same_byte a)) ∙ h)

next_decides : (shared left right : List ℕ) (low high : ℕ) → low < high → IsBefore (shared ++ (low ∷ left)) (shared ++ (high ∷ right))
next_decides [] left right low high h = ap (λ (o : Ordering). ordering_then o (slice_cmp nat_cmp left right)) (less_byte low high h)
next_decides (a ∷ shared) left right low high h =
    ap (λ (o : Ordering). ordering_then o (slice_cmp nat_cmp (shared ++ (low ∷ left)) (shared ++ (high ∷ right)))) (same_byte a)
    ∙ next_decides shared left right low high h

pub before_parted : (x y : List ℕ) → IsParted x y → IsBefore x y
before_parted x y p =
    ap (λ (n : List ℕ). slice_cmp nat_cmp n y) p.is_left
    ∙ ap (λ (n : List ℕ). slice_cmp nat_cmp (p.shared ++ (p.low ∷ p.left)) n) p.is_right
    ∙ next_decides p.shared p.left p.right p.low p.high p.less

-- names that part still part with more behind the first one
pub parted_longer : (x y more : List ℕ) → IsParted x y → IsParted (x ++ more) y
parted_longer x y more p = record {
  shared = p.shared;
  low = p.low;
  high = p.high;
  left = p.left ++ more;
  right = p.right;
  is_left = ap (λ (n : List ℕ). n ++ more) p.is_left ∙ append_assoc p.shared (p.low ∷ p.left) more;
  is_right = p.is_right;
  less = p.less;
}

-- the names of two children part
pub parted_labels : (name first second : List ℕ) → 0 < length first → 0 < length second → slice_index first 0 < slice_index second 0
    → IsParted (name ++ first) (name ++ second)
parted_labels name [] second f s h = absurd (omega arith)
parted_labels name (a ∷ first) [] f s h = absurd (omega arith)
parted_labels name (a ∷ first) (b ∷ second) f s h = record {
  shared = name;
  low = a;
  high = b;
  left = first;
  right = second;
  is_left = refl;
  is_right = refl;
  less = h;
}
