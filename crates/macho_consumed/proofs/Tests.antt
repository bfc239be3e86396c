-- Tests over lists: all elements pass where each does, and where one fails not all pass.
use Rattle.std.proofs.Common.{◌≡◌, arith, Bool, true, false, ◌&&◌, List, [], ◌∷◌, refl, sym, ap, ◌∙◌}
use Rattle.std.specs.List.{list_all, Contains}
use Rattle.macho_bytes.proofs.Members.{one_passes}

pub not_true : (t : Bool) → (t ≡ true → ⊥) → t ≡ false
not_true true h = absurd (h refl)
not_true false h = refl

pub one_fails : {X : Type 0} (p : X → Bool) (xs : List X) (x : X) → Contains xs x → p x ≡ false → list_all p xs ≡ false
one_fails p xs x c fails = not_true (list_all p xs) (λ all. let passed = one_passes p xs x all c in cc)
