-- Bytes of which none is barred hold no NUL.
--
-- NUL is one of the two bytes that are barred, so where no byte passes that test none is NUL.
use Rattle.std.proofs.Common.{◌≡◌, ◌≢◌, ℕ, zero, suc, ◌==◌, ◌||◌, Bool, true, false, List, [], ◌∷◌, refl, arith}
use Rattle.std.specs.List.{All}
use Rattle.std.proofs.lemmas.Bool.Decides.{nat_tests}
use Rattle.macho_stub_lines.specs.Bytes.{has_barred}
use Rattle.macho_stub_lines.specs.steps.Bytes.{is_barred}
use Rattle.macho_stub_lines.specs.Laws.{UnbarredIsPlain}

-- one byte more without a NUL
pub plain_cons : (b : ℕ) (bytes : List ℕ) → b ≢ 0 → All (λ c. c ≢ 0) bytes → All (λ c. c ≢ 0) (b ∷ bytes)
plain_cons b bytes first rest zero d lt = first
plain_cons b bytes first rest (suc k) d lt = rest k d (omega arith)

-- bytes of which none is barred
pub unbarred : UnbarredIsPlain
unfolding has_barred
unbarred [] h = λ k d lt. absurd (omega arith)
unbarred (b ∷ bytes) h =
    plain_cons b bytes (not_nul b (first (is_barred b) (has_barred bytes) h)) (unbarred bytes (rest (is_barred b) (has_barred bytes) h))
  where
    first : (x y : Bool) → (x || y) ≡ false → x ≡ false
    first true y e = e
    first false y e = refl

    rest : (x y : Bool) → (x || y) ≡ false → y ≡ false
    rest true y e = absurd (cc)
    rest false y e = e

    not_nul : (b : ℕ) → is_barred b ≡ false → b ≢ 0
    not_nul b e is = let test : (b == 0) ≡ false = first (b == 0) (b == 9) e in grind (arith, nat_tests)
