-- The last part of a path, found from the front.
--
-- Turned round, a path begins with the slashes at its end, as far as the place behind the last byte that is none; and what
-- is left begins with its last part, as far as the place behind the last slash. Both are one fact: the bytes behind the
-- last that fails a test are the longest beginning, turned round, that passes it.
use Rattle.std.proofs.Common.{◌≡◌, ℕ, suc, ◌+◌, ◌-◌, ◌<◌, ◌≤◌, ◌⊎◌, Bool, true, false, not, List, [], ◌∷◌, ◌++◌, length, take, drop, get_or, reverse, inl, inr, refl, sym, ap, ◌∙◌, arith, All}
use Rattle.std.specs.Prelude.{◌==◌, take_while}
use Rattle.std.proofs.lemmas.List.{take-append-drop, get_or-drop, get_or-take, length-take, length-take-le, length-drop, length-reverse, reverse-append, reverse-reverse, get_or-reverse}
use Rattle.std.proofs.Math.Seq.{drop-append_seam}
use Rattle.std.proofs.lemmas.List.Sums.{take_while-cons}
use Rattle.macho_model.specs.Faults.{SLASH, last_part}
use Rattle.macho_linker.specs.steps.Paths.{IsBehindLast}

-- all of a beginning passes, and what stands behind it fails at once
taken : (p : ℕ → Bool) (u v : List ℕ) → All (λ b. p b ≡ true) u → ((d : ℕ) → 0 < length v → p (get_or v 0 d) ≡ false)
    → take_while p (u ++ v) ≡ u
taken p [] [] pass fail = refl
taken p [] (y ∷ v) pass fail = take_while-cons p y v ∙ rw (fail y (omega arith)) refl
taken p (x ∷ u) v pass fail =
    take_while-cons p x (u ++ v) ∙ rw (pass 0 x (omega arith))
    (ap (λ (t : List ℕ). x ∷ t) (taken p u v (λ k d lt. pass (suc k) d (omega arith)) fail))

-- behind place n all pass, and in front of it one fails: that is what is taken of the path turned round
turned : (p : ℕ → Bool) (xs : List ℕ) (n : ℕ) → n ≤ length xs → ((k d : ℕ) → n ≤ k → k < length xs → p (get_or xs k d) ≡ true)
    → ((n ≡ 0) ⊎ ((d : ℕ) → p (get_or xs (n - 1) d) ≡ false)) → take_while p (reverse xs) ≡ reverse (drop n xs)
turned p xs n within pass last =
    ap (take_while p) whole ∙ taken p (reverse (drop n xs)) (reverse (take n xs)) passes (fails last)
  where
    whole : reverse xs ≡ reverse (drop n xs) ++ reverse (take n xs)
    whole = ap reverse (sym (take-append-drop n xs)) ∙ reverse-append (take n xs) (drop n xs)

    passes : All (λ b. p b ≡ true) (reverse (drop n xs))
    passes k d lt =
        let long = length-reverse (drop n xs) in
        let shorter = length-drop n xs in
        let back = get_or-reverse (drop n xs) k d (omega arith) in
        let there = get_or-drop n xs (length (drop n xs) - 1 - k) d in
        ap p (back ∙ there) ∙ pass (n + (length (drop n xs) - 1 - k)) d (omega arith) (omega arith)

    fails : ((n ≡ 0) ⊎ ((d : ℕ) → p (get_or xs (n - 1) d) ≡ false)) → (d : ℕ) → 0 < length (reverse (take n xs))
        → p (get_or (reverse (take n xs)) 0 d) ≡ false
    fails (inl none) d lt = absurd (omega (arith, length-reverse (take n xs), length-take n xs))
    fails (inr fail) d lt =
        let shorter = length-take-le n xs within in
        let some : 0 < length (take n xs) = omega (arith, length-reverse (take n xs)) in
        let back = get_or-reverse (take n xs) 0 d some in
        let there = get_or-take n xs (length (take n xs) - 1 - 0) d (omega arith) in
        let same : get_or xs (length (take n xs) - 1 - 0) d ≡ get_or xs (n - 1) d = ap (λ (i : ℕ). get_or xs i d) (omega arith) in
        ap p (back ∙ there ∙ same) ∙ fail d

-- THE last part: what stands behind the last slash in what stands in front of the slashes at the end
pub last_part-is : (path : List ℕ) (end start : ℕ) → IsBehindLast path (length path) false end
    → IsBehindLast (take end path) (length (take end path)) true start → drop start (take end path) ≡ last_part path
last_part-is path end start far near =
    sym (ap (λ (r : List ℕ). reverse (take_while (λ b. not (b == SLASH)) r)) left ∙ ap reverse part
    ∙ reverse-reverse (drop start (take end path)))
  where
    slashes : take_while (λ b. b == SLASH) (reverse path) ≡ reverse (drop end path)
    slashes = turned (λ b. b == SLASH) path end far.within far.none far.last

    left : drop (length (take_while (λ b. b == SLASH) (reverse path))) (reverse path) ≡ reverse (take end path)
    left =
        ap (λ (t : List ℕ). drop (length t) (reverse path)) slashes
        ∙ ap (drop (length (reverse (drop end path))))
        (ap reverse (sym (take-append-drop end path)) ∙ reverse-append (take end path) (drop end path))
        ∙ drop-append_seam (reverse (drop end path)) (reverse (take end path))

    part : take_while (λ b. not (b == SLASH)) (reverse (take end path)) ≡ reverse (drop start (take end path))
    part =
        turned (λ b. not (b == SLASH)) (take end path) start near.within (λ k d from lt. ap not (near.none k d from lt)) (flipped near.last)
      where
        flipped : ((start ≡ 0) ⊎ ((d : ℕ) → (get_or (take end path) (start - 1) d == SLASH) ≡ true))
            → (start ≡ 0) ⊎ ((d : ℕ) → not (get_or (take end path) (start - 1) d == SLASH) ≡ false)
        flipped (inl none) = inl none
        flipped (inr some) = inr (λ d. ap not (some d))
