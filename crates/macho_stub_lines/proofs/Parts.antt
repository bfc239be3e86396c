-- Reading the tokens of a line one after the other, as a loop does.
-- The reading goes byte by byte, and passes the bytes of a token by a count; so from the next token on it is the
-- reading of what follows the token (`list_part_skip`). What was read before stands in front (`goes_on`).
-- A token that can't be read, or that may not stand there, fails the whole reading (`ends_at_token`, `ends_at_order`);
-- at the end of the line, what was read is all (`is_done`).
use Rattle.std.proofs.Common.{◌≡◌, ℕ, zero, suc, ◌-◌, ◌<◌, List, [], ◌∷◌, ◌++◌, length, drop, Ok, Err, refl, sym, ap, ◌∙◌, append_assoc, arith, Bool, true, false, eqb}
use Rattle.std.proofs.lemmas.List.{append-nil}
use Rattle.std.proofs.lemmas.Bool.Decides.{nat_tests}
use Rattle.macho_stub_lines.specs.declared.list.Expect.{Expect}
use Rattle.macho_stub_lines.specs.declared.fault.StubFault.{StubFault}
use Rattle.macho_stub_lines.specs.declared.fault.StubFault.TheVariants.{Rule, OutOfMemory}
use Rattle.macho_stub_lines.specs.Faults.{Reading, Fails, broken}
use Rattle.macho_stub_lines.specs.Lists.{TokenSpan, ListPart, names_of, token_front, behind, list_part, with_front}

-- what a test for emptiness says
pub some_left : (empty : Bool) (n : ℕ) → empty ≡ eqb n 0 → empty ≡ false → 0 < n
some_left empty n is h = grind (arith, nat_tests)

-- and where it says that nothing is left
pub none_left : (empty : Bool) (n : ℕ) → empty ≡ eqb n 0 → empty ≡ true → n ≡ 0
none_left empty n is h = grind (arith, nat_tests)

-- the bytes of a token are passed
pub list_part_skip : (line : ℕ) (expect : Expect) (skip : ℕ) (bytes : List ℕ) → list_part line expect skip bytes
    ≡ list_part line expect 0 (drop skip bytes)
unfolding list_part
list_part_skip line expect zero [] = refl
list_part_skip line expect (suc skip) [] = refl
list_part_skip line expect zero (b ∷ bytes) = refl
list_part_skip line expect (suc skip) (b ∷ bytes) = list_part_skip line expect skip bytes

-- the first token of a line, and the reading from behind it
pub list_part_step : (line : ℕ) (expect next : Expect) (bytes : List ℕ) (token : TokenSpan) → 0 < length bytes → 0 < token.width
    → token_front line bytes ≡ Ok token → behind line expect token.kind ≡ Ok next
    → list_part line expect 0 bytes ≡ with_front (names_of token) (list_part line next 0 (drop token.width bytes))
unfolding list_part
list_part_step line expect next [] token some wide h k = absurd (omega arith)
list_part_step line expect next (b ∷ bytes) token some wide h k =
    let e : drop (token.width - 1) bytes ≡ drop token.width (b ∷ bytes) = drop_behind token.width b bytes wide in
    rw (h, k) (ap (with_front (names_of token)) (list_part_skip line next (token.width - 1) bytes ∙ ap (list_part line next 0) e))
  where
    drop_behind : (w b : ℕ) (bytes : List ℕ) → 0 < w → drop (w - 1) bytes ≡ drop w (b ∷ bytes)
    drop_behind zero b bytes h = absurd (omega arith)
    drop_behind (suc w) b bytes h = let e : suc w - 1 ≡ w = omega arith in rw e refl

regroup : (front names : List (List ℕ)) (reading : Reading ListPart) → with_front front (with_front names reading)
    ≡ with_front (front ++ names) reading
regroup front names (Ok part) = ap (λ (all : List (List ℕ)). Ok (record { names = all; expect = part.expect }))
    (sym (append_assoc front names part.names))
regroup front names (Err f) = refl

-- what was read, with a token more in front of what follows it, gives the same
pub goes_on : (front : List (List ℕ)) (line : ℕ) (expect next : Expect) (bytes : List ℕ) (token : TokenSpan) (total : Reading ListPart)
    → 0 < length bytes → 0 < token.width
    → token_front line bytes ≡ Ok token → behind line expect token.kind ≡ Ok next → with_front front (list_part line expect 0 bytes)
    ≡ total
    → with_front (front ++ names_of token) (list_part line next 0 (drop token.width bytes)) ≡ total
goes_on front line expect next bytes token total some wide h k so_far =
    sym (regroup front (names_of token) (list_part line next 0 (drop token.width bytes)))
    ∙ ap (with_front front) (sym (list_part_step line expect next bytes token some wide h k)) ∙ so_far

-- where no token stands
pub ends_at_token : (e : StubFault) (front : List (List ℕ)) (line : ℕ) (expect : Expect) (bytes : List ℕ) (total : Reading ListPart)
    → 0 < length bytes
    → Fails e (token_front line bytes) → with_front front (list_part line expect 0 bytes) ≡ total → Fails e total
unfolding list_part
ends_at_token e front line expect [] total some h so_far = absurd (omega arith)
ends_at_token OutOfMemory front line expect (b ∷ bytes) total some h so_far = tt
ends_at_token (Rule n rule) front line expect (b ∷ bytes) total some h so_far =
    let one : with_front front (list_part line expect 0 (b ∷ bytes)) ≡ broken n rule = rw h refl in
    sym so_far ∙ one

-- where a token stands that may not stand there
pub ends_at_order : (e : StubFault) (front : List (List ℕ)) (line : ℕ) (expect : Expect) (bytes : List ℕ) (token : TokenSpan)
    (total : Reading ListPart) → 0 < length bytes
    → token_front line bytes ≡ Ok token → Fails e (behind line expect token.kind) → with_front front (list_part line expect 0 bytes)
    ≡ total → Fails e total
unfolding list_part
ends_at_order e front line expect [] token total some h k so_far = absurd (omega arith)
ends_at_order OutOfMemory front line expect (b ∷ bytes) token total some h k so_far = tt
ends_at_order (Rule n rule) front line expect (b ∷ bytes) token total some h k so_far =
    let one : with_front front (list_part line expect 0 (b ∷ bytes)) ≡ broken n rule = rw (h, k) refl in
    sym so_far ∙ one

-- at the end of a line, the names read so far are all
pub is_done : (front : List (List ℕ)) (line : ℕ) (expect : Expect) (bytes : List ℕ) (total : Reading ListPart) → length bytes ≡ 0
    → with_front front (list_part line expect 0 bytes) ≡ total → total ≡ Ok (record { names = front; expect = expect })
unfolding list_part
is_done front line expect [] total none so_far = sym so_far
    ∙ ap (λ (all : List (List ℕ)). Ok (record { names = all; expect = expect })) (append-nil front)
is_done front line expect (b ∷ bytes) total none so_far = absurd (omega arith)
