-- Runs: the bytes at a front that pass a test, up to the first that doesn't.
-- Bytes are such a run and what stands behind it (`run_of`); and where they are, the length of the longest run is the
-- length of that front (`run_len`). So a reading that counts the bytes of a run, takes that many and drops that many
-- is known from the parts: by `take-append_seam` and `drop-append_seam` it has the front and the rest.
-- The byte behind the run is the first of the rest (`first_behind`).
use Rattle.std.proofs.Common.{◌≡◌, ℕ, zero, suc, ◌+◌, Bool, true, false, eqb, List, [], ◌∷◌, ◌++◌, length, map, replicate, slice_index, refl, ap, ◌∙◌, arith}
use Rattle.std.proofs.lemmas.List.{append-nil, get_or_past}
use Rattle.std.proofs.Math.Seq.{get_or-append_seam}
use Rattle.std.specs.List.{AllByRecursion, prefix_len}
use Rattle.macho_stub_lines.proofs.Bind.{eq_at}

-- no byte, or a first one that fails the test
abbrev pub Stops : (ℕ → Bool) → List ℕ → Type 0
Stops p [] = Unit {0}
Stops p (b ∷ bytes) = p b ≡ false

-- each byte passes
abbrev pub Passes : (ℕ → Bool) → List ℕ → Type 0
Passes p bytes = AllByRecursion (λ b. p b ≡ true) bytes

-- the bytes as the longest front that passes, and the rest
pub record Run (p : ℕ → Bool) (bytes : List ℕ) : Type 0 where
  pub front : List ℕ
  pub rest : List ℕ
  pub is : bytes ≡ front ++ rest
  pub passes : Passes p front
  pub stops : Stops p rest

-- all bytes can be cut so
pub run_of : (p : ℕ → Bool) (bytes : List ℕ) → Run p bytes
run_of p [] = record { front = []; rest = []; is = refl; passes = tt; stops = tt }
run_of p (b ∷ bytes) = by_test (p b) refl (run_of p bytes)
  where
    by_test : (t : Bool) → p b ≡ t → Run p bytes → Run p (b ∷ bytes)
    by_test true e run =
        record { front = b ∷ run.front; rest = run.rest; is = ap (λ all. b ∷ all) run.is; passes = (e, run.passes); stops = run.stops }
    by_test false e run = record { front = []; rest = b ∷ bytes; is = refl; passes = tt; stops = e }

-- how long the run is
pub run_len : (p : ℕ → Bool) (front rest : List ℕ) → Passes p front → Stops p rest → prefix_len p (front ++ rest) ≡ length front
run_len p [] [] passes stops = refl
run_len p [] (b ∷ rest) passes stops = rw stops refl
run_len p (b ∷ front) rest passes stops = rw (passes.0) (ap (λ n. 1 + n) (run_len p front rest passes.1 stops) ∙ omega arith)

-- the byte behind the run is the first of the rest
pub first_behind : (front rest : List ℕ) → slice_index (front ++ rest) (length front) ≡ slice_index rest 0
first_behind front [] = rw (append-nil front) (get_or_past front (length front) 0 (omega arith))
first_behind front (b ∷ rest) = get_or-append_seam front b rest 0

-- what both parts have, the whole has
pub all_append : {A : Type 0} (P : A → Type 0) (front rest : List A) → AllByRecursion P front → AllByRecursion P rest
    → AllByRecursion P (front ++ rest)
all_append P [] rest first second = second
all_append P (x ∷ front) rest first second = (first.0, all_append P front rest first.1 second)

-- what the whole has, its front has
pub all_front : {A : Type 0} (P : A → Type 0) (front rest : List A) → AllByRecursion P (front ++ rest) → AllByRecursion P front
all_front P [] rest all = tt
all_front P (x ∷ front) rest all = (all.0, all_front P front rest all.1)

-- and the part behind a front has it too
pub all_behind : {A : Type 0} (P : A → Type 0) (front rest : List A) → AllByRecursion P (front ++ rest) → AllByRecursion P rest
all_behind P [] rest all = all
all_behind P (x ∷ front) rest all = all_behind P front rest all.1

-- where each of a list gives something that has it, all that is given has it
pub all_made : {A B : Type 0} (P : B → Type 0) (f : A → B) (xs : List A) → AllByRecursion (λ x. P (f x)) xs
    → AllByRecursion P (map f xs)
all_made P f [] all = tt
all_made P f (x ∷ xs) all = (all.0, all_made P f xs all.1)

-- and the other way
pub all_made_of : {A B : Type 0} (P : B → Type 0) (f : A → B) (xs : List A) → AllByRecursion P (map f xs)
    → AllByRecursion (λ x. P (f x)) xs
all_made_of P f [] all = tt
all_made_of P f (x ∷ xs) all = (all.0, all_made_of P f xs all.1)

-- what a byte has, a row of it has
pub all_replicate : (P : ℕ → Type 0) (count b : ℕ) → P b → AllByRecursion P (replicate count b)
all_replicate P zero b one = tt
all_replicate P (suc count) b one = (one, all_replicate P count b one)

-- bytes that are each this one are a row of it
pub replicate_from_all : (b : ℕ) (bytes : List ℕ) → AllByRecursion (λ n. eqb n b ≡ true) bytes → bytes ≡ replicate (length bytes) b
replicate_from_all b [] all = refl
replicate_from_all b (n ∷ bytes) all =
    let head : n ≡ b = eq_at n b all.0 in
    let tail : bytes ≡ replicate (length bytes) b = replicate_from_all b bytes all.1 in
    cc
