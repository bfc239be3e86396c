-- A walk over the load commands, which counts those of a list, stands at the one with a number in the list when so many
-- have passed.
--
-- Of the first i commands so many are of the list as were counted. The command at the walk's place is number i; if it is
-- of the list, its number there is that count, since a filter keeps the order. Behind the last command all of the list
-- have passed, so its length is the count. The place stays below 2 ^ 64: each size is below 2 ^ 32, and so is the count.
use Rattle.std.proofs.Common.{◌≡◌, ℕ, zero, suc, ◌+◌, ◌*◌, ◌-◌, ◌<◌, ◌≤◌, Bool, true, false, if◌then◌else◌, List, [], ◌∷◌, length, get_or, take, refl, sym, ap, subst, ◌∙◌, arith}
use Rattle.std.specs.Prelude.{filter}
use Rattle.macho_bytes.specs.Numbers.{le_at}
use Rattle.macho_bytes.specs.Layouts.{reading}
use Rattle.macho_image_walks.specs.declared.walk.Listed.{Listed}
use Rattle.macho_model.specs.Commands.{command_at, header_of, commands_of}
use Rattle.macho_image_walks.specs.Readings.{is_listed, listed, IsNth}
use Rattle.macho_image_walks.proofs.SegmentWalk.{StandsAt, walk_begins, walk_goes_on, command_here, length-commands}

-- how many of the first elements pass a test
abbrev pub passing : {X : Type 0} → (X → Bool) → ℕ → List X → ℕ
passing p i xs = length (filter p (take i xs))

-- one element more
one_more : {X : Type 0} (p : X → Bool) (xs : List X) (i : ℕ) (c : X) → i < length xs → get_or xs i c ≡ c
    → passing p (i + 1) xs ≡ passing p i xs + (if p c then 1 else 0)
one_more p [] i c lt is = absurd (omega (arith, lt))
one_more p (x ∷ xs) zero c lt is =
    rw (← is) (elim (p x) as (λ t. length (if t then x ∷ [] else []) ≡ 0 + (if t then 1 else 0)) [ true ↦ refl | false ↦ refl ])
one_more p (x ∷ xs) (suc i) c lt is =
    let rest = one_more p xs i c (omega (arith, lt)) is in
    let same : suc i + 1 ≡ suc (i + 1) = omega arith in
    ap (λ n. passing p n (x ∷ xs)) same
    ∙ elim (p x) as (λ t. length (if t then x ∷ filter p (take (i + 1) xs) else filter p (take (i + 1) xs))
    ≡ length (if t then x ∷ filter p (take i xs) else filter p (take i xs)) + (if p c then 1 else 0)) [
      | true ↦ omega (arith, rest)
      | false ↦ rest
    ]

-- an element that passes, by its number among those that pass
record IsAmong {X : Type 0} (xs : List X) (n : ℕ) (c : X) : Type 0 where
  within : n < length xs
  is : get_or xs n c ≡ c

among : {X : Type 0} (p : X → Bool) (xs : List X) (i : ℕ) (c : X) → i < length xs → get_or xs i c ≡ c → p c ≡ true
    → IsAmong (filter p xs) (passing p i xs) c
among p [] i c lt is passes = absurd (omega (arith, lt))
among {X = X} p (x ∷ xs) zero c lt is passes =
    let here : p x ≡ true = subst (λ y. p y ≡ true) (sym is) passes in rw here (record { within = omega arith; is = is })
among {X = X} p (x ∷ xs) (suc i) c lt is passes =
    let rest = among p xs i c (omega (arith, lt)) is passes in
    elim (p x) as (λ t. IsAmong (if t then x ∷ filter p xs else filter p xs)
    (length (if t then x ∷ filter p (take i xs) else filter p (take i xs))) c) [
      | true ↦ record { within = omega (arith, rest.within); is = rest.is }
      | false ↦ rest
    ]

-- all of a list
all_taken : {X : Type 0} (xs : List X) (i : ℕ) → length xs ≤ i → take i xs ≡ xs
all_taken [] zero h = refl
all_taken [] (suc i) h = refl
all_taken (x ∷ xs) zero h = absurd (omega (arith, h))
all_taken (x ∷ xs) (suc i) h = ap (λ ys. x ∷ ys) (all_taken xs i (omega (arith, h)))

-- the walk's state, before command i
pub record Passed (which : Listed) (b : List ℕ) (number i place left : ℕ) : Type 0 where
  pub stands : StandsAt b i place
  pub so_far : passing (is_listed which b) i (commands_of b) + left ≡ number
  pub near : place ≤ 32 + 4294967295 * i

pub none_passed : (which : Listed) (b : List ℕ) (number : ℕ) → Passed which b number 0 32 number
none_passed which b number = record { stands = walk_begins b; so_far = omega arith; near = omega arith }

-- a command of four bytes of size is followed by the next one
pub size_is : (b : List ℕ) (place size : ℕ) → size ≡ le_at 4 b (place + 4) → (command_at b place).size ≡ size
unfolding reading
size_is b place size h = sym h

one_passed : (which : Listed) (b : List ℕ) (number i place left size after : ℕ) → i < (header_of b).ncmds
    → Passed which b number i place left
    → size ≡ le_at 4 b (place + 4) → size ≤ 4294967295 → (if is_listed which b (command_at b place) then 1 else 0) + after ≡ left
    → Passed which b number (i + 1) (place + size) after
one_passed which b number i place left size after within passed read small counts =
    let here = command_here b i place (command_at b place) within passed.stands in
    let more = one_more (is_listed which b) (commands_of b) i (command_at b place) (omega (arith, within, length-commands b)) here in
    record {
      stands = subst (λ k. StandsAt b (i + 1) (place + k)) (size_is b place size read) (walk_goes_on b i place within passed.stands);
      so_far = omega (arith, more, counts, passed.so_far);
      near = omega (arith, passed.near, small);
    }

pub listed_passed : (which : Listed) (b : List ℕ) (number i place left size : ℕ) → i < (header_of b).ncmds
    → Passed which b number i place left
    → size ≡ le_at 4 b (place + 4) → size ≤ 4294967295 → is_listed which b (command_at b place) ≡ true → 1 ≤ left
    → Passed which b number (i + 1) (place + size) (left - 1)
listed_passed which b number i place left size within passed read small is some =
    one_passed which b number i place left size (left - 1) within passed read small (rw is (omega (arith, some)))

pub other_passed : (which : Listed) (b : List ℕ) (number i place left size : ℕ) → i < (header_of b).ncmds
    → Passed which b number i place left
    → size ≡ le_at 4 b (place + 4) → size ≤ 4294967295 → is_listed which b (command_at b place) ≡ false
    → Passed which b number (i + 1) (place + size) left
other_passed which b number i place left size within passed read small is =
    one_passed which b number i place left size left within passed read small (rw is (omega arith))

-- the walk stands at the command with the number
pub nth_here : (which : Listed) (b : List ℕ) (number i place : ℕ) → i < (header_of b).ncmds → Passed which b number i place 0
    → is_listed which b (command_at b place) ≡ true → IsNth which b number place
unfolding listed
nth_here which b number i place within passed is =
    let here = command_here b i place (command_at b place) within passed.stands in
    let found = among (is_listed which b) (commands_of b) i (command_at b place) (omega (arith, within, length-commands b)) here is in
    let count : passing (is_listed which b) i (commands_of b) ≡ number = omega (arith, passed.so_far) in
    record {
      within = omega (arith, found.within, count);
      is = subst
          (λ n. get_or (filter (is_listed which b) (commands_of b)) n (command_at b place) ≡ command_at b place) count found.is;
    }

-- all have passed
pub all_passed : (which : Listed) (b : List ℕ) (number i place left : ℕ) → (header_of b).ncmds ≤ i → Passed which b number i place left
    → length (listed which b) ≤ number
unfolding listed
all_passed which b number i place left past passed =
    let whole : take i (commands_of b) ≡ commands_of b = all_taken (commands_of b) i (omega (arith, past, length-commands b)) in
    let count = ap (λ cs. length (filter (is_listed which b) cs)) whole in
    omega (arith, count, passed.so_far)
