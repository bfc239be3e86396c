-- More unwind information makes the written sum no less, and whether there is any says how many output sections there are.
--
-- The content grows by as much, and each part of the sum is a sum or a quotient of what grows.
use Rattle.std.proofs.Common.{◌≡◌, ℕ, ◌+◌, ◌/◌, ◌^◌, ◌<◌, ◌≤◌, ◌==◌, not, nat_lt, Bool, length, min, ap, ◌∙◌, arith}
use Rattle.std.specs.Prelude.{sum_by}
use Rattle.std.proofs.lemmas.Nat.{le-div, div-add-mod'}
use Rattle.std.proofs.lemmas.Bool.Decides.{nat_tests}
use Rattle.macho_model.specs.declared.placed.Counts.{Counts}
use Rattle.macho_model.specs.Links.{Link, carried_of}
use Rattle.macho_model.specs.Targets.{slots_of, stubs_of}
use Rattle.macho_model.specs.Segments.{output_count, output_keys_of, one_if}
use Rattle.macho_model.specs.WrittenSum.{content_sum, command_sum, unsigned_sum, written_sum_of, section_cost}

-- the sizes with another room for unwind information
abbrev pub with_unwind : Counts → ℕ → Counts
with_unwind counts n = record counts { unwind = n }

-- as many output sections
pub outputs_kept : (l : Link) (counts others : Counts) → nat_lt 0 counts.initializers ≡ nat_lt 0 others.initializers
    → nat_lt 0 counts.unwind ≡ nat_lt 0 others.unwind → output_count l counts ≡ output_count l others
unfolding output_count
outputs_kept l counts others i u =
    ap (λ (b : Bool). length (output_keys_of l) + one_if b + one_if (nat_lt 0 counts.unwind) + one_if (not (length (stubs_of l) == 0))
    + one_if (not (length (slots_of l) == 0))) i
    ∙ ap (λ (b : Bool). length (output_keys_of l) + one_if (nat_lt 0 others.initializers) + one_if b + one_if (not (length
    (stubs_of l) == 0))
    + one_if (not (length (slots_of l) == 0))) u

-- quotients keep the order
quotient_grows : (a b k : ℕ) → 0 < k → a ≤ b → a / k ≤ b / k
quotient_grows a b k some le = le-div (a / k) b k some (omega (arith, le, div-add-mod' a k))

content_grows : (l : Link) (counts : Counts) (n : ℕ) → n ≤ counts.unwind → content_sum l (with_unwind counts n) ≤ content_sum l counts
unfolding content_sum
content_grows l counts n le = omega (arith, le)

commands_same : (l : Link) (counts : Counts) (n : ℕ) → output_count l (with_unwind counts n) ≡ output_count l counts
    → command_sum l (with_unwind counts n) ≡ command_sum l counts
unfolding command_sum
commands_same l counts n same = omega (arith, same)

unsigned_grows : (l : Link) (counts : Counts) (n : ℕ) → n ≤ counts.unwind → output_count l (with_unwind counts n) ≡ output_count l counts
    → unsigned_sum l (with_unwind counts n) ≤ unsigned_sum l counts
unfolding unsigned_sum
unsigned_grows l counts n le same =
    let content = content_grows l counts n le in
    omega (
      arith,
      content,
      commands_same l counts n same,
      quotient_grows (content_sum l (with_unwind counts n)) (content_sum l counts) 16384 (omega arith) content,
    )

pub written_grows : (l : Link) (counts : Counts) (n : ℕ) → n ≤ counts.unwind → output_count l (with_unwind counts n) ≡ output_count l counts
    → written_sum_of l (with_unwind counts n) ≤ written_sum_of l counts
unfolding written_sum_of
written_grows l counts n le same =
    let unsigned = unsigned_grows l counts n le same in
    omega (arith, unsigned, quotient_grows (unsigned_sum l (with_unwind counts n)) (unsigned_sum l counts) 4096 (omega arith) unsigned)

-- there is room for 2 ^ 32 bytes or less exactly where there is any
pub some_kept : (n : ℕ) → nat_lt 0 (min n (2 ^ 32)) ≡ nat_lt 0 n
some_kept n = grind (arith, nat_tests)

-- the content is part of the sum
pub content_within : (l : Link) (counts : Counts) → content_sum l counts ≤ written_sum_of l counts
unfolding written_sum_of unsigned_sum
content_within l counts = omega arith

pub unwind_within : (l : Link) (counts : Counts) → counts.unwind ≤ content_sum l counts
unfolding content_sum
unwind_within l counts = omega arith

pub sections_within : (l : Link) (counts : Counts) → sum_by (section_cost l) (carried_of l) ≤ content_sum l counts
unfolding content_sum
sections_within l counts = omega arith
