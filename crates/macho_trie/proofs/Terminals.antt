-- What a terminal part says, step by step.
--
-- The part is read by two numbers and, for a reexport, a name. Each lemma here follows one way through the definition:
-- the first number isn't there, the second isn't, there is no reexport, the name has no end, or all stands.
use Rattle.std.proofs.Common.{◌≡◌, ℕ, ◌+◌, ◌-◌, ◌<◌, ◌≤◌, ◌/◌, ◌%◌, ◌==◌, nat_lt, true, false, List, length, take, drop, slice_index, slice_range, Option, Some, None, refl, sym, ap, ◌∙◌, arith, eq-eqb}
use Rattle.std.specs.Option.{option_map}
use Rattle.std.proofs.lemmas.Bool.{lt-ltb}
use Rattle.std.proofs.lemmas.Bool.Decides.{nat_tests}
use Rattle.std.proofs.lemmas.List.{length-take, take_rest}
use Rattle.macho_bytes.specs.Texts.{name_of}
use Rattle.macho_bytes.specs.Uleb.{uleb_at}
use Rattle.macho_bytes.proofs.Names.{name_of-ends, name_of-whole}
use Rattle.macho_trie.specs.Exports.{Exported, as_value, as_reexport}
use Rattle.macho_trie.specs.Nodes.{ended_name, export_with, export_in, terminal_between, terminal_at}
use Rattle.macho_bytes.proofs.Groups.{not_below}

-- a name that ends before the end of the bytes
pub name_ends : (bytes : List ℕ) (k : ℕ) → k < length bytes → ((i : ℕ) → i < k → slice_index bytes i ≡ 0 → ⊥) → slice_index bytes k ≡ 0
    → ended_name bytes ≡ Some (take k bytes)
unfolding ended_name
name_ends bytes k within before zero_at =
    let is : name_of bytes ≡ take k bytes = name_of-ends bytes k within before zero_at in
    let short : length (take k bytes) < length bytes = omega (arith, length-take k bytes) in
    rw (is, lt-ltb (length (take k bytes)) (length bytes) short) refl

pub name_goes_on : (bytes : List ℕ) → ((i : ℕ) → i < length bytes → slice_index bytes i ≡ 0 → ⊥) → ended_name bytes ≡ None
unfolding ended_name
name_goes_on bytes none =
    let whole : nat_lt (length bytes) (length bytes) ≡ false = grind (arith, nat_tests) in
    rw (name_of-whole bytes none, whole) refl

pub no_flags : (part : List ℕ) → None ≡ uleb_at part 0 → None ≡ export_in part
unfolding export_in
no_flags part none = rw (← none) refl

pub no_number : (part : List ℕ) (flags at : ℕ) → Some (flags, at) ≡ uleb_at part 0 → None ≡ uleb_at part at → None ≡ export_in part
unfolding export_in
no_number part flags at first none = rw (← first) (rw (← none) refl)

both_numbers : (part : List ℕ) (flags at number next : ℕ) → Some (flags, at) ≡ uleb_at part 0 → Some (number, next) ≡ uleb_at part at
    → export_in part ≡ export_with flags number (drop next part)
unfolding export_in
both_numbers part flags at number next first second = rw (← first) (rw (← second) refl)

pub is_value : (part : List ℕ) (flags at number next : ℕ) → Some (flags, at) ≡ uleb_at part 0 → Some (number, next) ≡ uleb_at part at
    → flags / 8 % 2 ≡ 0 → Some (as_value flags number) ≡ export_in part
is_value part flags at number next first second plain = sym (both_numbers part flags at number next first second ∙ rw plain refl)

-- a reexport, by what is read of its name
pub by_name : (part : List ℕ) (flags at number next : ℕ) (name : Option (List ℕ)) → Some (flags, at) ≡ uleb_at part 0
    → Some (number, next) ≡ uleb_at part at → (flags / 8 % 2 ≡ 0 → ⊥) → name ≡ ended_name (take (length part - next) (drop next part))
    → option_map (as_reexport flags number) name ≡ export_in part
by_name part flags at number next name first second set is =
    let bit : flags / 8 % 2 ≡ 1 = omega arith in
    let read : name ≡ ended_name (drop next part) = is ∙ ap ended_name (take_rest part next) in
    sym (both_numbers part flags at number next first second ∙ rw (bit, ← read) refl)

-- the whole terminal part, by the size that is read
pub no_size : (bytes : List ℕ) (at : ℕ) → None ≡ uleb_at bytes at → None ≡ terminal_at bytes at
unfolding terminal_at
no_size bytes at none = rw (← none) refl

pub too_long : (bytes : List ℕ) (at size start : ℕ) → Some (size, start) ≡ uleb_at bytes at → length bytes - start ≤ size
    → start ≤ length bytes
    → None ≡ terminal_at bytes at
unfolding terminal_at
too_long bytes at size start read long within =
    let past : nat_lt (start + size) (length bytes) ≡ false = not_below (start + size) (length bytes) (omega arith) in
    rw (← read) (rw past refl)

pub empty_part : (bytes : List ℕ) (at size start : ℕ) → Some (size, start) ≡ uleb_at bytes at → start + size < length bytes → size ≡ 0
    → Some (None, start + size) ≡ terminal_at bytes at
unfolding terminal_at terminal_between
empty_part bytes at size start read within empty =
    let test : (start == start + size) ≡ true = eq-eqb start (start + size) (omega arith) in
    rw (← read) (rw (lt-ltb (start + size) (length bytes) within) (rw test refl))

pub by_part : (bytes : List ℕ) (at size start : ℕ) (e : Option Exported) → Some (size, start) ≡ uleb_at bytes at
    → start + size < length bytes
    → (size ≡ 0 → ⊥) → e ≡ export_in (slice_range bytes start (start + size))
    → option_map (λ x. (Some x, start + size)) e ≡ terminal_at bytes at
unfolding terminal_at terminal_between
by_part bytes at size start e read within full is =
    let test : (start == start + size) ≡ false = grind (arith, nat_tests) in
    rw (← read) (rw (lt-ltb (start + size) (length bytes) within) (rw test (rw (← is) (maps e))))
  where
    maps : (e : Option Exported) → option_map (λ x. (let p : Option Exported × ℕ = (Some x, start + size) in p)) e
        ≡ option_map (λ (p : Option Exported). (p, start + size)) (option_map (λ x. Some x) e)
    maps None = refl
    maps (Some x) = refl
