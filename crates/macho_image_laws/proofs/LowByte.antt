-- The type in the flags of an output section is that of its key.
--
-- The low byte of joined numbers is the low bytes joined, and a byte that is joined with itself is itself. The flags that are kept
-- hold the whole low byte.
use Rattle.std.proofs.Common.{◌≡◌, ℕ, ◌%◌, ◌<◌, ◌==◌, List, [], ◌∷◌, map, fold, bit_and, bit_or, ap, ◌∙◌, arith}
use Rattle.std.specs.Prelude.{Contains}
use Rattle.std.proofs.lemmas.Bool.{and_parts, eqb-true}
use Rattle.std.specs.Int.Bits.{xor_self, xor_add_and, or_add_and}
use Rattle.std.proofs.lemmas.Nat.{and_mask, and_mod, or_mod}
use Rattle.macho_model.specs.Links.{Link, SectionId, header_at, carried_of}
use Rattle.macho_model.specs.Segments.{OutputKey, same_key, key_of}
use Rattle.macho_model.specs.OutputSections.{KEPT_FLAGS, flags_of_key}
use Rattle.macho_model.specs.steps.Outputs.{members_of}
use Rattle.macho_bytes.proofs.Members.{contains_first, contains_later, filter_contains}

or_same : (t : ℕ) → bit_or t t ≡ t
or_same t = omega (arith, xor_self t, xor_add_and t t, or_add_and t t)

-- joined numbers of one low byte have it too
joined : (t a : ℕ) (s : List SectionId) (f : SectionId → ℕ) → a % 256 ≡ t → ((x : SectionId) → Contains s x → f x % 256 ≡ t)
    → fold bit_or a (map f s) % 256 ≡ t
joined t a [] f first each = first
joined t a (x ∷ s) f first each =
    joined t (bit_or a (f x)) s f
    (or_mod a (f x) 8 ∙ ap (λ (n : ℕ). bit_or n (f x % 256)) first ∙ ap (bit_or t) (each x (contains_first x s)) ∙ or_same t)
    (λ y there. each y (contains_later x s y there))

kept : (n : ℕ) → bit_and n KEPT_FLAGS % 256 ≡ n % 256
kept n = and_mod n KEPT_FLAGS 8 ∙ and_mask (n % 256) 8 ∙ omega arith

-- THE type
pub type_is : (l : Link) (key : OutputKey) → key.type < 256 → flags_of_key l key % 256 ≡ key.type
type_is l key small =
    kept (fold bit_or key.type (map (λ s. (header_at l s).flags) (members_of l key)))
    ∙ joined key.type key.type (members_of l key) (λ s. (header_at l s).flags) (omega arith) (λ s there.
    let same = (filter_contains (λ (t : SectionId). same_key (key_of (header_at l t)) key) (carried_of l) s there).1 in
    eqb-true (key_of (header_at l s)).type key.type
    (and_parts _ ((key_of (header_at l s)).type == key.type) same).1)
