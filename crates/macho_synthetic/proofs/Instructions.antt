-- A section with functions is merged with others into an output section that has instructions.
--
-- Flags are joined bit by bit, so what one of them has, the joined ones have, and taking away flags of relocations leaves it.
use Rattle.std.proofs.Common.{◌≡◌, ℕ, ◌/◌, ◌≤◌, inl, inr, ◌==◌, not, Bool, true, false, eq-eqb, List, [], ◌∷◌, ◌++◌, map, refl, sym, ap, ◌∙◌, arith}
use Rattle.std.specs.Prelude.{Contains, fold, bit_and, bit_or, length}
use Rattle.std.specs.Str.{bytes_eq}
use Rattle.std.proofs.lemmas.Bool.{eqb-true}
use Rattle.std.proofs.lemmas.Nat.{or_comm, or_shr}
use Rattle.std.proofs.lemmas.List.Elements.{Contains-append_left}
use lib.Bits.{and_step, or_step, and_zero_r}
use lib.Arith.{bin_ind}
use Rattle.macho_bytes.proofs.Members.{contains_cases, nil_contains, contains_map, contains_filter}
use Rattle.macho_records.specs.Sections.{has_instructions}
use Rattle.macho_model.specs.Links.{Link, SectionId, header_at, carried_of}
use Rattle.macho_model.specs.Resolution.{chosen_commons}
use Rattle.macho_model.specs.Consumed.{holds_functions}
use Rattle.macho_model.specs.Segments.{TEXT, OutputKey, same_key, key_of, common_key, output_keys_of, list_if}
use Rattle.macho_model.specs.OutputSections.{is_zeros, is_code}
use Rattle.macho_model.specs.steps.Outputs.{members_of}
use Rattle.macho_layout.proofs.CostLaw.{key-decides}
use Rattle.macho_layout_laws.proofs.Flags.{instructions_kept}
use Rattle.macho_image_laws.proofs.Distinct.{in_distinct}
use Rattle.macho_bytes.proofs.Bools.{and_left, and_right, and_both}

-- joining leaves bits
and_below : (m a b : ℕ) → bit_and a m ≤ bit_and (bit_or a b) m
and_below =
    bin_ind (λ (m : ℕ). (a b : ℕ) → bit_and a m ≤ bit_and (bit_or a b) m) (λ a b. omega (arith, and_zero_r a, and_zero_r (bit_or a b)))
    (λ m ih a b.
    let half : bit_and (bit_or a b / 2) (m / 2) ≡ bit_and (bit_or (a / 2) (b / 2)) (m / 2) = ap (λ x. bit_and x (m / 2)) (or_shr a b 1) in
    omega (arith, and_step (bit_or a b) m, and_step a m, half, ih (a / 2) (b / 2), or_step a b))

abbrev MASK : ℕ
MASK = 2147484672

some_left : (a b : ℕ) → has_instructions a ≡ true → has_instructions (bit_or a b) ≡ true
some_left a b has = by (bit_and (bit_or a b) MASK == 0) refl
  where
    by : (x : Bool) → (bit_and (bit_or a b) MASK == 0) ≡ x → has_instructions (bit_or a b) ≡ true
    by true e =
        let zero : bit_and (bit_or a b) MASK ≡ 0 = eqb-true _ _ e in
        let none : (bit_and a MASK == 0) ≡ true = eq-eqb _ _ (omega (arith, zero, and_below MASK a b)) in
        let clash : false ≡ true = sym (ap not none) ∙ has in
        cc
    by false e = ap not e

some_right : (a b : ℕ) → has_instructions b ≡ true → has_instructions (bit_or a b) ≡ true
some_right a b has = ap has_instructions (or_comm a b) ∙ some_left b a has

-- a list of flags
fold_first : (a : ℕ) (ns : List ℕ) → has_instructions a ≡ true → has_instructions (fold bit_or a ns) ≡ true
fold_first a [] has = has
fold_first a (n ∷ ns) has = fold_first (bit_or a n) ns (some_left a n has)

fold_some : (a : ℕ) (ns : List ℕ) (n : ℕ) → Contains ns n → has_instructions n ≡ true → has_instructions (fold bit_or a ns) ≡ true
fold_some a [] n there has = absurd (nil_contains n there)
fold_some a (m ∷ ns) n there has = elim (contains_cases m ns n there) [
  | inl same ↦ fold_first (bit_or a m) ns (some_right a m (ap has_instructions same ∙ has))
  | inr later ↦ fold_some (bit_or a m) ns n later has
]

-- THE keys of functions' sections
pub key_is_code : (l : Link) (s : SectionId) → Contains (carried_of l) s → holds_functions l s ≡ true
    → is_code l (key_of (header_at l s)) ≡ true
key_is_code l s carried holds =
    let key : OutputKey = key_of (header_at l s) in
    let filled : not (is_zeros key) ≡ true = and_right _ _ holds in
    let own : has_instructions (header_at l s).flags ≡ true = and_right _ _ (and_left _ _ (and_left _ _ holds)) in
    let member : Contains (members_of l key) s =
    contains_filter (λ t. same_key (key_of (header_at l t)) key) (carried_of l) s carried ((key-decides key key).1 refl) in
    let joined = fold_some key.type (map (λ t. (header_at l t).flags) (members_of l key)) (header_at l s).flags
    (contains_map (λ (t : SectionId). (header_at l t).flags) (members_of l key) s member) own in
    and_both _ _ filled (instructions_kept (fold bit_or key.type (map (λ t. (header_at l t).flags) (members_of l key))) ∙ joined)

pub key_in_text : (l : Link) (s : SectionId) → holds_functions l s ≡ true → bytes_eq (key_of (header_at l s)).segment TEXT ≡ true
key_in_text l s holds = and_right _ _ (and_left _ _ holds)

pub key_listed : (l : Link) (s : SectionId) → Contains (carried_of l) s → Contains (output_keys_of l) (key_of (header_at l s))
unfolding output_keys_of
key_listed l s carried =
    let keys : List OutputKey = map (λ t. key_of (header_at l t)) (carried_of l) in
    let commons : List OutputKey = list_if (not (length (chosen_commons l) == 0)) (common_key ∷ []) in
    in_distinct same_key (λ a b. (key-decides a b).0) (keys ++ commons) (key_of (header_at l s))
    (Contains-append_left keys commons (key_of (header_at l s))
    (contains_map (λ (t : SectionId). key_of (header_at l t)) (carried_of l) s carried))
