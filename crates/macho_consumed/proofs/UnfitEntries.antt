-- Relocations of an entry that stand where none may, and what is told of an entry.
--
-- One that stands at no multiple of 8, or is no plain pointer, fails the test of each relocation of its entry. Where several stand at
-- one address, the entry has too many there; at 8 of an entry already one is too many.
use Rattle.std.proofs.Common.{◌≡◌, ◌≢◌, ℕ, ◌+◌, ◌*◌, ◌/◌, ◌%◌, ◌<◌, ◌≤◌, inl, inr, eqb, eq-eqb, false, ◌==◌, ◌&&◌, ◌||◌, List, [], ◌∷◌, length, filter, nat_le, refl, sym, ap, subst, arith}
use Rattle.std.proofs.lemmas.Bool.Decides.{nat_tests}
use Rattle.std.proofs.lemmas.Bool.{eqb-true}
use Rattle.std.specs.List.{range_with_len, list_any, Contains}
use Rattle.macho_model.specs.declared.rules.UnwindRule.{UnwindRule}
use Rattle.macho_model.specs.declared.rules.UnwindRule.TheVariants.{U1, U2, U3, U4, U5, U6, U7, U8}
use Rattle.macho_symbols.specs.Kept.{ResolvedRows}
use Rattle.macho_consumed.specs.declared.fault.ConsumedFault.{ConsumedFault}
use Rattle.macho_consumed.specs.declared.fault.ConsumedFault.TheVariants.{BadUnwind}
use Rattle.macho_consumed.specs.declared.places.Cell.{Cell}
use Rattle.macho_consumed.specs.declared.places.Cell.TheVariants.{Empty, One, Several}
use Rattle.macho_model.specs.Objects.{section_at, relocation_at}
use Rattle.macho_model.specs.Consumed.{is_plain_pointer, START_PLACE, ADDRESS_PLACES, keeps}
use Rattle.macho_model.specs.Needs.{PERSONALITY_PLACE}
use Rattle.macho_consumed.specs.steps.Alone.{alone, own}
use Rattle.macho_consumed.specs.steps.Places.{CellTells, IsBetween}
use Rattle.macho_consumed.specs.steps.Entries.{unwind_relocation_fits, SectionBreaksRule, EntryBreaks, PointersBreak, IsAddress, IsBadUnwind, at_place}
use Rattle.macho_consumed.proofs.Members.{in_filter}
use Rattle.macho_consumed.proofs.Tests.{one_fails, not_true}
use Rattle.macho_consumed.proofs.InEntries.{between_of}
use Rattle.macho_bytes.proofs.Bools.{and_left_false}
use Rattle.macho_bytes.proofs.Members.{contains_first, contains_filter, contains_range, range_contains}
use Rattle.macho_model.proofs.FixedPointers.{none_and}

-- a relocation of an entry, and one that fits nowhere
in_its_entry : (b : List ℕ) (k r : ℕ) → r < (section_at b k).nreloc
    → Contains (filter (λ q. eqb ((relocation_at b k q).r_address / 32) ((relocation_at b k r).r_address / 32)) (range_with_len 0
    (section_at b k).nreloc)) r
in_its_entry b k r lt =
    contains_filter (λ q. eqb ((relocation_at b k q).r_address / 32) ((relocation_at b k r).r_address / 32)) (range_with_len 0
    (section_at b k).nreloc) r
    (contains_range (section_at b k).nreloc r lt) (eq-eqb _ _ refl)

unfit_breaks : (b : List ℕ) (k r : ℕ) → r < (section_at b k).nreloc → unwind_relocation_fits (alone b) (own k) r ≡ false
    → keeps (alone b) (own k) ((relocation_at b k r).r_address / 32) U2 ≡ false
unfit_breaks b k r lt fails =
    one_fails (unwind_relocation_fits (alone b) (own k))
    (filter (λ q. eqb ((relocation_at b k q).r_address / 32) ((relocation_at b k r).r_address / 32)) (range_with_len 0
    (section_at b k).nreloc)) r
    (in_its_entry b k r lt) fails

off_places : (a : ℕ) → eqb (a % 8) 0 ≡ false → list_any (λ p. a % 32 == p) ADDRESS_PLACES ≡ false
off_places a off =
    let odd : a % 8 ≢ 0 = grind (arith, nat_tests, off) in
    let x : eqb (a % 32) 0 ≡ false = not_true _ (λ e. let z : a % 32 ≡ 0 = eqb-true _ _ e in odd (omega (arith, z))) in
    let y : eqb (a % 32) 16 ≡ false = not_true _ (λ e. let z : a % 32 ≡ 16 = eqb-true _ _ e in odd (omega (arith, z))) in
    let w : eqb (a % 32) 24 ≡ false = not_true _ (λ e. let z : a % 32 ≡ 24 = eqb-true _ _ e in odd (omega (arith, z))) in
    rw (x, y, w) refl

-- what is told of an entry
pub bad_at : (r : ResolvedRows) (b : List ℕ) (file k e : ℕ) (rule : UnwindRule) (said : ConsumedFault)
    → SectionBreaksRule r b file k e rule → said ≡ BadUnwind file k e rule → IsBadUnwind r b file k said
bad_at r b file k e rule said breaks told = subst (IsBadUnwind r b file k) (sym told) (refl, refl, breaks)

-- a relocation between places

pub between_breaks : (r : ResolvedRows) (b : List ℕ) (file k n a : ℕ) (said : ConsumedFault) → n < (section_at b k).size / 32
    → IsBetween b k (section_at b k).nreloc a → a < 32 * (n + 1) → said ≡ BadUnwind file k (a / 32) U2 → IsBadUnwind r b file k said
between_breaks r b file k n a said within (q, lt, at, off) below told =
    let misplaced : unwind_relocation_fits (alone b) (own k) q ≡ false =
    none_and (is_plain_pointer (relocation_at b k q)) _ (off_places (relocation_at b k q).r_address (subst (λ (m : ℕ). eqb
    (m % 8) 0 ≡ false) at off)) in
    bad_at r b file k (a / 32) U2 said (
      omega (arith, within, below),
      subst (λ (m : ℕ). keeps (alone b) (own k) (m / 32) U2 ≡ false) (sym at) (unfit_breaks b k q lt misplaced),
    ) told

-- one that is no plain pointer
pub unfit_at : (b : List ℕ) (k e place r : ℕ) → CellTells (at_place b k e place) (One r) → place < 32
    → is_plain_pointer (relocation_at b k r) ≡ false → PointersBreak b k e U2
unfit_at b k e place r one small unfit =
    let there : Contains (at_place b k e place) r = subst (λ (xs : List ℕ). Contains xs r) (sym one) (contains_first r []) in
    let hit = in_filter (λ q. eqb (relocation_at b k q).r_address (32 * e + place)) (range_with_len 0 (section_at b k).nreloc) r there in
    let address : (relocation_at b k r).r_address ≡ 32 * e + place = eqb-true _ _ hit.0 in
    let entry : (relocation_at b k r).r_address / 32 ≡ e = omega (arith, address, small) in
    let fails : unwind_relocation_fits (alone b) (own k) r ≡ false = rw unfit refl in
    inl (refl, subst (λ (m : ℕ). keeps (alone b) (own k) m U2 ≡ false) entry (unfit_breaks b k r (range_contains _ r hit.1) fails))

-- one at 8 of an entry
pub some_at_eight : (b : List ℕ) (k e : ℕ) (cell : Cell) → CellTells (at_place b k e 8) cell → cell ≢ Empty → PointersBreak b k e U2
some_at_eight b k e Empty tells some = absurd (some refl)
some_at_eight b k e (One r) tells some = inl (
  refl,
  between_of b k e r
      (subst (λ (xs : List ℕ). Contains xs r) (sym tells) (contains_first r [])),
)
some_at_eight b k e Several tells some = inl (refl, of_list _ refl tells)
  where
    of_list : (xs : List ℕ) → at_place b k e 8 ≡ xs → 2 ≤ length (at_place b k e 8) → keeps (alone b) (own k) e U2 ≡ false
    of_list [] is two = absurd (omega (arith, two, ap length is))
    of_list (r ∷ rs) is two = between_of b k e r (subst (λ (xs : List ℕ). Contains xs r) (sym is) (contains_first r rs))

-- several at an address
few_fails : (n : ℕ) → 2 ≤ n → nat_le n 1 ≡ false
few_fails n two = grind (arith, nat_tests, two)

pub several_at : (b : List ℕ) (k e place : ℕ) → IsAddress place → CellTells (at_place b k e place) Several → PointersBreak b k e U3
several_at b k e place address two = inr (refl, by address)
  where
    by : IsAddress place → keeps (alone b) (own k) e U3 ≡ false
    by (inl is) = rw (few_fails (length (at_place b k e START_PLACE)) (subst (λ (p : ℕ). 2 ≤ length (at_place b k e p)) is two)) refl
    by (inr (inl is)) =
        none_and (nat_le (length (at_place b k e START_PLACE)) 1) _
        (and_left_false _ _ (few_fails _ (subst (λ (p : ℕ). 2 ≤ length (at_place b k e p)) is two)))
    by (inr (inr is)) =
        none_and (nat_le (length (at_place b k e START_PLACE)) 1) _
        (none_and (nat_le (length (at_place b k e PERSONALITY_PLACE)) 1) _
        (and_left_false _ _ (few_fails _ (subst (λ (p : ℕ). 2 ≤ length (at_place b k e p)) is two))))
