-- The groups of a number, and the loops that count and write them.
--
-- The groups of n are a last group where n is below 128, else a group that goes on and the groups of n / 128; so by
-- induction they have one last group, the value n, and no zero at their end but that of a single byte: the shortest form.
-- A loop passes a group a turn, and what is left is the groups of the rest.
use Rattle.std.proofs.Common.{◌≡◌, ◌≢◌, ℕ, zero, suc, ◌+◌, ◌/◌, ◌%◌, ◌^◌, ◌-◌, ◌<◌, ◌≤◌, false, nat_lt, List, [], ◌∷◌, ◌++◌, length, get_or, take, slice_index, refl, sym, ap, subst, append_assoc, ◌∙◌, arith, inl, inr}
use Rattle.std.proofs.Math.ListN.{set}
use Rattle.std.proofs.lemmas.Bool.{cases_lt, lt-ltb}
use Rattle.std.proofs.lemmas.Bool.Decides.{nat_tests}
use Rattle.std.proofs.Math.Seq.{take-suc-set}
use Rattle.macho_bytes.specs.Uleb.{IsUleb, IsShortest, MOST_GROUPS, groups_of}

pub not_below : (a b : ℕ) → b ≤ a → nat_lt a b ≡ false
not_below a b h = grind (arith, nat_tests)

-- a number is a last group
pub groups_last : (others n : ℕ) → n < 128 → groups_of others n ≡ n ∷ []
unfolding groups_of
groups_last zero n small = refl
groups_last (suc others) n small = rw (lt-ltb n 128 small) refl

-- a number needs one group more than its 128th part
pub groups_more : (others n : ℕ) → 128 ≤ n → groups_of (suc others) n ≡ (128 + n % 128) ∷ groups_of others (n / 128)
unfolding groups_of
groups_more others n big = rw (not_below n 128 big) refl

-- a number fits a last group behind so many others
unfoldable pub FitsGroups : ℕ → ℕ → Type 0
FitsGroups zero n = n < 128
FitsGroups (suc others) n = FitsGroups others (n / 128)

pub fits-last : (n : ℕ) → FitsGroups zero n → n < 128
unfolding FitsGroups
fits-last n fits = fits

pub fits-more : (others n : ℕ) → FitsGroups (suc others) n → FitsGroups others (n / 128)
unfolding FitsGroups
fits-more others n fits = fits

-- the last of a longer list
last_of : (b : ℕ) (text : List ℕ) → 1 ≤ length text → slice_index (b ∷ text) (length (b ∷ text) - 1) ≡ slice_index text (length text - 1)
last_of b text some =
    let same : length (b ∷ text) - 1 ≡ suc (length text - 1) = omega arith in
    ap (λ (i : ℕ). get_or (b ∷ text) i 0) same

one_group : (b : ℕ) → b < 128 → IsUleb (b ∷ [])
one_group b small = record { some = omega arith; goes_on = λ k h. absurd (omega arith); ends = small }

one_group_more : (b : ℕ) (text : List ℕ) → 128 ≤ b → IsUleb text → IsUleb (b ∷ text)
one_group_more b text big u =
    record { some = omega arith; goes_on = each; ends = omega (arith, last_of b text u.some, u.ends) }
  where
    each : (k : ℕ) → k + 1 < length (b ∷ text) → 128 ≤ slice_index (b ∷ text) k
    each zero h = big
    each (suc k) h = u.goes_on k (omega arith)

-- the shortest form of a number above 0 does not end in zero
ends_above : (text : List ℕ) (n : ℕ) → IsShortest text n → 1 ≤ n → slice_index text (length text - 1) ≢ 0
ends_above [] n s some zero_last = absurd (omega (arith, s.form.some))
ends_above (b ∷ []) n s some zero_last = absurd (omega (arith, s.value, zero_last))
ends_above (b ∷ c ∷ text) n s some zero_last = s.least (omega arith) zero_last

-- the groups of a number are its shortest form
pub groups-shortest : (others n : ℕ) → FitsGroups others n → IsShortest (groups_of others n) n
unfolding groups_of FitsGroups
groups-shortest zero n fits = record { form = one_group n fits; value = omega arith; least = λ h. absurd (omega arith) }
groups-shortest (suc others) n fits =
    elim (cases_lt n 128) [
      | inl small ↦ rw (groups_last (suc others) n small)
          (record { form = one_group n small; value = omega arith; least = λ h. absurd (omega arith) })
      | inr big ↦
          let rest = groups-shortest others (n / 128) fits in
          rw (groups_more others n big) (record {
            form = one_group_more (128 + n % 128) (groups_of others (n / 128)) (omega arith) rest.form;
            value = omega (arith, rest.value);
            least = λ h zero_last.
                ends_above (groups_of others (n / 128)) (n / 128) rest (omega arith)
                (sym (last_of (128 + n % 128) (groups_of others (n / 128)) rest.form.some) ∙ zero_last);
          })
    ]

-- a number has one group at least, and one behind so many others at most
pub length-groups : (others n : ℕ) → (1 ≤ length (groups_of others n)) × (length (groups_of others n) ≤ others + 1)
unfolding groups_of
length-groups zero n = (omega arith, omega arith)
length-groups (suc others) n =
    elim (cases_lt n 128) [
      | inl small ↦ rw (groups_last (suc others) n small) (omega arith, omega arith)
      | inr big ↦ let rest = length-groups others (n / 128) in rw (groups_more others n big) (omega arith, omega (arith, rest.1))
    ]

-- a greater number has no fewer groups
pub groups-grow : (others m n : ℕ) → m ≤ n → length (groups_of others m) ≤ length (groups_of others n)
unfolding groups_of
groups-grow zero m n le = omega arith
groups-grow (suc others) m n le =
    elim (cases_lt m 128) [
      | inl small ↦ let some = length-groups (suc others) n in rw (groups_last (suc others) m small) (omega (arith, some.0))
      | inr big ↦
          let rest = groups-grow others (m / 128) (n / 128) (omega arith) in
          rw (groups_more others m big, groups_more others n (omega arith)) (omega arith)
    ]

-- a number of 64 bits fits ten groups
pub fits-ten : (n : ℕ) → n < 2 ^ 64 → FitsGroups (MOST_GROUPS - 1) n
unfolding FitsGroups
fits-ten n fits = omega arith

-- one step of a loop over the groups of a number: so many are left, of which one is passed
pub size-step : (left next size rest whole : ℕ) → left ≡ suc next → 128 ≤ rest → whole + 1 ≡ size + length (groups_of left rest)
    → whole + 1 ≡ size + 1 + length (groups_of next (rest / 128))
size-step left next size rest whole is big so_far =
    omega (arith, so_far, ap (λ (k : ℕ). length (groups_of k rest)) is, ap length (groups_more next rest big))

-- the same of a loop that writes them
pub write-step : (left next count rest : ℕ) (whole groups : List ℕ) → left ≡ suc next → 128 ≤ rest → count < length groups
    → FitsGroups left rest
    → whole ≡ take count groups ++ groups_of left rest
    → (whole ≡ take (count + 1) (set groups count (128 + rest % 128)) ++ groups_of next (rest / 128)) × FitsGroups next (rest / 128)
write-step left next count rest whole groups is big within fits so_far = (
  so_far ∙ ap (λ (t : List ℕ). take count groups ++ t) more
      ∙ sym (append_assoc (take count groups) ((128 + rest % 128) ∷ []) (groups_of next (rest / 128)))
      ∙ ap (λ (t : List ℕ). t ++ groups_of next (rest / 128)) (sym (written (128 + rest % 128))),
  fits-more next rest (subst (λ (k : ℕ). FitsGroups k rest) is fits),
)
  where
    more : groups_of left rest ≡ (128 + rest % 128) ∷ groups_of next (rest / 128)
    more = ap (λ (k : ℕ). groups_of k rest) is ∙ groups_more next rest big

    written : (b : ℕ) → take (count + 1) (set groups count b) ≡ take count groups ++ (b ∷ [])
    written b = let next_is : count + 1 ≡ suc count = omega arith in ap (λ (k : ℕ). take k (set groups count b)) next_is
        ∙ take-suc-set groups count b within

-- the last group is written
pub write-ends : (left count rest : ℕ) (whole groups : List ℕ) → rest < 128 → count < length groups
    → whole ≡ take count groups ++ groups_of left rest
    → take (count + 1) (set groups count rest) ≡ whole
write-ends left count rest whole groups small within so_far =
    let next_is : count + 1 ≡ suc count = omega arith in
    ap (λ (k : ℕ). take k (set groups count rest)) next_is ∙ take-suc-set groups count rest within
    ∙ ap (λ (t : List ℕ). take count groups ++ t) (sym (groups_last left rest small)) ∙ sym so_far
