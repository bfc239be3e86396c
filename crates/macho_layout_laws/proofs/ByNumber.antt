-- Addresses by number.
--
-- Commons are listed by number, so the first with a number stands at that place. Slots are listed as the link's targets, so the first
-- with a
-- target stands where the target stands first among these.
use Rattle.std.proofs.Common.{◌≡◌, ℕ, zero, suc, ◌+◌, ◌==◌, ◌&&◌, Bool, true, false, cond, not, List, [], ◌∷◌, map, filter, length, get_or, drop, refl, sym, ap, ◌∙◌, arith}
use Rattle.std.specs.List.{position_or_len, range_with_len}
use Rattle.std.proofs.lemmas.Bool.{eq-eqb, ne_eqb}
use Rattle.macho_model.specs.declared.placed.PlacedCommon.{PlacedCommon}
use Rattle.macho_model.specs.declared.placed.Slot.{Slot}
use Rattle.macho_model.specs.declared.targets.Target.{Target}
use Rattle.macho_model.specs.declared.targets.Target.TheVariants as target
use Rattle.macho_model.specs.Targets.{same_target}
use Rattle.macho_model.specs.Lists.{of_first}
use Rattle.macho_model.specs.Addresses.{common_address, slot_address}
use Rattle.macho_layout_laws.proofs.Places.{place_agree}
use Rattle.macho_layout_laws.specs.Laws.{CommonsByNumber, SlotsByNumber}
use Rattle.macho_bytes.proofs.Maps.{place_told}
use Rattle.macho_bytes.proofs.Comparing.{eq_turn}

same_turn : (t u : Target) → same_target t u ≡ same_target u t
same_turn (target.Section f s o) (target.Section g t p) =
    ap (λ (x : Bool). x && (s == t) && (o == p)) (eq_turn f g) ∙ ap (λ (x : Bool). (g == f) && x && (o == p)) (eq_turn s t) ∙ ap
    (λ (x : Bool). (g == f) && (t == s) && x) (eq_turn o p)
same_turn (target.Common i) (target.Common j) = eq_turn i j
same_turn (target.Import i) (target.Import j) = eq_turn i j
same_turn target.Base target.Base = refl
same_turn (target.Absolute v) (target.Absolute w) = eq_turn v w
same_turn target.None target.None = refl
same_turn t u = refl

-- the first number that a filter keeps
pub first_kept : {X : Type 0} (f : X → ℕ) (t : X → Bool) (xs : List X) → of_first 0 f (filter t xs) ≡ get_or (map f xs)
    (position_or_len t xs) 0
first_kept f t [] = refl
first_kept {X} f t (x ∷ xs) = by (first_kept f t xs) (t x)
  where
    by : of_first 0 f (filter t xs) ≡ get_or (map f xs) (position_or_len t xs) 0 → (b : Bool)
        → of_first 0 f (cond b (x ∷ filter t xs) (filter t xs)) ≡ get_or (f x ∷ map f xs)
        (cond (not b) (1 + position_or_len t xs) 0) 0
    by rest true = refl
    by rest false = let e : suc (position_or_len t xs) ≡ 1 + position_or_len t xs = omega arith in rest ∙ ap
        (λ (n : ℕ). get_or (f x ∷ map f xs) n 0) e

-- numbers from k on
listed : (k n j : ℕ) (cs : List PlacedCommon) → map (λ c. c.id) cs ≡ range_with_len k n
    → of_first 0 (λ c. c.address) (filter (λ c. c.id == k + j) cs) ≡ get_or (map (λ c. c.address) cs) j 0
listed k n j [] is = refl
listed k zero j (c ∷ cs) is = let e = ap length is in absurd (omega (arith, e))
listed k (suc n) zero (c ∷ cs) is =
    let head : c.id ≡ k = ap (λ (ns : List ℕ). get_or ns 0 c.id) is in
    let here : (c.id == k + 0) ≡ true = eq-eqb c.id (k + 0) (omega (arith, head)) in
    ap (λ (b : Bool). of_first 0 (λ c. c.address) (cond b (c ∷ filter (λ c. c.id == k + 0) cs) (filter (λ c. c.id == k + 0) cs)))
    here
listed k (suc n) (suc j) (c ∷ cs) is =
    let head : c.id ≡ k = ap (λ (ns : List ℕ). get_or ns 0 c.id) is in
    let tail : map (λ c. c.id) cs ≡ range_with_len (k + 1) n = ap (λ (ns : List ℕ). drop 1 ns) is in
    let other : (c.id == k + suc j) ≡ false = ne_eqb c.id (k + suc j) (λ e. omega (arith, e, head)) in
    let next : k + 1 + j ≡ k + suc j = omega arith in
    ap (λ (b : Bool). of_first 0 (λ c. c.address) (cond b (c ∷ filter (λ c. c.id == k + suc j) cs)
    (filter (λ c. c.id == k + suc j) cs))) other
    ∙ ap (λ (m : ℕ). of_first 0 (λ c. c.address) (filter (λ c. c.id == m) cs)) (sym next) ∙ listed (k + 1) n j cs tail

pub commons_by_number : CommonsByNumber
unfolding common_address
commons_by_number l counts q h id =
    let zero_first : id ≡ 0 + id = omega arith in
    ap (λ (m : ℕ). of_first 0 (λ c. c.address) (filter (λ c. c.id == m) q.commons)) zero_first
    ∙ listed 0 _ id q.commons h.order.commons

pub slots_by_number : SlotsByNumber
unfolding slot_address
slots_by_number l counts q h t =
    first_kept (λ (s : Slot). s.address) (λ (s : Slot). same_target s.target t) q.slots
    ∙ ap (λ (n : ℕ). get_or (map (λ (s : Slot). s.address) q.slots) n 0)
    (place_agree (λ (s : Slot). same_target s.target t) (λ (s : Slot). same_target t s.target) q.slots
    (λ k d low. same_turn (get_or q.slots k d).target t)
    ∙ place_told (same_target t) (λ (s : Slot). s.target) q.slots ∙ ap (position_or_len (same_target t)) h.placed.whole_list.slots)
