-- What written stubs and asked slots are, by a placement, and that a refusal of one stands.
--
-- A stub's slot is behind it and within reach, or else a page's way does not reach it. A slot's target has one address, below
-- 2 ^ 64, so the fixup's value is that address.
use Rattle.std.proofs.Common.{◌≡◌, ℕ, ◌+◌, ◌*◌, ◌%◌, ◌^◌, ◌<◌, ◌≤◌, true, false, List, [], ◌∷◌, ◌++◌, map, Contains, get_or, refl, sym, ap, subst, ◌∙◌, arith, inl, inr, length}
use Rattle.std.specs.Prelude.{slice_range, nat_lt}
use Rattle.std.proofs.lemmas.Bool.{cases_lt}
use Rattle.std.proofs.lemmas.Bool.Decides.{nat_tests}
use Rattle.std.proofs.lemmas.List.Elements.{Contains-get_or}
use Rattle.std.proofs.lemmas.List.{length-map, get_or-map}
use Rattle.std.proofs.Math.Seq.{take-length}
use Rattle.macho_bytes.specs.Numbers.{page}
use Rattle.macho_model.specs.declared.placed.Slot.{Slot}
use Rattle.macho_model.specs.declared.placed.Stub.{Stub}
use Rattle.macho_model.specs.declared.targets.Target.{Target}
use Rattle.macho_model.specs.declared.targets.Target.TheVariants as target
use Rattle.macho_model.specs.Lists.{IsNumber}
use Rattle.macho_model.specs.Links.{Link}
use Rattle.macho_model.specs.Targets.{slots_of}
use Rattle.macho_model.specs.Meaning.{address}
use Rattle.macho_model.specs.Placement.{Placed}
use Rattle.macho_model.specs.Addresses.{address_of, slot_address}
use Rattle.macho_model.specs.Values.{BadRange, BadRebase, less, page_reaches, IsNotEncodable}
use Rattle.macho_fixups.specs.declared.run.Fixup.{Fixup}
use Rattle.macho_fixups.specs.declared.words.FixupKind.{FixupKind}
use Rattle.macho_promise.specs.Filled.{StubIsSet}
use Rattle.macho_promise.specs.Asked.{slot_fixup}
use Rattle.macho_fields.specs.declared.fault.FillFault.{FillFault}
use Rattle.macho_fields.specs.declared.fault.FillFault.TheVariants.{Range, Rebase, Place, Unsupported, OutOfMemory}
use Rattle.macho_fields.specs.Looks.{Look, Tells, TellsAddresses}
use Rattle.macho_fields.specs.Faults.{FillStands}
use Rattle.macho_fields.specs.Through.{StubsAreFound, StubsAreSet, NoStubIsFar, SlotsAreFound, EachSlotFits}
use Rattle.macho_fields.specs.steps.Fields.{is_encodable}
use Rattle.macho_fields.specs.steps.Stubs.{slot_in, IsOutOfReach, IsNoStub, StubsStand, IsSomeStub, slot_asked, SlotsAsked, CannotAskSlot}
use Rattle.macho_fields.proofs.Placing.{stands_at, stands_only, slot_looked, slot_looked_only}
use Rattle.macho_fields.proofs.Reaching.{slot_aligned}
use Rattle.macho_fields.proofs.Asked.{kind_same, encodable_is, not_encodable}
use Rattle.macho_bytes.proofs.Bools.{true_or_false}
use Rattle.macho_arm64.proofs.ReachLaws.{out_of_33}
use Rattle.macho_bytes.proofs.Comparing.{read_alike}

-- the stubs are set
pub stubs_set : (p : Placed) (look : Look) (stubs : List Stub) (out : List ℕ) → TellsAddresses p look → StubsAreFound p → stubs ≡ p.stubs
    → StubsStand look stubs (length stubs) out → StubsAreSet p stubs out
stubs_set p look stubs out tells found same stand k d lt =
    let s = get_or stubs k d in
    let b = stand k d lt in
    let there : Contains p.stubs s = subst (λ (xs : List Stub). Contains xs s) same (Contains-get_or stubs k d lt) in
    let text : slice_range out (12 * k) (12 * k + 12) ≡ b.text =
    ap (λ (n : ℕ). slice_range out (12 * k) (12 * k + n)) (sym b.is.long) ∙ b.stands.same in
    let set : StubIsSet p s b.text =
    record {
      long = b.is.long;
      slot = slot_in look s;
      at = slot_looked p look (target.Import s.import) tells found.once
          (found.slots s there);
      through = b.is.through;
    } in
    subst (StubIsSet p s) (sym text) set

-- a slot behind a stub, and near its page, is in reach
near_reaches : (place slot : ℕ) → place < slot → slot < page place + 2 ^ 32 → page_reaches place slot ≡ true
near_reaches place slot behind near =
    let v = less (page (address slot)) (page place) in
    let small : v % 2 ^ 64 < 2 ^ 32 = omega arith in
    let test : nat_lt (v % 2 ^ 64) (2 ^ 32) ≡ true = grind (arith, nat_tests) in
    rw test refl

too_far : (place slot : ℕ) → page place + 2 ^ 32 ≤ slot → slot + 2 ^ 32 < 2 ^ 64 + page place → page_reaches place slot ≡ false
too_far place slot far low = out_of_33 (less (page (address slot)) (page place)) (omega arith) (omega arith)

-- none is far
pub none_far : (l : Link) (p : Placed) (look : Look) (stubs : List Stub) (out : List ℕ) → TellsAddresses p look → StubsAreFound p
    → stubs ≡ p.stubs
    → StubsStand look stubs (length stubs) out → NoStubIsFar l p
none_far l p look stubs out tells found same stand = record {
  none = λ index bad.
      let s = bad.0 in
      let lt : index < length stubs = subst (λ (xs : List Stub). index < length xs) (sym same) bad.2.0 in
      let is : get_or stubs index s ≡ s = ap (λ (xs : List Stub). get_or xs index s) same ∙ bad.2.1 in
      let through = (stand index s lt).is in
      let near : IsOutOfReach look s → ⊥ = subst (λ (t : Stub). IsOutOfReach look t → ⊥) is through.near in
      let there : Contains p.stubs s = (index, bad.2.0, bad.2.1) in
      let x = slot_looked_only p look (target.Import s.import) bad.1 tells found.once bad.3 in
      let slot = bad.3.0 in
      let address : bad.1 ≡ slot.address = omega (arith, bad.3.3) in
      let behind : s.address < slot_in look s = subst (λ (n : ℕ). s.address < n) (sym address ∙ x) (found.behind s slot there bad.3.1) in
      elim (cases_lt (slot_in look s) (page s.address + 2 ^ 32)) [
        | inl close ↦
            true_or_false (page_reaches s.address (slot_in look s)) (near_reaches s.address (slot_in look s) behind close)
            (ap (page_reaches s.address) (sym x) ∙ bad.4)
        | inr far ↦ near (inr far)
      ];
}

no_stub : Stub
no_stub = record { import = 0; address = 0; slot = 0 }

-- a refused stub is far
pub stub_stands : (l : Link) (p : Placed) (look : Look) (stubs : List Stub) (fault : FillFault) → TellsAddresses p look → StubsAreFound p
    → stubs ≡ p.stubs
    → IsSomeStub look stubs fault → FillStands l p fault
stub_stands l p look stubs fault tells found same some = by fault (some.is no_stub)
  where
    s : Stub
    s = get_or stubs some.number no_stub

    there : Contains p.stubs s
    there = subst (λ (xs : List Stub). Contains xs s) same (Contains-get_or stubs some.number no_stub some.among)

    number : IsNumber p.stubs some.number s
    number =
        subst (λ (xs : List Stub). IsNumber xs some.number s) same (some.among, read_alike stubs some.number s no_stub some.among)

    slot : ℕ
    slot = slot_in look s

    told : slot ≡ (found.slots s there).0.address
    told = let at = slot_looked p look (target.Import s.import) tells found.once (found.slots s there) in
        tells.slots (target.Import s.import) ∙ sym (ap (slot_address p) (found.slots s there).2)
        ∙ found.once.slots (found.slots s there).0 (found.slots s there).1

    by : (f : FillFault) → IsNoStub look s some.number f → FillStands l p f
    by (Range at) (told_at, inl front) =
        absurd (omega (arith, front, told, found.behind s (found.slots s there).0 there (found.slots s there).1))
    by (Range at) (told_at, inr far) =
        subst (BadRange l p) (sym told_at) (
          s,
          slot,
          number,
          slot_looked p look (target.Import s.import) tells found.once (found.slots s there),
          too_far s.address slot far (subst (λ (n : ℕ). n + 2 ^ 32 < 2 ^ 64 + page s.address) (sym told)
              (found.low s (found.slots s there).0 there (found.slots s there).1)),
        )
    by Unsupported h = h (slot_aligned p look (target.Import s.import) tells found.once found.aligned (found.slots s there))
    by (Rebase at) h = absurd h
    by (Place file section relocation) h = absurd h
    by OutOfMemory h = absurd h

-- the fixups of slots
map_same : {X Y : Type 0} (f g : X → Y) → ((x : X) → f x ≡ g x) → (xs : List X) → map f xs ≡ map g xs
map_same f g same [] = refl
map_same f g same (x ∷ xs) = ap (λ y. y ∷ map f xs) (same x) ∙ ap (λ ys. g x ∷ ys) (map_same f g same xs)

pub slots_done : (l : Link) (p : Placed) (look : Look) (slots : List Slot) (old new : List Fixup) → Tells l p look
    → SlotsAsked look slots (length slots) old new
    → new ≡ old ++ map (slot_fixup l p) slots
slots_done l p look slots old new tells asked =
    asked.run ∙ ap (λ (xs : List Slot). old ++ map (slot_asked look) xs) (take-length slots)
    ∙ ap (λ (t : List Fixup). old ++ t)
    (map_same (slot_asked look) (slot_fixup l p)
    (λ s. ap (λ (k : FixupKind). record { address = s.address; kind = k }) (kind_same l p look s.target 0 tells)) slots)

-- a slot of the link is one of the placement
record IsSlotOf (p : Placed) (index : ℕ) (t : Target) : Type 0 where
  among : index < length p.slots
  is : (d : Slot) → (get_or p.slots index d).target ≡ t

no_slot : Slot
no_slot = record { target = target.None; address = 0 }

slot_number_of : (l : Link) (p : Placed) (index : ℕ) (t : Target) → SlotsAreFound l p → IsNumber (slots_of l) index t → IsSlotOf p index t
slot_number_of l p index t found number =
    let in_slots : IsNumber (map (λ (s : Slot). s.target) p.slots) index t = subst (λ (xs : List Target). IsNumber xs index t)
    (sym found.targets) number in
    let long : length (map (λ (s : Slot). s.target) p.slots) ≡ length p.slots = simp length-map in
    let lt : index < length p.slots = omega (arith, in_slots.0, long) in
    record { among = lt; is = λ d. sym (get_or-map (λ (s : Slot). s.target) p.slots index d t lt) ∙ in_slots.1 }

below_mod : (n : ℕ) → n < 2 ^ 64 → (n + 0) % 2 ^ 64 ≡ n
below_mod n lt = omega arith

pub slots_fit : (l : Link) (p : Placed) (look : Look) (slots : List Slot) (old new : List Fixup) → Tells l p look → SlotsAreFound l p
    → slots ≡ p.slots
    → SlotsAsked look slots (length slots) old new → EachSlotFits l p
slots_fit l p look slots old new tells found same asked = record {
  none = λ index bad.
      let t = bad.0 in
      let of = slot_number_of l p index t found bad.2 in
      let s = get_or p.slots index no_slot in
      let there : Contains p.slots s = Contains-get_or p.slots index no_slot of.among in
      let fit : is_encodable look s.target 0 ≡ true =
      subst (λ (xs : List Slot). is_encodable look (get_or xs index no_slot).target 0 ≡ true) same
      (asked.fit index no_slot (subst (λ (xs : List Slot). index < length xs) (sym same) of.among)) in
      let fits : is_encodable look t 0 ≡ true = ap (λ (u : Target). is_encodable look u 0) (sym (of.is no_slot)) ∙ fit in
      let low : address_of p t < 2 ^ 64 = subst (λ (u : Target). address_of p u < 2 ^ 64) (of.is no_slot) (found.low s there) in
      let x = stands_only l p t bad.1 found.once bad.3 bad.4 in
      encodable_is p look t 0 tells.addresses bad.3 fits
      (subst (IsNotEncodable p) (x ∙ sym (below_mod (address_of p t) low)) bad.5);
}

-- a slot without a word
pub slot_stands : (l : Link) (p : Placed) (look : Look) (slots : List Slot) (fault : FillFault) → Tells l p look → SlotsAreFound l p
    → slots ≡ p.slots
    → CannotAskSlot look slots fault → FillStands l p fault
slot_stands l p look slots (Range at) tells found same h = absurd h
slot_stands l p look slots Unsupported tells found same h = h
slot_stands l p look slots (Place file section relocation) tells found same h = absurd h
slot_stands l p look slots OutOfMemory tells found same h = tt
slot_stands l p look slots (Rebase at) tells found same h =
    let s = get_or slots h.number no_slot in
    let there : Contains p.slots s = subst (λ (xs : List Slot). Contains xs s) same (Contains-get_or slots h.number no_slot h.among) in
    let value = not_encodable p look s.target 0 tells.addresses (h.unfit no_slot) in
    let lt : h.number < length p.slots = subst (λ (xs : List Slot). h.number < length xs) same h.among in
    let is : get_or (map (λ (x : Slot). x.target) p.slots) h.number s.target ≡ s.target =
    get_or-map (λ (x : Slot). x.target) p.slots h.number no_slot s.target lt
    ∙ ap (λ (xs : List Slot). (get_or xs h.number no_slot).target) (sym same) in
    let long : length (map (λ (x : Slot). x.target) p.slots) ≡ length p.slots = simp length-map in
    let number : IsNumber (slots_of l) h.number s.target =
    subst (λ (xs : List Target). IsNumber xs h.number s.target) found.targets (omega (arith, lt, long), is) in
    subst (BadRebase l p) (sym h.told) (
      s.target,
      address_of p s.target,
      number,
      value.0,
      stands_at l p s.target found.once (found.there s there) value.0 (found.some s there),
      subst (IsNotEncodable p) (below_mod (address_of p s.target) (found.low s there)) value.1,
    )
