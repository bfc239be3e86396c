-- Slots and stubs that are those of a link.
--
-- Slots with the same targets, number by number, have the same list of targets. Stubs with the imports and slots of the plan's are the
-- link's; where both are the link's, their imports are the same, and so the slots of these.
use Rattle.std.proofs.Common.{◌≡◌, ℕ, ◌<◌, List, map, length, get_or, true, sym, ap, ◌∙◌, arith}
use Rattle.std.proofs.lemmas.List.{ext_get_or, get_or-map, length-map}
use Rattle.macho_model.specs.declared.placed.Slot.{Slot}
use Rattle.macho_model.specs.declared.placed.Stub.{Stub}
use Rattle.macho_model.specs.declared.targets.Target.{Target}
use Rattle.macho_model.specs.declared.targets.Target.TheVariants as target
use Rattle.macho_model.specs.Links.{Link}
use Rattle.macho_model.specs.Targets.{same_target, slot_number}
use Rattle.macho_model.proofs.SameTargets.{same_target_is}
use Rattle.macho_layout.specs.declared.spec.StubSpec.{StubSpec}
use Rattle.macho_placement_rules.specs.Lists.{AreStubs, ArePlannedStubs}
use Rattle.macho_placement_rules.proofs.Same.{maps_same, same_lengths, same_at}

-- slots that lead to some targets, number by number
pub slots_same : (slots : List Slot) (targets : List Target) (d : Slot) (e : Target) → length slots ≡ length targets
    → ((k : ℕ) → k < length slots → same_target (get_or slots k d).target (get_or targets k e) ≡ true)
    → map (λ s. s.target) slots ≡ targets
slots_same slots targets d e long each =
    ext_get_or e (map (λ (s : Slot). s.target) slots) targets (length-map slots (λ (s : Slot). s.target) ∙ long)
    (λ k low.
    let within : k < length slots = omega (arith, low, length-map slots (λ (s : Slot). s.target)) in
    get_or-map (λ (s : Slot). s.target) slots k d e within
    ∙ same_target_is (get_or slots k d).target (get_or targets k e) (each k within))

-- the number of an import, and another number for what is none
import_or : ℕ → Target → ℕ
import_or none (target.Import n) = n
import_or none t = none

-- a stub's import, and a plan's
abbrev stub_import : Stub → Target
stub_import s = target.Import s.import

abbrev spec_import : StubSpec → Target
spec_import s = target.Import s.import

-- stubs that are the plan's, number by number
pub stubs_same : (l : Link) (stubs : List Stub) (specs : List StubSpec) (e : StubSpec) (f : Stub) → length stubs ≡ length specs
    → ((k : ℕ) (d : Stub) → k < length stubs
    → ((get_or stubs k d).import ≡ (get_or specs k e).import) × ((get_or stubs k d).slot ≡ (get_or specs k e).slot))
    → ArePlannedStubs l specs → AreStubs l stubs
stubs_same l stubs specs e f long each planned = record {
  stubs_are = maps_same stub_import spec_import stubs specs f e long (λ k low. ap (λ (n : ℕ). target.Import n) (each k f low).0)
      ∙ planned.stubs_are;
  slots_are = λ k d low. (each k d low).1 ∙ planned.slots_are k e (omega arith)
      ∙ ap (λ (n : ℕ). slot_number l (target.Import n)) (sym (each k d low).0);
}

-- stubs that are the link's are as many as the plan's
pub stubs_long : (l : Link) (stubs : List Stub) (specs : List StubSpec) → ArePlannedStubs l specs → AreStubs l stubs
    → length stubs ≡ length specs
stubs_long l stubs specs planned are = same_lengths stub_import spec_import stubs specs (are.stubs_are ∙ sym planned.stubs_are)

-- and have the imports and slots of the plan's
pub imports_at : (l : Link) (stubs : List Stub) (specs : List StubSpec) (d : Stub) (e : StubSpec) (k : ℕ) → ArePlannedStubs l specs
    → AreStubs l stubs → k < length stubs → (get_or stubs k d).import ≡ (get_or specs k e).import
unfolding import_or
imports_at l stubs specs d e k planned are low =
    ap (import_or 0) (same_at stub_import spec_import stubs specs d e k (are.stubs_are ∙ sym planned.stubs_are) low)

pub slots_at : (l : Link) (stubs : List Stub) (specs : List StubSpec) (d : Stub) (e : StubSpec) (k : ℕ) → ArePlannedStubs l specs
    → AreStubs l stubs → k < length stubs → (get_or stubs k d).slot ≡ (get_or specs k e).slot
slots_at l stubs specs d e k planned are low =
    are.slots_are k d low ∙ ap (λ (n : ℕ). slot_number l (target.Import n)) (imports_at l stubs specs d e k planned are low)
    ∙ sym (planned.slots_are k e (omega (arith, stubs_long l stubs specs planned are)))
