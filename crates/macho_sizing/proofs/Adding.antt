-- A plan grows part by part: what was added to what was added to is added once.
use Rattle.std.proofs.Common.{◌≡◌, ℕ, ◌+◌, ◌<◌, Some, slice_get, List, [], ◌∷◌, ◌++◌, map, length, get_or, take, sym, ap, ◌∙◌, arith, append_assoc, append-nil}
use Rattle.std.specs.List.{enumerate_from, position_or_len}
use Rattle.std.proofs.lemmas.List.{map-append, take_more, length-take}
use Rattle.std.proofs.lemmas.List.Elements.{All-push}
use Rattle.std.proofs.lemmas.Option.{slice_get_within, get_or_from_slice_get}
use Rattle.macho_model.specs.declared.targets.Target.{Target}
use Rattle.macho_model.specs.declared.targets.Target.TheVariants as target
use Rattle.macho_model.specs.Targets.{same_target}
use Rattle.macho_symbols.specs.declared.solved.Common.{Common}
use Rattle.macho_layout.specs.declared.spec.CommonSpec.{CommonSpec}
use Rattle.macho_layout.specs.declared.spec.StubSpec.{StubSpec}
use Rattle.macho_layout.specs.Plans.{Planning}
use Rattle.macho_sizing.specs.steps.Planned.{common_spec, common_specs, AddsStubs}
use Rattle.macho_model.proofs.LinkLaws.{enumerate_more}

-- a plan with more commons, slots and stubs
abbrev pub with_commons : Planning → List CommonSpec → Planning
with_commons p cs = record p { commons = p.commons ++ cs }

abbrev pub with_slots : Planning → List Target → Planning
with_slots p ts = record p { slots = p.slots ++ ts }

abbrev pub with_stubs : Planning → List StubSpec → Planning
with_stubs p ss = record p { stubs = p.stubs ++ ss }

pub commons_both : (p q r : Planning) (first second : List CommonSpec) → q ≡ with_commons p first → r ≡ with_commons q second
    → r ≡ with_commons p (first ++ second)
commons_both p q r first second e f =
    f ∙ ap (λ (u : Planning). with_commons u second) e
    ∙ ap (λ (cs : List CommonSpec). record p { commons = cs }) (append_assoc p.commons first second)

pub slots_both : (p q r : Planning) (first second : List Target) → q ≡ with_slots p first → r ≡ with_slots q second
    → r ≡ with_slots p (first ++ second)
slots_both p q r first second e f =
    f ∙ ap (λ (u : Planning). with_slots u second) e
    ∙ ap (λ (ts : List Target). record p { slots = ts }) (append_assoc p.slots first second)

pub stubs_both : (p q r : Planning) (first second : List StubSpec) → q ≡ with_stubs p first → r ≡ with_stubs q second
    → r ≡ with_stubs p (first ++ second)
stubs_both p q r first second e f =
    f ∙ ap (λ (u : Planning). with_stubs u second) e
    ∙ ap (λ (ss : List StubSpec). record p { stubs = ss }) (append_assoc p.stubs first second)

pub commons_none : (p : Planning) → p ≡ with_commons p (common_specs [])
unfolding common_specs
commons_none p = ap (λ (cs : List CommonSpec). record p { commons = cs }) (sym (append-nil p.commons))

-- THE step of commons
pub commons_more : (commons : List Common) (k : ℕ) (c : Common) → k < length commons
    → common_specs (take (k + 1) commons) ≡ common_specs (take k commons) ++ common_spec (k, get_or commons k c) ∷ []
unfolding common_specs
commons_more commons k c lt =
    let number : 0 + length (take k commons) ≡ k = omega (arith, length-take k commons) in
    ap (λ (cs : List Common). map common_spec (enumerate_from 0 cs)) (take_more commons k c lt)
    ∙ ap (map common_spec) (enumerate_more 0 (take k commons) (get_or commons k c))
    ∙ map-append common_spec (enumerate_from 0 (take k commons)) ((0 + length (take k commons), get_or commons k c) ∷ [])
    ∙ ap (λ (n : ℕ). common_specs (take k commons) ++ common_spec (n, get_or commons k c) ∷ []) number

-- an element that is looked up
pub slot_at : (ts : List Target) (k : ℕ) (t : Target) → Some t ≡ slice_get ts k → (k < length ts) × (get_or ts k t ≡ t)
slot_at ts k t e = (slice_get_within ts k t (sym e), get_or_from_slice_get ts k t t (sym e))

-- THE step of stubs
pub stubs_more : (slots stubs : List Target) (k : ℕ) (t : Target) (s : StubSpec) (p q r : Planning) → k < length stubs
    → get_or stubs k t ≡ target.Import s.import → s.slot ≡ position_or_len (same_target (target.Import s.import)) slots
    → AddsStubs slots (take k stubs) p q → r ≡ with_stubs q (s ∷ []) → AddsStubs slots (take (k + 1) stubs) p r
stubs_more slots stubs k t s p q r lt is slot adds e = record {
  added = adds.added ++ s ∷ [];
  is = stubs_both p q r adds.added (s ∷ []) adds.is e;
  imports = map-append (λ (x : StubSpec). target.Import x.import) adds.added (s ∷ [])
      ∙ ap (λ (ts : List Target). ts ++ target.Import s.import ∷ []) adds.imports
      ∙ ap (λ (u : Target). take k stubs ++ u ∷ []) (sym is) ∙ sym (take_more stubs k t lt);
  through = All-push (λ x. x.slot ≡ position_or_len (same_target (target.Import x.import)) slots) adds.added s adds.through slot;
}
