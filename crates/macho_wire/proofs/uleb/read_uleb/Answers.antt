use Rattle.std.proofs.Common.{◌≡◌, ◌-◌, ◌+◌, ◌≤◌, ◌<◌, ◌^◌, ℕ, List, length, take, drop, true, false, Option, Some, None, IfSome, sym, ap, subst, ◌∙◌, refl, arith}
use Rattle.std.proofs.lemmas.List.{take_rest}
use Rattle.macho_bytes.specs.Uleb.{IsUlebAt, uleb_at, uleb_value, first_groups, has_last_group}
use Rattle.macho_bytes.proofs.Ulebs.{uleb_at-past, uleb_at-unended, uleb_at-great, uleb_at-told, uleb_at-only, uleb_at-found}
use Rattle.macho_wire.proofs.uleb.read_uleb.Goals as goal

-- what is said of a slice from a place on is said of the list from there on
unended : (bytes : List ℕ) (at : ℕ) → has_last_group (take (length bytes - at) (drop at bytes)) ≡ false → uleb_at bytes at ≡ None
unended bytes at none = uleb_at-unended bytes at (ap has_last_group (sym (take_rest bytes at)) ∙ none)

great : (bytes text : List ℕ) (at : ℕ) → has_last_group (take (length bytes - at) (drop at bytes)) ≡ true
    → text ≡ first_groups (take (length bytes - at) (drop at bytes)) → 2 ^ 64 ≤ uleb_value text → uleb_at bytes at ≡ None
great bytes text at has cut big =
    uleb_at-great bytes text at (ap has_last_group (sym (take_rest bytes at)) ∙ has) (cut ∙ ap first_groups (take_rest bytes at)) big

told : (bytes text : List ℕ) (at n : ℕ) → has_last_group (take (length bytes - at) (drop at bytes)) ≡ true
    → text ≡ first_groups (take (length bytes - at) (drop at bytes)) → n ≡ uleb_value text → n < 2 ^ 64
    → uleb_at bytes at ≡ Some (n, at + length text)
told bytes text at n has cut value fits =
    uleb_at-told bytes text at n (at + length text) (ap has_last_group (sym (take_rest bytes at)) ∙ has)
    (cut ∙ ap first_groups (take_rest bytes at)) value fits refl

pub returns-then-bytes-at-clause-value : goal.returns-then-bytes-at-clause-value
returns-then-bytes-at-clause-value c = sym (uleb_at-past c.args.bytes.now c.args.at (omega arith))

pub returns-in_err-groups-clause-value : goal.returns-in_err-groups-clause-value
returns-in_err-groups-clause-value c = c.from_residual.ensures ∙ sym (unended c.args.bytes.now c.args.at c.in_err-groups.ensures)

pub returns-in_err-groups-clause-only : goal.returns-in_err-groups-clause-only
returns-in_err-groups-clause-only c n last u =
    c.from_residual.ensures ∙ sym (unended c.args.bytes.now c.args.at c.in_err-groups.ensures)
    ∙ uleb_at-only c.args.bytes.now c.args.at n last u

pub returns-in_err-value-clause-value : goal.returns-in_err-value-clause-value
returns-in_err-value-clause-value c =
    c.from_residual-in_err-value.ensures
    ∙ sym (great c.args.bytes.now c.in_ok-groups.groups.now c.args.at c.in_ok-groups.ensures.0 c.in_ok-groups.ensures.1
    c.in_err-value.ensures)

pub returns-in_err-value-clause-only : goal.returns-in_err-value-clause-only
returns-in_err-value-clause-only c n last u =
    c.from_residual-in_err-value.ensures
    ∙ sym (great c.args.bytes.now c.in_ok-groups.groups.now c.args.at c.in_ok-groups.ensures.0 c.in_ok-groups.ensures.1
    c.in_err-value.ensures)
    ∙ uleb_at-only c.args.bytes.now c.args.at n last u

pub returns-clause-value : goal.returns-clause-value
returns-clause-value c =
    sym (told c.args.bytes.now c.in_ok-groups.groups.now c.args.at c.in_ok-value.value c.in_ok-groups.ensures.0 c.in_ok-groups.ensures.1
    c.in_ok-value.ensures (omega arith))

pub returns-clause-found : goal.returns-clause-found
returns-clause-found c =
    let is = told c.args.bytes.now c.in_ok-groups.groups.now c.args.at c.in_ok-value.value c.in_ok-groups.ensures.0 c.in_ok-groups.ensures.1
    c.in_ok-value.ensures (omega arith) in
    let P : Option (ℕ × ℕ) → Type 0 = λ o. IfSome o (λ r. IsUlebAt c.args.bytes.now c.args.at r.0 r.1) in
    subst P is (uleb_at-found c.args.bytes.now c.args.at)

pub returns-clause-only : goal.returns-clause-only
returns-clause-only c n last u =
    sym (told c.args.bytes.now c.in_ok-groups.groups.now c.args.at c.in_ok-value.value c.in_ok-groups.ensures.0 c.in_ok-groups.ensures.1
    c.in_ok-value.ensures (omega arith))
    ∙ uleb_at-only c.args.bytes.now c.args.at n last u
