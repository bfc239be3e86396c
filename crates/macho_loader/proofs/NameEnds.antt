-- Which names end.
--
-- A name that begins at or in front of a NUL ends: the part of it before its first NUL is shorter than all of it. A name
-- behind the last NUL has none: it is all of what is left. So a name ends exactly where it begins in front of the place
-- behind the last NUL.
use Rattle.std.proofs.Common.{◌≡◌, ℕ, ◌+◌, ◌-◌, ◌≤◌, false, List, length, drop, slice_index, inl, inr, sym, ap, ◌∙◌, arith, eq-eqb, length-drop, get_or-drop}
use Rattle.std.proofs.lemmas.Bool.{cases_lt, lt-ltb, le-ltb, eqb-true}
use Rattle.memchr.specs.Find.{NoneAfter, Nowhere, Passes, is_byte}
use Rattle.macho_model.specs.ObjectRules.{has_nul}
use Rattle.macho_loader.specs.steps.Names.{EndsBelow}
use Rattle.macho_model.proofs.Strings.{nul_ends, nul_missing}

-- a name that begins where there is no NUL any more
begins_behind : (names : List ℕ) (from n : ℕ) → Nowhere (Passes (is_byte 0) names) from (length names) → from ≤ n
    → has_nul (drop n names) ≡ false
begins_behind names from n none le =
    nul_missing (drop n names)
    (λ i lt is. none (n + i) (omega (arith, le)) (omega (arith, lt, length-drop n names))
    (eq-eqb (slice_index names (n + i)) 0 (sym (get_or-drop n names i 0) ∙ is)))

-- the last NUL, or none
pub ends_at : (names : List ℕ) (last : ℕ) → NoneAfter (Passes (is_byte 0) names) 0 (length names) last → Passes (is_byte 0) names last
    → EndsBelow names (last + 1)
ends_at names last none is n =
    elim (cases_lt n (last + 1)) [
      | inl before ↦
          let place : n + (last - n) ≡ last = omega (arith, before) in
          let here : slice_index (drop n names) (last - n) ≡ 0 = get_or-drop n names (last - n) 0 ∙ ap (slice_index names) place
          ∙ eqb-true (slice_index names last) 0 is in
          let high = none.high in
          nul_ends (drop n names) (last - n) (omega (arith, length-drop n names, high, before)) here ∙ sym (lt-ltb n (last + 1) before)
      | inr behind ↦ begins_behind names (last + 1) n none.after behind ∙ sym (le-ltb n (last + 1) behind)
    ]

pub never_ends : (names : List ℕ) → Nowhere (Passes (is_byte 0) names) 0 (length names) → EndsBelow names 0
never_ends names none n = begins_behind names 0 n none (omega arith) ∙ sym (le-ltb n 0 (omega arith))
