-- Which names end.
--
-- A name that begins at or in front of a NUL ends: the part of it before its first NUL is shorter than all of it. A name
-- behind the last NUL has none: it is all of what is left. So a name ends exactly where it begins in front of the place
-- behind the last NUL.
use Rattle.std.proofs.Common.{◌≡◌, ℕ, ◌+◌, ◌-◌, ◌<◌, ◌≤◌, ◌==◌, ltb, true, false, List, length, drop, slice_index, Option, Some, None, inl, inr, sym, ap, ◌∙◌, arith, eq-eqb, length-take, length-drop, get_or-drop}
use Rattle.std.specs.List.{position_or_len}
use Rattle.std.specs.Option.{SomeIff, is_some}
use Rattle.std.proofs.lemmas.Bool.{cases_lt}
use Rattle.macho_bytes.specs.Texts.{name_of}
use Rattle.macho_model.specs.ObjectRules.{has_nul}
use Rattle.macho_object.specs.steps.Checks.{NamesEnd}
use Rattle.macho_bytes.proofs.Comparing.{not_less}
use Rattle.macho_model.proofs.Strings.{nul_ends, nul_missing, below}

-- behind a place there is no NUL
abbrev pub NoneFrom : List ℕ → ℕ → Type 0
NoneFrom strings from = (k : ℕ) → from ≤ k → k < length strings → slice_index strings k ≡ 0 → ⊥

-- a name that begins where there is no NUL any more
begins_behind : (strings : List ℕ) (from n : ℕ) → NoneFrom strings from → from ≤ n → has_nul (drop n strings) ≡ false
begins_behind strings from n none le =
    nul_missing (drop n strings)
    (λ i lt is. none (n + i) (omega arith) (omega (arith, length-drop n strings)) (sym (get_or-drop n strings i 0) ∙ is))

-- the last NUL
pub names_end_at : (strings : List ℕ) (last : ℕ) → last < length strings → slice_index strings last ≡ 0 → NoneFrom strings (last + 1)
    → NamesEnd strings (last + 1)
names_end_at strings last lt is none =
    record {
      test = λ n. elim (cases_lt n (last + 1)) [
        | inl before ↦
            let place : n + (last - n) ≡ last = omega arith in
            let here : slice_index (drop n strings) (last - n) ≡ 0 = get_or-drop n strings (last - n) 0 ∙ ap (slice_index strings) place
            ∙ is in
            nul_ends (drop n strings) (last - n) (omega (arith, length-drop n strings)) here ∙ sym (below n (last + 1) before)
        | inr behind ↦ begins_behind strings (last + 1) n none behind ∙ sym (not_less n (last + 1) behind)
      ];
    }

-- no NUL at all
pub names_end_never : (strings : List ℕ) → NoneFrom strings 0 → NamesEnd strings 0
names_end_never strings none =
    record { test = λ n. begins_behind strings 0 n none (omega arith) ∙ sym (not_less n 0 (omega arith)) }

-- an answer that is there exactly where a number is below another
pub there_if_below : (r : Option ℕ) (to x n y : ℕ) → SomeIff r ((0 < to) × (x < n)) x → 0 < to → x ≡ y → is_some r ≡ ltb y n
there_if_below None to x n y h some is =
    elim (cases_lt y n) [
      | inl lt ↦ absurd (h (some, omega (arith, is)))
      | inr le ↦ sym (not_less y n le)
    ]
there_if_below (Some z) to x n y h some is = sym (below y n (omega (arith, is, h.0.1)))
