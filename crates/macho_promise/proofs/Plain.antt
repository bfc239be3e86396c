-- Names of files are plain: they end at the first NUL.
use Rattle.std.proofs.Common.{ℕ, ◌<◌, ◌==◌, List, get_or, sym, ◌∙◌, arith, true, false, Bool, [], drop}
use Rattle.std.specs.List.{position_or_len}
use Rattle.std.proofs.lemmas.Bool.{eq-eqb, true≢false}
use Rattle.std.proofs.lemmas.List.{get_or-take, length-take}
use Rattle.std.proofs.lemmas.List.Sums.{fails_before_first}
use Rattle.macho_bytes.specs.Texts.{name_of}
use Rattle.macho_promise.specs.Views.{IsPlain}
use Rattle.std.specs.Prelude.{if◌then◌else◌}
use Rattle.macho_model.specs.Objects.{symbol_at, strings_of, symbol_name}

pub name_plain : (bytes : List ℕ) → IsPlain (name_of bytes)
name_plain bytes k d lt zero_is =
    let n : ℕ = position_or_len (λ (b : ℕ). b == 0) bytes in
    let below : k < n = omega (arith, lt, length-take n bytes) in
    let same = get_or-take n bytes k d below in
    true≢false (sym (eq-eqb (get_or bytes k d) 0 (sym same ∙ zero_is)) ∙ fails_before_first (λ (b : ℕ). b == 0) bytes k d below)

pub symbol_plain : (b : List ℕ) (k : ℕ) → IsPlain (symbol_name b k)
unfolding symbol_name
symbol_plain b k = by ((symbol_at b k).n_strx == 0) (drop (symbol_at b k).n_strx (strings_of b))
  where
    by : (t : Bool) (rest : List ℕ) → IsPlain (if t then [] else name_of rest)
    by true rest = λ k d lt zero_is. absurd (omega (arith, lt))
    by false rest = name_plain rest
