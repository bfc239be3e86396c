-- What entries have of each thing, from their ids, their codes and the ranks.
use Rattle.std.proofs.Common.{◌≡◌, ℕ, List, length, take, map, refl, ap, ◌∙◌, arith, min}
use Rattle.std.specs.List.{count_by}
use Rattle.std.proofs.lemmas.List.{length-take}
use Rattle.macho_unwind_pages.specs.declared.entries.UnwindInput.{UnwindInput}
use Rattle.macho_unwind_pages.specs.declared.bound.Tallies.{Tallies}
use Rattle.macho_unwind_pages.specs.Entries.{ids_of, code_in, codes_of}
use Rattle.macho_unwind_pages.specs.steps.Ranks.{ranked}
use Rattle.macho_unwind_pages.specs.Bounds.{MOST_GLOBALS, globals_of}
use Rattle.macho_unwind_pages.specs.steps.Tallies.{tallies_of, locals_in}

abbrev tallies_from : List UnwindInput → List ℕ → List ℕ → List ℕ → Tallies
tallies_from entries ids codes globals = record {
  entries = length entries;
  local = locals_in globals codes;
  globals = length globals;
  personalities = length ids;
  lsdas = count_by (λ e. e.lsda) entries;
}

-- numbers that were counted from the ids, codes and ranks of entries are what the entries have of each thing
pub tallied : (entries : List UnwindInput) (ids codes ranks : List ℕ) (local globals personalities lsdas : ℕ) → ids ≡ ids_of entries
    → codes ≡ map (code_in ids) entries → ranks ≡ ranked codes → local ≡ locals_in (take MOST_GLOBALS ranks) codes
    → globals ≡ min (length ranks) MOST_GLOBALS → personalities ≡ length ids → lsdas ≡ count_by (λ e. e.lsda) entries
    → (let t : Tallies
    = record { entries = length entries; local = local; globals = globals; personalities = personalities; lsdas = lsdas } in t)
    ≡ tallies_of entries
tallied entries ids codes ranks local globals personalities lsdas ids_is codes_is ranks_is local_is globals_is personalities_is lsdas_is =
    let all : codes ≡ codes_of entries = codes_is ∙ ap (λ is. map (code_in is) entries) ids_is in
    let front : take MOST_GLOBALS ranks ≡ globals_of (codes_of entries) = ap (take MOST_GLOBALS) (ranks_is ∙ ap ranked all) in
    let count : globals ≡ length (take MOST_GLOBALS ranks) = omega (arith, length-take MOST_GLOBALS ranks) in
    let counted : Tallies
    = record { entries = length entries; local = local; globals = globals; personalities = personalities; lsdas = lsdas } in
    let first : counted ≡ tallies_from entries ids codes (take MOST_GLOBALS ranks)
    = rw (local_is, count, personalities_is, lsdas_is) refl in
    first ∙ ap (λ is. tallies_from entries is codes (take MOST_GLOBALS ranks)) ids_is
    ∙ ap (λ cs. tallies_from entries (ids_of entries) cs (take MOST_GLOBALS ranks)) all
    ∙ ap (tallies_from entries (ids_of entries) (codes_of entries)) front
