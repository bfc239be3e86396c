-- The table of imports, entry by entry.
--
-- An entry is its word, and in the format with addends its addend behind it: two puts next to each other are one. All
-- entries of a format have one size, so entry k begins k sizes behind the first, and each is put where those before
-- it end.
use Rattle.std.proofs.Common.{◌≡◌, ℕ, ◌+◌, ◌*◌, ◌<◌, ◌≤◌, ◌==◌, true, false, List, ◌++◌, length, get_or, take, arith, refl, sym, ap, ◌∙◌, subst, inl, inr}
use Rattle.std.proofs.lemmas.Bool.Decides.{nat_tests}
use Rattle.std.proofs.Math.Nat.{mul-add, mul-le-mul_left}
use Rattle.std.specs.List.{flat_map}
use Rattle.std.proofs.lemmas.List.{length-append, get_or_default}
use Rattle.std.specs.Int.{w32, cast_unsigned}
use Rattle.macho_bytes.specs.Numbers.{le_bytes}
use Rattle.macho_bytes.specs.Texts.{put}
use Rattle.macho_bytes.proofs.Numbers.{little_is_sound}
use Rattle.macho_bytes.proofs.Puts.{put-put}
use Rattle.macho_bytes.proofs.Sequences.{MoreTexts, texts_begin, texts_go_on}
use Rattle.macho_model.specs.Images.{import_entry_size}
use Rattle.macho_fixups.specs.declared.imports.ImportEntry.{ImportEntry}
use Rattle.macho_fixups.specs.Tables.{entry_text, entry_word}
use Rattle.macho_fixups.specs.steps.Calls.{EntryFits}
use Rattle.std.specs.Prelude.{All}
use Rattle.std.proofs.lemmas.Bool.{cases_lt}

-- a word and an addend
pub long_entry : (format at word addend : ℕ) (e : ImportEntry) (out a b : List ℕ) → format ≡ 2 → at + import_entry_size format ≤ length out
    → word ≡ entry_word e → addend ≡ cast_unsigned w32 e.addend → a ≡ put at (le_bytes 4 word) out → b ≡ put (at + 4) (le_bytes 4 addend) a
    → (b ≡ put at (entry_text format e) out) × (length (entry_text format e) ≡ import_entry_size format)
unfolding entry_text
long_entry format at word addend e out a b two room is plus first second =
    let yes : (format == 2) ≡ true = grind (arith, nat_tests) in
    let size : import_entry_size format ≡ 8 = rw yes refl in
    let text : entry_text format e ≡ le_bytes 4 word ++ le_bytes 4 addend =
    rw yes (ap (λ (x : ℕ). le_bytes 4 x ++ le_bytes 4 (cast_unsigned w32 e.addend)) (sym is)
    ∙ ap (λ (y : ℕ). le_bytes 4 word ++ le_bytes 4 y) (sym plus)) in
    let w = little_is_sound.long 4 word in
    let d = little_is_sound.long 4 addend in (
      second ∙ ap (put (at + 4) (le_bytes 4 addend)) first
          ∙ put-put at (at + 4) (le_bytes 4 word) (le_bytes 4 addend) out (omega (arith, w)) (omega (arith, d, size))
          ∙ ap (λ (t : List ℕ). put at t out) (sym text),
      omega (arith, ap length text, length-append (le_bytes 4 word) (le_bytes 4 addend), w, d, size),
    )

-- a word alone
pub short_entry : (format at word : ℕ) (e : ImportEntry) (out a : List ℕ) → (format ≡ 2 → ⊥) → word ≡ entry_word e
    → a ≡ put at (le_bytes 4 word) out
    → (a ≡ put at (entry_text format e) out) × (length (entry_text format e) ≡ import_entry_size format)
unfolding entry_text
short_entry format at word e out a other is first =
    let no : (format == 2) ≡ false = grind (arith, nat_tests) in
    let size : import_entry_size format ≡ 4 = rw no refl in
    let text : entry_text format e ≡ le_bytes 4 word = rw no (ap (λ (x : ℕ). le_bytes 4 x) (sym is)) in (
      first ∙ ap (λ (t : List ℕ). put at t out) (sym text),
      omega (arith, ap length text, little_is_sound.long 4 word, size),
    )

-- Entries so far: they are put, and the place behind them is known.
pub record EntriesSoFar (format at place i : ℕ) (imports : List ImportEntry) (before now : List ℕ) : Type 0 where
  pub texts : MoreTexts (entry_text format) at place (take i imports) before now
  pub here : place ≡ at + import_entry_size format * i
  pub fits : (k : ℕ) (d : ImportEntry) → k < i → EntryFits (get_or imports k d)

pub entries_begin : (format at : ℕ) (imports : List ImportEntry) (out : List ℕ) → at ≤ length out
    → EntriesSoFar format at at 0 imports out out
entries_begin format at imports out fits =
    record {
      texts = record { written = texts_begin (entry_text format) at out fits; ends = omega arith };
      here = omega arith;
      fits = λ k d less. absurd (omega arith);
    }

-- there is room for one entry more
pub entry_room : (format at place i : ℕ) (imports : List ImportEntry) (before now : List ℕ) → i < length imports
    → at + import_entry_size format * length imports ≤ length before → EntriesSoFar format at place i imports before now
    → place + import_entry_size format ≤ length before
entry_room format at place i imports before now lt room so_far =
    let step : import_entry_size format * (i + 1) ≡ import_entry_size format * i + import_entry_size format =
    mul-add (import_entry_size format) i 1 ∙ omega arith in
    let most : import_entry_size format * (i + 1) ≤ import_entry_size format * length imports = mul-le-mul_left (import_entry_size format)
    (omega arith) in
    omega (arith, so_far.here, step, most, room)

pub entries_go_on : (format at place next i : ℕ) (imports : List ImportEntry) (d : ImportEntry) (before out now : List ℕ)
    → i < length imports
    → at + import_entry_size format * length imports ≤ length before → EntriesSoFar format at place i imports before out
    → length (entry_text format (get_or imports i d)) ≡ import_entry_size format → EntryFits (get_or imports i d)
    → next ≡ place + import_entry_size format
    → now ≡ put place (entry_text format (get_or imports i d)) out → EntriesSoFar format at next (i + 1) imports before now
entries_go_on format at place next i imports d before out now lt room so_far long one moved is =
    let step : import_entry_size format * (i + 1) ≡ import_entry_size format * i + import_entry_size format =
    mul-add (import_entry_size format) i 1 ∙ omega arith in
    record {
      texts = texts_go_on (entry_text format) at place next i imports (get_or imports i d) before out now lt
          (get_or_default imports i d (get_or imports i d) lt) so_far.texts (omega (arith, long, moved))
          (omega (arith, moved, entry_room format at place i imports before out lt room so_far)) is;
      here = omega (arith, so_far.here, moved, step);
      fits = λ k e less. elim (cases_lt k i) [
        | inl early ↦ so_far.fits k e early
        | inr here ↦
            let same : i ≡ k = omega arith in
            subst (λ (j : ℕ). EntryFits (get_or imports j e)) same (subst EntryFits (get_or_default imports i d e lt) one)
      ];
    }
