-- The entries of a table that stands in a file, read back.
--
-- Entry k stands k sizes behind the first. Its word is the sum of the library and of the name's place times 512, so its
-- fields are read by dividing; in the format with addends, the addend stands behind the word. In the other format the
-- addend is read as 0, which is what each entry has.
use Rattle.std.proofs.Common.{◌≡◌, ℕ, ◌+◌, ◌*◌, ◌^◌, ◌<◌, ◌==◌, ◌⊎◌, true, false, List, ◌++◌, length, get_or, arith, refl, sym, ap, subst, ◌∙◌, inl, inr, if◌then◌else◌, ℤ, pos}
use Rattle.std.specs.Prelude.{All}
use Rattle.std.specs.Int.{w32, cast_unsigned}
use Rattle.std.specs.List.{flat_map}
use Rattle.std.proofs.lemmas.Bool.Decides.{nat_tests}
use Rattle.std.proofs.lemmas.List.{length-append}
use Rattle.macho_bytes.specs.Numbers.{little, le_at, le_bytes, bits, signed}
use Rattle.macho_bytes.specs.Texts.{Stands}
use Rattle.macho_bytes.proofs.Numbers.{little_is_sound, number-stands, stands-front, stands-back}
use Rattle.macho_bytes.proofs.Tables.{table-stands}
use Rattle.macho_wire.specs.declared.fixups.ChainedFixupsHeader.{ChainedFixupsHeader}
use Rattle.macho_model.specs.Images.{Table, fixups_header, import_entry_size, import_place, import_entry, entry_addend}
use Rattle.macho_model.specs.Images as images
use Rattle.macho_fixups.specs.declared.imports.ImportEntry.{ImportEntry}
use Rattle.macho_fixups.specs.Tables.{entry_text, entry_word}
use Rattle.macho_fixups.specs.Calls.{AreEntries}
use Rattle.macho_fixups.specs.steps.Calls.{EntryFits}
use Rattle.macho_fixups.specs.Readings.{entry_seen}

-- the length of an entry
pub entry_long : (format : ℕ) (e : ImportEntry) → length (entry_text format e) ≡ import_entry_size format
unfolding entry_text
entry_long format e =
    elim (format == 2) as (λ t. length (if t then le_bytes 4 (entry_word e)
    ++ le_bytes 4 (cast_unsigned w32 e.addend) else le_bytes 4 (entry_word e))
    ≡ (if t then 8 else 4)) [
      | true ↦
          omega (
            arith,
            length-append (le_bytes 4 (entry_word e)) (le_bytes 4 (cast_unsigned w32 e.addend)),
            little_is_sound.long 4 (entry_word e),
            little_is_sound.long 4 (cast_unsigned w32 e.addend),
          )
      | false ↦ little_is_sound.long 4 (entry_word e)
    ]

-- the word of an entry stands at its place
pub word_stands : (b : List ℕ) (p format : ℕ) (e : ImportEntry) → Stands b (record { at = p; text = entry_text format e })
    → Stands b (record { at = p; text = le_bytes 4 (entry_word e) })
unfolding entry_text
word_stands b p format e s =
    elim (format == 2) as (λ t. Stands b (record {
      at = p;
      text = if t then le_bytes 4 (entry_word e) ++ le_bytes 4 (cast_unsigned w32 e.addend) else le_bytes 4 (entry_word e);
    })
    → Stands b (record { at = p; text = le_bytes 4 (entry_word e) })) [
      | true ↦ stands-front b p (le_bytes 4 (entry_word e)) (le_bytes 4 (cast_unsigned w32 e.addend))
      | false ↦ λ x. x
    ] s

-- the addend stands behind it
addend_stands : (b : List ℕ) (p format : ℕ) (e : ImportEntry) → format ≡ 2 → Stands b (record { at = p; text = entry_text format e })
    → Stands b (record { at = p + 4; text = le_bytes 4 (cast_unsigned w32 e.addend) })
unfolding entry_text
addend_stands b p format e two s =
    let yes : (format == 2) ≡ true = grind (arith, nat_tests) in
    let both : entry_text format e ≡ le_bytes 4 (entry_word e) ++ le_bytes 4 (cast_unsigned w32 e.addend) = rw yes refl in
    stands-back b p (p + 4) (le_bytes 4 (entry_word e)) (le_bytes 4 (cast_unsigned w32 e.addend))
    (omega (arith, little_is_sound.long 4 (entry_word e)))
    (subst (λ (x : List ℕ). Stands b (record { at = p; text = x })) both s)

-- the addend that is read
addend_read : (b : List ℕ) (p format : ℕ) (e : ImportEntry) → (format ≡ 1) ⊎ (format ≡ 2) → (format ≡ 1 → e.addend ≡ pos 0) → EntryFits e
    → Stands b (record { at = p; text = entry_text format e })
    → (if format == 2 then signed 32 (le_at 4 b (p + 4)) else 0) ≡ signed 32 (cast_unsigned w32 e.addend)
addend_read b p format e known plain fits s =
    elim known [
      | inl one ↦
          let other : (format == 2) ≡ false = grind (arith, nat_tests) in
          let zero_read : (if format == 2 then signed 32 (le_at 4 b (p + 4)) else 0) ≡ 0 = rw other refl in
          zero_read ∙ ap (λ (z : ℤ). signed 32 (cast_unsigned w32 z)) (sym (plain one))
      | inr two ↦
          let yes : (format == 2) ≡ true = grind (arith, nat_tests) in
          let is = number-stands little little_is_sound 4 (cast_unsigned w32 e.addend) b (p + 4) fits.addend_fits
          (addend_stands b p format e two s) in
          let read : (if format == 2 then signed 32 (le_at 4 b (p + 4)) else 0) ≡ signed 32 (le_at 4 b (p + 4)) = rw yes refl in
          read ∙ ap (λ (n : ℕ). signed 32 n) is
    ]

-- the fields of an entry's word
library_of : (library name : ℕ) → library < 256 → name < 2 ^ 23 → bits 0 8 (library + name * 2 ^ 9) ≡ library
library_of library name a b = omega (arith, a, b)

name_of_word : (library name : ℕ) → library < 256 → name < 2 ^ 23 → bits 9 23 (library + name * 2 ^ 9) ≡ name
name_of_word library name a b = omega (arith, a, b)

-- THE entry that is read.
pub entry_read : (b : List ℕ) (t : Table) (format place : ℕ) (imports : List ImportEntry) (k : ℕ) (d : ImportEntry)
    (h : ChainedFixupsHeader)
    → fixups_header b t ≡ h → h.imports_offset ≡ place → h.imports_format ≡ format → AreEntries format imports → All EntryFits imports
    → Stands b (record { at = t.at + place; text = flat_map (entry_text format) imports }) → k < length imports
    → import_entry b t k ≡ entry_seen (get_or imports k d)
entry_read b t format place imports k d h header offset formatted known fits stands lt =
    ap (λ (n : ℕ). let x : images.ImportEntry = record { library = bits 0 8 n; name_offset = bits 9 23 n; addend = entry_addend b t k } in
    x)
    (ap (λ (p : ℕ). le_at 4 b p) at ∙ word)
    ∙ ap (λ (n : ℕ). let x : images.ImportEntry = record {
      library = n;
      name_offset = bits 9 23 (entry_word e);
      addend = entry_addend b t
          k;
    } in x)
    (library_of e.library e.name_offset (fits k d lt).library_fits (known.names k d lt))
    ∙ ap (λ (n : ℕ). let x : images.ImportEntry = record { library = e.library; name_offset = n; addend = entry_addend b t k } in x)
    (name_of_word e.library e.name_offset (fits k d lt).library_fits (known.names k d lt))
    ∙ ap (λ (n : ℕ). let x : images.ImportEntry = record { library = e.library; name_offset = e.name_offset; addend = n } in x) addend
  where
    e : ImportEntry
    e = get_or imports k d

    p : ℕ
    p = t.at + place + import_entry_size format * k

    at : import_place b t k ≡ p
    at = ap (λ (x : ChainedFixupsHeader). t.at + x.imports_offset + import_entry_size x.imports_format * k) header
        ∙ ap (λ (n : ℕ). t.at + n + import_entry_size h.imports_format * k) offset
        ∙ ap (λ (n : ℕ). t.at + place + import_entry_size n * k) formatted

    here : Stands b (record { at = p; text = entry_text format e })
    here = table-stands (entry_text format) (import_entry_size format) imports (t.at + place) k d b
        (record { long = λ j x less. entry_long format (get_or imports j x) }) lt stands

    word : le_at 4 b p ≡ entry_word e
    word = number-stands little little_is_sound 4 (entry_word e) b p (omega (arith, (fits k d lt).library_fits, known.names k d lt))
        (word_stands b p format e here)

    addend : entry_addend b t k ≡ signed 32 (cast_unsigned w32 e.addend)
    addend =
        ap (λ (x : ℕ). if (fixups_header b t).imports_format == 2 then signed 32 (le_at 4 b (x + 4)) else 0) at
        ∙ ap (λ (f : ℕ). if f == 2 then signed 32 (le_at 4 b (p + 4)) else 0) (ap (λ (x : ChainedFixupsHeader). x.imports_format) header
        ∙ formatted)
        ∙ addend_read b p format e known.known (λ one. known.plain one k d lt) (fits k d lt) here
