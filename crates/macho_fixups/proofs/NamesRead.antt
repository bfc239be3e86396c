-- The names of a table that stands in a file, read back.
--
-- The names begin where the header says, and lie in the table's range. So from an entry's place on, the bytes of the
-- range are those of the names: first those of the entry's name, none of which is 0, and then its NUL. The name ends
-- there, and one byte more is left in the range.
use Rattle.std.proofs.Common.{◌≡◌, ℕ, ◌+◌, ◌-◌, ◌<◌, ◌≤◌, nat_lt, true, List, [], ◌∷◌, ◌++◌, length, take, drop, slice_range, get_or, arith, refl, sym, ap, ◌∙◌}
use Rattle.std.specs.Prelude.{slice_index}
use Rattle.std.proofs.lemmas.Bool.Decides.{nat_tests}
use Rattle.std.proofs.lemmas.List.{ext_get_or, get_or-drop, get_or-take, get_or_append_left, get_or-append_right, length-append, length-take, length-drop}
use Rattle.std.proofs.lemmas.List.Edits.{get_or-between}
use Rattle.macho_bytes.specs.Texts.{Stands, name_of}
use Rattle.macho_bytes.proofs.Names.{name_of-ends}
use Rattle.macho_wire.specs.declared.fixups.ChainedFixupsHeader.{ChainedFixupsHeader}
use Rattle.macho_model.specs.Images.{Table, fixups_header, import_entry, table_names}
use Rattle.macho_model.specs.Images as images
use Rattle.macho_model.specs.ObjectRules.{has_nul}
use Rattle.macho_fixups.specs.Tables.{names_place}
use Rattle.macho_fixups.specs.Laws.{NamesAreRead}
use Rattle.macho_bytes.proofs.Puts.{get_or-part}

-- the bytes of the range from a name on
pub record IsBehind (range name : List ℕ) : Type 0 where
  pub long : length name < length range
  pub each : (i : ℕ) → i < length name + 1 → slice_index range i ≡ get_or (name ++ 0 ∷ []) i 0

-- a name ends where its NUL stands
name_read : (range name : List ℕ) → IsBehind range name → ((i : ℕ) → i < length name → slice_index name i ≡ 0 → ⊥)
    → name_of range ≡ name
name_read range name here plain =
    name_of-ends range (length name) here.long before nul ∙ ext_get_or 0 (take (length name) range) name long same
  where
    byte : (i : ℕ) → i < length name → slice_index range i ≡ slice_index name i
    byte i lt = here.each i (omega arith) ∙ get_or_append_left name (0 ∷ []) 0 i lt

    before : (i : ℕ) → i < length name → slice_index range i ≡ 0 → ⊥
    before i lt is = plain i lt (sym (byte i lt) ∙ is)

    nul : slice_index range (length name) ≡ 0
    nul =
        let first : length name - length name ≡ 0 = omega arith in
        here.each (length name) (omega arith) ∙ get_or-append_right name (0 ∷ []) (length name) (length name) 0 refl (omega arith)
        ∙ ap (λ (n : ℕ). get_or (0 ∷ []) n 0) first

    long : length (take (length name) range) ≡ length name
    long = omega (arith, length-take (length name) range, here.long)

    same : (i : ℕ) → i < length (take (length name) range) → get_or (take (length name) range) i 0 ≡ get_or name i 0
    same i lt = get_or-take (length name) range i 0 (omega (arith, lt, long)) ∙ byte i (omega (arith, lt, long))

-- the range of a table from a name's place on
behind : (b names name : List ℕ) (from to at : ℕ) → Stands b (record { at = from; text = names }) → from + length names ≤ to
    → Stands names (record { at = at; text = name ++ 0 ∷ [] }) → IsBehind (drop at (slice_range b from to)) name
behind b names name from to at stands room there =
    record { long = long; each = each }
  where
    whole : length (name ++ 0 ∷ []) ≡ length name + 1
    whole = omega (arith, length-append name (0 ∷ []))

    ends : at + length name + 1 ≤ length names
    ends = omega (arith, there.within, whole)

    long : length name < length (drop at (slice_range b from to))
    long =
        omega (
          arith,
          ends,
          room,
          stands.within,
          length-drop at (slice_range b from to),
          length-take (to - from) (drop from b),
          length-drop from b,
        )

    each : (i : ℕ) → i < length name + 1 → slice_index (drop at (slice_range b from to)) i ≡ get_or (name ++ 0 ∷ []) i 0
    each i lt =
        get_or-drop at (slice_range b from to) i 0
        ∙ get_or-between b from to (at + i) 0 (omega (arith, ends, room, lt))
        ∙ sym (get_or-part b (record { at = from; text = names }) stands (at + i) (omega (arith, ends, lt)))
        ∙ sym (get_or-part names (record { at = at; text = name ++ 0 ∷ [] }) there i (omega (arith, lt, whole)))

pub names_are_read : NamesAreRead
names_are_read b t fixups segments format imports names k d name read room lt named =
    record { is = ap name_of same ∙ name_read range name here named_plain; ends = ends }
  where
    place : ℕ
    place = names_place fixups segments format imports

    range : List ℕ
    range = drop (get_or imports k d).name_offset (slice_range b (t.at + place) (t.at + t.size))

    same : drop (import_entry b t k).name_offset (table_names b t) ≡ range
    same =
        ap (λ (e : images.ImportEntry). drop e.name_offset (table_names b t)) (read.entries k d lt)
        ∙ ap (λ (h : ChainedFixupsHeader). drop (get_or imports k d).name_offset
        (slice_range b (t.at + h.symbols_offset) (t.at + t.size))) read.header

    here : IsBehind range name
    here = behind b names name (t.at + place) (t.at + t.size) (get_or imports k d).name_offset read.texts (omega (arith, room)) named.stands

    named_plain : (i : ℕ) → i < length name → slice_index name i ≡ 0 → ⊥
    named_plain i lt = named.plain i 0 lt

    read_name : name_of range ≡ name
    read_name = name_read range name here named_plain

    ends : has_nul (drop (import_entry b t k).name_offset (table_names b t)) ≡ true
    ends =
        let short : length (name_of range) < length range = omega (arith, ap length read_name, here.long) in
        let yes : nat_lt (length (name_of range)) (length range) ≡ true = grind (arith, nat_tests) in
        ap has_nul same ∙ yes
