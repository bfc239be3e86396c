-- The fixups of an image: which words the loader writes and what each is asked to become, and the fixup table and those words,
-- byte for byte (`mach-o/fixup-chains.h`).
use Rattle.std.specs.Prelude.{◌≡◌, ℕ, ◌+◌, ◌-◌, ◌*◌, ◌%◌, ◌^◌, ◌↔◌, true, if◌then◌else◌, List, [], ◌∷◌, map, get_or, Contains}
use Rattle.std.specs.List.{position_or_len}
use Rattle.macho_bytes.specs.Numbers.{little, row_bytes}
use Rattle.macho_bytes.specs.Texts.{Stands}
use Rattle.macho_model.specs.declared.placed.PlacedSection.{PlacedSection}
use Rattle.macho_model.specs.declared.placed.Slot.{Slot}
use Rattle.macho_model.specs.declared.targets.Target.{Target}
use Rattle.macho_model.specs.declared.targets.Target.TheVariants as target
use Rattle.macho_model.specs.Links.{Link}
use Rattle.macho_model.specs.Needs.{imports_of, import_library}
use Rattle.macho_model.specs.Exports.{library_number}
use Rattle.macho_model.specs.Segments.{list_if}
use Rattle.macho_model.specs.Fields.{Field, fields_of}
use Rattle.macho_model.specs.Values.{needs_fixup}
use Rattle.macho_model.specs.Placement.{Placed, id_of}
use Rattle.macho_model.specs.Addresses.{address_of}
use Rattle.macho_model.specs.Images.{Table, tables_of}
use Rattle.macho_model.specs.Fixups.{EntryOfImport, same_entry, has_room, import_entries_of, entries_have_addends, import_format}
use Rattle.macho_model.specs.ImportTable.{names_text, name_place}
use Rattle.macho_fixups.specs.declared.words.FixupKind.{FixupKind}
use Rattle.macho_fixups.specs.declared.words.FixupKind.TheVariants.{Rebase, Bind}
use Rattle.macho_fixups.specs.declared.run.Fixup.{Fixup}
use Rattle.macho_fixups.specs.declared.run.FixupSegment.{FixupSegment}
use Rattle.macho_fixups.specs.Rows.{table_rows, WordsStand}
use Rattle.macho_fixups.specs.Runs.{AreFixups}

-- the number of the entry of an import that has an addend of its own
abbrev pub own_number : Link → ℕ → ℕ → ℕ
own_number l id addend = position_or_len (same_entry (record { import = id; addend = addend })) (import_entries_of l)

-- What a word is asked to become: an import by its own number, with the addend in the word where there is room for it, else by the
-- entry that has the addend; any other target by its distance from the base.
abbrev pub kind_for : Link → Placed → Target → ℕ → FixupKind
kind_for l p (target.Import id) addend = if has_room addend then Bind id addend else Bind (own_number l id addend) 0
kind_for l p t addend = Rebase ((address_of p t + addend) % 2 ^ 64 - p.base)

-- a fixup is that of a slot, or of a pointer that needs one
pub data IsFixupOf (l : Link) (p : Placed) : Fixup → Type 0 where
  slot : (s : Slot) → Contains p.slots s → IsFixupOf l p (record { address = s.address; kind = kind_for l p s.target 0 })
  pointer : (q : PlacedSection) (f : Field) → Contains p.sections q → Contains (fields_of l (id_of q)) f → needs_fixup l (id_of q) f ≡ true
      → IsFixupOf l p (record { address = q.address + f.offset; kind = kind_for l p f.target f.addend })

-- the segments of a placement, as fixups see them
abbrev pub fixup_segments : Placed → List FixupSegment
fixup_segments p = map (λ s. record { address = s.address; size = s.size; file_offset = s.file_offset; file_size = s.file_size }) p.segments

-- an entry: a word that has, from its lowest bit, the number of the import's library (8 bits), whether it is weak (1 bit; none is) and the
-- place of its name (23 bits); and where the format has one, a signed addend
abbrev pub entry_row : Link → EntryOfImport → List ℕ
entry_row l e =
    let library = library_number l (import_library l (get_or (imports_of l) e.import [])) in
    row_bytes little 4 ((library + name_place l e.import * 2 ^ 9) ∷ list_if (entries_have_addends l) (e.addend ∷ []))

-- THE fixup table of the file and the words of its chains.
pub record FixupsSay (l : Link) (b : List ℕ) (p : Placed) : Type 0 where
  -- the fixups of the link, by address, as chains can hold them; all of them and no other
  pub fixups : List Fixup
  pub fits : AreFixups (fixup_segments p) fixups
  pub are : (f : Fixup) → Contains fixups f ↔ IsFixupOf l p f
  -- the file's one table, byte for byte: header, page starts, entries and names
  pub table : Table
  pub one : tables_of b ≡ table ∷ []
  pub text : Stands b (record {
    at = table.at;
    text = table_rows p.base fixups (fixup_segments p) (import_format l) (map (entry_row l) (import_entries_of l)) (names_text l);
  })
  -- and each word at its place, with the steps to the next one
  pub words : WordsStand (fixup_segments p) fixups b
