-- A load command whose numbers are cut to their fields is found again wherever its bytes stand.
--
-- Each number is below the end of its field: one that was cut since it was, a constant since it is computed, a count of headers and a
-- size since the size of the command fits. Each text has its length. So each record reads back, and the command does; it has as many
-- bytes as it says, and at least 8.
use Rattle.std.proofs.Common.{◌≡◌, ℕ, ◌+◌, ◌*◌, ◌%◌, ◌^◌, ◌<◌, ◌≤◌, ◌⊎◌, Bool, true, false, List, [], ◌∷◌, ◌++◌, length, map, get_or, refl, sym, ap, ◌∙◌, arith, inl, inr, All}
use Rattle.std.specs.Prelude.{Some}
use Rattle.std.specs.Str.{bytes_eq}
use Rattle.std.specs.List.{flat_map}
use Rattle.std.proofs.lemmas.List.{length-map, length-append}
use Rattle.std.proofs.lemmas.List.Elements.{All-map, All-cons, All-nil}
use Rattle.macho_bytes.specs.Numbers.{AllBelow}
use Rattle.macho_bytes.proofs.Layouts.{reads_back, length-spelling}
use Rattle.macho_bytes.proofs.Numbers.{little_is_sound}
use Rattle.macho_records.specs.Segments.{text_of, segment_flags_of}
use Rattle.macho_records.specs.declared.header.SegmentCommand.{SegmentCommand}
use Rattle.macho_records.specs.declared.header.SectionHeader.{SectionHeader}
use Rattle.macho_records.specs.declared.constants.TheConstants.{LC_BUILD_VERSION, LC_ID_DYLIB, LC_LOAD_DYLIB, LC_MAIN, LC_SEGMENT_64, LC_SYMTAB, LC_UUID}
use Rattle.macho_records.specs.declared.symbols.SymtabCommand.{SymtabCommand}
use Rattle.macho_wire.specs.declared.commands.EntryPointCommand.{EntryPointCommand}
use Rattle.macho_wire.specs.declared.commands.DylinkerCommand.{DylinkerCommand}
use Rattle.macho_wire.specs.declared.commands.DylibCommand.{DylibCommand}
use Rattle.macho_wire.specs.declared.commands.RpathCommand.{RpathCommand}
use Rattle.macho_wire.specs.declared.commands.LinkeditDataCommand.{LinkeditDataCommand}
use Rattle.macho_wire.specs.declared.commands.UuidCommand.{UuidCommand}
use Rattle.macho_wire.specs.declared.commands.BuildVersionCommand.{BuildVersionCommand}
use Rattle.macho_wire.specs.declared.commands.BuildToolVersion.{BuildToolVersion}
use Rattle.macho_model.specs.declared.placed.PlacedSegment.{PlacedSegment}
use Rattle.macho_model.specs.Segments.{PAGEZERO, TEXT, DATA_CONST, LINKEDIT, loaded_protection_of}
use Rattle.macho_model.specs.Signature.{uuid_written}
use Rattle.macho_model.specs.HeadCommands.{DYLINKER, THIS_TOOL, THIS_VERSION, path_command_size, path_filled, HeadCommand, EntryPoint, Symtab, BuildVersion, size_said, uuid_for, versions_for, dylinker_for, dylib_for, rpath_for, linkedit_for}
use Rattle.macho_commands.specs.Texts.{text_said}
use Rattle.macho_commands.specs.Reading.{IsReadable}
use Rattle.macho_commands.specs.steps.Writing.{IsLinkedit, EachReadsBack}
use Rattle.macho_commands.proofs.Readable.{segment_readable, entry_point_readable, uuid_readable, build_version_readable, dylinker_readable, dylib_readable, rpath_readable, linkedit_readable, symtab_readable}
use Rattle.macho_commands.proofs.PathTexts.{length-filled, length-path_written, dylinker_sized, dylib_sized, rpath_sized}
use Rattle.macho_commands.proofs.Texts.{length-flat_map_same}
use Rattle.macho_head_laws.proofs.Cut.{segment_cut, header_cut}
use Rattle.macho_head_laws.proofs.Alike.{segment_with}
use Rattle.macho_bytes.specs.Spellings.{spelling, ReadsBack}
use Rattle.macho_wire.specs.Spellings.{entry_point_command_rows, dylinker_command_rows, dylib_command_rows, rpath_command_rows, linkedit_data_command_rows, uuid_command_rows, build_version_command_rows, build_tool_version_rows}
use Rattle.macho_records.specs.Spellings.{segment_command_rows, section_header_rows, symtab_command_rows}

-- A command has the bytes that it says, and is found again where their number fits its field.
pub record IsWhole (h : HeadCommand) : Type 0 where
  pub long : length (text_said h) ≡ size_said h
  pub least : 8 ≤ size_said h
  pub found : size_said h < 2 ^ 32 → IsReadable h

-- the names of a section header have their length
abbrev pub IsNamed : SectionHeader → Type 0
IsNamed h = (length h.sectname ≡ 16) × (length h.segname ≡ 16)

-- constants fit
protection_fits : (name : List ℕ) → loaded_protection_of name < 256 ^ 4
protection_fits name = by (bytes_eq name PAGEZERO) (bytes_eq name TEXT) (bytes_eq name LINKEDIT) refl refl refl
  where
    by : (x y z : Bool) → bytes_eq name PAGEZERO ≡ x → bytes_eq name TEXT ≡ y → bytes_eq name LINKEDIT ≡ z
        → loaded_protection_of name < 256 ^ 4
    by true y z e f g = rw e (omega arith)
    by false true z e f g = rw (e, f) (omega arith)
    by false false true e f g = rw (e, f, g) (omega arith)
    by false false false e f g = rw (e, f, g) (omega arith)

flags_fit : (name : List ℕ) → segment_flags_of name < 256 ^ 4
flags_fit name = by (bytes_eq name DATA_CONST) refl
  where
    by : (x : Bool) → bytes_eq name DATA_CONST ≡ x → segment_flags_of name < 256 ^ 4
    by true e = rw e (omega arith)
    by false e = rw e (omega arith)

-- numbers that are cut fit
cut_fit4 : (ns : List ℕ) → AllBelow 4 (map (λ n. n % 2 ^ 32) ns)
cut_fit4 [] = tt
cut_fit4 (n ∷ ns) = (omega arith, cut_fit4 ns)

cut_fit8 : (ns : List ℕ) → AllBelow 8 (map (λ n. n % 2 ^ 64) ns)
cut_fit8 [] = tt
cut_fit8 (n ∷ ns) = (omega arith, cut_fit8 ns)

-- a section header
header_back : (h : SectionHeader) → IsNamed h → ReadsBack section_header_rows (header_cut h)
header_back h named =
    let wide = cut_fit8 (h.addr ∷ h.size ∷ []) in
    let words = cut_fit4 (h.offset ∷ h.align ∷ h.reloff ∷ h.nreloc ∷ h.flags ∷ h.reserved1 ∷ h.reserved2 ∷ h.reserved3 ∷ []) in
    reads_back section_header_rows (header_cut h) little_is_sound (named.0, (named.1, ((wide, refl), ((words, refl), tt)))) refl

headers_back : (hs : List SectionHeader) → All IsNamed hs → EachReadsBack section_header_rows (map header_cut hs)
headers_back hs named = record {
  each = All-map (ReadsBack section_header_rows) header_cut hs (λ k d lt. header_back (get_or hs k d) (named k d lt));
}

headers_long : (hs : List SectionHeader) → All IsNamed hs
    → length (flat_map (spelling section_header_rows) (map header_cut hs)) ≡ 80 * length hs
headers_long hs named =
    length-flat_map_same (spelling section_header_rows) 80 (map header_cut hs) (λ k d lt. ((headers_back hs named).each k d lt).long)
    ∙ ap (λ (n : ℕ). 80 * n) (length-map hs header_cut)

-- a segment
segment_record : PlacedSegment → ℕ → SegmentCommand
segment_record s n = record {
  cmd = LC_SEGMENT_64;
  cmdsize = 72 + 80 * n;
  segname = s.name.0;
  vmaddr = s.address;
  vmsize = s.size;
  fileoff = s.file_offset;
  filesize = s.file_size;
  maxprot = loaded_protection_of (text_of s.name);
  initprot = loaded_protection_of (text_of s.name);
  nsects = n;
  flags = segment_flags_of (text_of s.name);
}

segment_back : (s : PlacedSegment) (n : ℕ) → length s.name.0 ≡ 16 → 72 + 80 * n < 2 ^ 32
    → ReadsBack segment_command_rows (segment_record (segment_cut s) n)
unfolding segment_record
segment_back s n named fits =
    let name : List ℕ = text_of s.name in
    let places = cut_fit8 (s.address ∷ s.size ∷ s.file_offset ∷ s.file_size ∷ []) in
    let size : 72 + 80 * n < 256 ^ 4 = omega (arith, fits) in
    let count : n < 256 ^ 4 = omega (arith, fits) in
    reads_back segment_command_rows (segment_record (segment_cut s) n) little_is_sound (
      ((omega arith, (size, tt)), refl),
      (named, ((places, refl), (((protection_fits name, (protection_fits name, (count, (flags_fit name, tt)))), refl), tt))),
    ) refl

segment_long : (s : PlacedSegment) (n : ℕ) → length s.name.0 ≡ 16
    → length (spelling segment_command_rows (segment_record (segment_cut s) n)) ≡ 72
unfolding segment_record
segment_long s n named =
    length-spelling segment_command_rows (segment_record (segment_cut s) n) little_is_sound (refl, (named, (refl, (refl, tt))))

pub segment_whole : (s : PlacedSegment) (hs : List SectionHeader) → length s.name.0 ≡ 16 → All IsNamed hs
    → IsWhole (segment_with (segment_cut s) (map header_cut hs))
unfolding text_said segment_record
segment_whole s hs named each =
    let n : ℕ = length (map header_cut hs) in
    let behind = headers_long hs each in
    let first = segment_long s n named in
    let both = length-append (spelling segment_command_rows (segment_record (segment_cut s) n))
    (flat_map (spelling section_header_rows) (map header_cut hs)) in
    record {
      long = omega (arith, behind, first, both, length-map hs header_cut);
      least = omega arith;
      found = λ fits. segment_readable (segment_record (segment_cut s) n) (map header_cut hs) section_header_rows.blank refl refl
          (segment_back s n named fits) (headers_back hs each);
    }

-- an entry, and the tables
pub entry_point_whole : (distance : ℕ)
    → IsWhole (EntryPoint (record { cmd = LC_MAIN; cmdsize = 24; entryoff = distance % 2 ^ 64; stacksize = 0 }))
unfolding text_said
entry_point_whole distance =
    let r : EntryPointCommand = record { cmd = LC_MAIN; cmdsize = 24; entryoff = distance % 2 ^ 64; stacksize = 0 } in
    let back : ReadsBack entry_point_command_rows r =
    reads_back entry_point_command_rows r little_is_sound
    (((omega arith, (omega arith, tt)), refl), (((omega arith, (omega arith, tt)), refl), tt)) refl in
    record { long = back.long; least = omega arith; found = λ fits. entry_point_readable r refl back }

pub linkedit_whole : (number at size : ℕ) → IsLinkedit number → IsWhole (linkedit_for number (at % 2 ^ 32) (size % 2 ^ 32))
unfolding text_said
linkedit_whole number at size known =
    let r : LinkeditDataCommand = record { cmd = number; cmdsize = 16; dataoff = at % 2 ^ 32; datasize = size % 2 ^ 32 } in
    let back : ReadsBack linkedit_data_command_rows r =
    reads_back linkedit_data_command_rows r little_is_sound
    (((number_fits number known, (omega arith, (omega arith, (omega arith, tt)))), refl), tt)
    refl in
    record { long = back.long; least = omega arith; found = λ fits. linkedit_readable r known back }
  where
    number_fits : (n : ℕ) → IsLinkedit n → n < 256 ^ 4
    number_fits n (inl is) = rw is (omega arith)
    number_fits n (inr (inl is)) = rw is (omega arith)
    number_fits n (inr (inr is)) = rw is (omega arith)

pub symtab_whole : (symbols count strings size : ℕ) → IsWhole (Symtab (record {
  cmd = LC_SYMTAB;
  cmdsize = 24;
  symoff = symbols % 2 ^ 32;
  nsyms = count % 2 ^ 32;
  stroff = strings % 2 ^ 32;
  strsize = size % 2 ^ 32;
}))
unfolding text_said
symtab_whole symbols count strings size =
    let r : SymtabCommand = record {
      cmd = LC_SYMTAB;
      cmdsize = 24;
      symoff = symbols % 2 ^ 32;
      nsyms = count % 2 ^ 32;
      stroff = strings % 2 ^ 32;
      strsize = size % 2 ^ 32;
    } in
    let words = cut_fit4 (symbols ∷ count ∷ strings ∷ size ∷ []) in
    let back : ReadsBack symtab_command_rows r =
    reads_back symtab_command_rows r little_is_sound (((omega arith, (omega arith, words)), refl), tt) refl in
    record { long = back.long; least = omega arith; found = λ fits. symtab_readable r refl back }

-- a UUID, and versions that fit
pub uuid_whole : (uuid : List ℕ) → IsWhole (uuid_for uuid)
unfolding text_said uuid_written
uuid_whole uuid =
    let r : UuidCommand = record { cmd = LC_UUID; cmdsize = 24; uuid = uuid_written uuid } in
    let back : ReadsBack uuid_command_rows r =
    reads_back uuid_command_rows r little_is_sound (((omega arith, (omega arith, tt)), refl), (refl, tt)) refl in
    record { long = back.long; least = omega arith; found = λ fits. uuid_readable r refl back }

pub versions_whole : (minimum sdk : ℕ) → minimum < 2 ^ 32 → sdk < 2 ^ 32 → All IsWhole (versions_for (Some (minimum, sdk)))
unfolding text_said
versions_whole minimum sdk low small =
    let r : BuildVersionCommand = record { cmd = LC_BUILD_VERSION; cmdsize = 32; platform = 1; minos = minimum; sdk = sdk; ntools = 1 } in
    let tool : BuildToolVersion = record { tool = THIS_TOOL; version = THIS_VERSION } in
    let least : minimum < 256 ^ 4 = omega (arith, low) in
    let most : sdk < 256 ^ 4 = omega (arith, small) in
    let back : ReadsBack build_version_command_rows r =
    reads_back build_version_command_rows r little_is_sound
    (((omega arith, (omega arith, (omega arith, (least, (most, (omega arith, tt)))))), refl), tt) refl in
    let tool_back : ReadsBack build_tool_version_rows tool =
    reads_back build_tool_version_rows tool little_is_sound (((omega arith, (omega arith, tt)), refl), tt) refl in
    let both = length-append (spelling build_version_command_rows r) (spelling build_tool_version_rows tool ++ []) in
    let last = length-append (spelling build_tool_version_rows tool) [] in
    let whole : IsWhole (BuildVersion r (tool ∷ [])) = record {
      long = omega (arith, both, last, back.long, tool_back.long);
      least = omega arith;
      found = λ fits. build_version_readable r tool refl refl back tool_back;
    } in
    All-cons IsWhole (BuildVersion r (tool ∷ [])) [] whole (All-nil IsWhole)

-- a path behind a record
pub dylinker_whole : IsWhole dylinker_for
unfolding text_said
dylinker_whole =
    let size : ℕ = path_command_size 12 DYLINKER in
    let r : DylinkerCommand = dylinker_sized size in
    let long = length-spelling dylinker_command_rows r little_is_sound (refl, tt) in
    record {
      long = length-path_written 12 (spelling dylinker_command_rows r) DYLINKER long;
      least = omega arith;
      found = λ fits.
          let back : ReadsBack dylinker_command_rows r =
          reads_back dylinker_command_rows r little_is_sound (((omega arith, (omega (arith, fits), (omega arith, tt))), refl), tt) refl in
          dylinker_readable r (path_filled 12 DYLINKER) refl (sym (length-filled 12 DYLINKER)) back;
    }

pub dylib_whole : (number time current compatible : ℕ) (path : List ℕ) → (number ≡ LC_ID_DYLIB) ⊎ (number ≡ LC_LOAD_DYLIB) → time < 2 ^ 32
    → current < 2 ^ 32 → compatible < 2 ^ 32 → IsWhole (dylib_for number time current compatible path)
unfolding text_said
dylib_whole number time current compatible path known time_fits current_fits compatible_fits =
    let size : ℕ = path_command_size 24 path in
    let r : DylibCommand = dylib_sized number time current compatible size in
    let long = length-spelling dylib_command_rows r little_is_sound (refl, tt) in
    let first : number < 256 ^ 4 = number_fits number known in
    let t : time < 256 ^ 4 = omega (arith, time_fits) in
    let c : current < 256 ^ 4 = omega (arith, current_fits) in
    let d : compatible < 256 ^ 4 = omega (arith, compatible_fits) in
    record {
      long = length-path_written 24 (spelling dylib_command_rows r) path long;
      least = omega arith;
      found = λ fits.
          let second : size < 256 ^ 4 = omega (arith, fits) in
          let back : ReadsBack dylib_command_rows r =
          reads_back dylib_command_rows r little_is_sound (((first, (second, (omega arith, (t, (c, (d, tt)))))), refl), tt) refl in
          dylib_readable r (path_filled 24 path) known (sym (length-filled 24 path)) back;
    }
  where
    number_fits : (n : ℕ) → (n ≡ LC_ID_DYLIB) ⊎ (n ≡ LC_LOAD_DYLIB) → n < 256 ^ 4
    number_fits n (inl is) = rw is (omega arith)
    number_fits n (inr is) = rw is (omega arith)

pub rpath_whole : (path : List ℕ) → IsWhole (rpath_for path)
unfolding text_said
rpath_whole path =
    let size : ℕ = path_command_size 12 path in
    let r : RpathCommand = rpath_sized size in
    let long = length-spelling rpath_command_rows r little_is_sound (refl, tt) in
    record {
      long = length-path_written 12 (spelling rpath_command_rows r) path long;
      least = omega arith;
      found = λ fits.
          let second : size < 256 ^ 4 = omega (arith, fits) in
          let back : ReadsBack rpath_command_rows r =
          reads_back rpath_command_rows r little_is_sound (((omega arith, (second, (omega arith, tt))), refl), tt) refl in
          rpath_readable r (path_filled 12 path) refl (sym (length-filled 12 path)) back;
    }
