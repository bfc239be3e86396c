-- A command is found again wherever its text stands.
--
-- Each record begins with the command's number and size, in the same four bytes each as the head that every command has:
-- so where a record reads back, the head does. Behind the record stand records of one size each, which read back one by
-- one, or a path, which is the bytes from the record's end to the command's.
use Rattle.std.proofs.Common.{◌≡◌, ℕ, zero, suc, ◌+◌, ◌*◌, ◌<◌, List, [], ◌∷◌, ◌++◌, length, get_or, map, slice_range, refl, ◌⊎◌, ap, ◌∙◌, arith}
use Rattle.std.specs.List.{flat_map, range_with_len}
use Rattle.std.proofs.lemmas.List.{ext_get_or}
use Rattle.std.proofs.lemmas.List.FromFn.{length-map-range_with_len, get_or-map-range_with_len}
use Rattle.macho_bytes.specs.Texts.{Stands}
use Rattle.macho_bytes.specs.Layouts.{reading, size_of}
use Rattle.macho_bytes.proofs.Numbers.{stands-front, stands-back}
use Rattle.macho_bytes.proofs.Tables.{EachLong, table-stands}
use Rattle.macho_records.specs.Layouts.{section_header}
use Rattle.macho_wire.specs.Layouts.{build_tool_version}
use Rattle.macho_records.specs.declared.header.SegmentCommand.{SegmentCommand}
use Rattle.macho_records.specs.declared.header.SectionHeader.{SectionHeader}
use Rattle.macho_records.specs.declared.symbols.SymtabCommand.{SymtabCommand}
use Rattle.macho_wire.specs.declared.commands.EntryPointCommand.{EntryPointCommand}
use Rattle.macho_wire.specs.declared.commands.DylinkerCommand.{DylinkerCommand}
use Rattle.macho_wire.specs.declared.commands.DylibCommand.{DylibCommand}
use Rattle.macho_wire.specs.declared.commands.RpathCommand.{RpathCommand}
use Rattle.macho_wire.specs.declared.commands.LinkeditDataCommand.{LinkeditDataCommand}
use Rattle.macho_wire.specs.declared.commands.UuidCommand.{UuidCommand}
use Rattle.macho_wire.specs.declared.commands.BuildVersionCommand.{BuildVersionCommand}
use Rattle.macho_wire.specs.declared.commands.BuildToolVersion.{BuildToolVersion}
use Rattle.macho_records.specs.declared.constants.TheConstants.{LC_BUILD_VERSION, LC_ID_DYLIB, LC_LOAD_DYLIB, LC_LOAD_DYLINKER, LC_MAIN, LC_RPATH, LC_SEGMENT_64, LC_SYMTAB, LC_UUID}
use Rattle.macho_model.specs.Agreement.{section_headers_at}
use Rattle.macho_model.specs.HeadCommands.{Segment, EntryPoint, Uuid, BuildVersion, Dylinker, Dylib, Rpath, LinkeditData, Symtab, behind, tools_at}
use Rattle.macho_commands.specs.Texts.{text_said}
use Rattle.macho_commands.specs.steps.Writing.{IsLinkedit, EachReadsBack}
use Rattle.macho_commands.specs.Reading.{IsReadable, placed_at}
use Rattle.macho_commands.proofs.Numbered.{in_segment, in_entry_point, in_uuid, in_build_version, in_dylinker, in_dylib, in_rpath, in_symtab, in_linkedit}
use Rattle.macho_bytes.specs.Spellings.{Spelled, spelling, ReadsBack}
use Rattle.macho_wire.specs.Spellings.{entry_point_command_rows, dylinker_command_rows, dylib_command_rows, rpath_command_rows, linkedit_data_command_rows, uuid_command_rows, build_version_command_rows, build_tool_version_rows}
use Rattle.macho_records.specs.Spellings.{segment_command_rows, section_header_rows, symtab_command_rows}

-- records of one size, one behind the other, are read one by one
pub records-read : {R : Type 0} (x : Spelled R) (w : ℕ) (rs : List R) (none : R) (b : List ℕ) (at : ℕ) → size_of x.layout ≡ w
    → EachReadsBack x rs
    → Stands b (record { at = at; text = flat_map (spelling x) rs })
    → map (λ k. reading x.layout b (at + w * k)) (range_with_len 0 (length rs))
    ≡ rs
records-read {R = R} x w rs none b at sized back s =
    ext_get_or none (map f (range_with_len 0 (length rs))) rs (length-map-range_with_len f 0 (length rs))
    (λ k lt.
    let below : k < length rs = omega (arith, length-map-range_with_len f 0 (length rs)) in
    get_or-map-range_with_len f 0 (length rs) k k none below (omega arith)
    ∙ (back.each k none below).back b (at + w * k) (table-stands (spelling x) w rs at k none b each below s))
  where
    f : ℕ → R
    f k = reading x.layout b (at + w * k)

    each : EachLong (spelling x) w rs
    each = record { long = λ k d lt. (back.each k d lt).long ∙ sized }

-- the text behind a record, up to a command's end
pub behind-stands : (b : List ℕ) (at w size : ℕ) (front path : List ℕ) → length front ≡ w → size ≡ w + length path
    → Stands b (record { at = at; text = front ++ path }) → slice_range b (at + w) (at + size) ≡ path
behind-stands b at w size front path long is s =
    let end : at + size ≡ at + w + length path = omega arith in
    ap (λ (n : ℕ). slice_range b (at + w) n) end ∙ (stands-back b at (at + w) front path (omega arith) s).same

-- any section header
abbrev pub no_header : SectionHeader
no_header = section_header_rows.blank

pub segment_readable : (r : SegmentCommand) (headers : List SectionHeader) (none : SectionHeader) → r.cmd ≡ LC_SEGMENT_64
    → r.nsects ≡ length headers
    → ReadsBack segment_command_rows r → EachReadsBack section_header_rows headers → IsReadable (Segment r headers)
unfolding text_said section_headers_at reading
segment_readable r headers none number count back each = record {
  found = λ b at s.
      let e = back.back b at (stands-front b at (spelling segment_command_rows r) (flat_map (spelling section_header_rows) headers) s) in
      let behind_it = stands-back b at (at + 72) (spelling segment_command_rows r) (flat_map (spelling section_header_rows) headers)
      (omega (arith, back.long)) s in
      let sections : section_headers_at b at ≡ headers =
      ap (λ (n : ℕ). map (λ k. reading section_header b (at + 72 + 80 * k)) (range_with_len 0 n))
      (ap (λ (x : SegmentCommand). x.nsects) e ∙ count)
      ∙ records-read section_header_rows 80 headers none b (at + 72) refl each behind_it in
      record {
        number = ap (λ (x : SegmentCommand). x.cmd) e;
        size = ap (λ (x : SegmentCommand). x.cmdsize) e;
        says = in_segment b (placed_at at (Segment r headers)) number
            ∙ ap (λ (x : SegmentCommand). Segment x (section_headers_at b at)) e ∙ ap (Segment r) sections;
      };
}

pub entry_point_readable : (r : EntryPointCommand) → r.cmd ≡ LC_MAIN → ReadsBack entry_point_command_rows r → IsReadable (EntryPoint r)
unfolding text_said reading
entry_point_readable r number back = record {
  found = λ b at s.
      let e = back.back b at s in
      record {
        number = ap (λ (x : EntryPointCommand). x.cmd) e;
        size = ap (λ (x : EntryPointCommand). x.cmdsize) e;
        says = in_entry_point b (placed_at at (EntryPoint r)) number ∙ ap EntryPoint e;
      };
}

pub uuid_readable : (r : UuidCommand) → r.cmd ≡ LC_UUID → ReadsBack uuid_command_rows r → IsReadable (Uuid r)
unfolding text_said reading
uuid_readable r number back = record {
  found = λ b at s.
      let e = back.back b at s in
      record {
        number = ap (λ (x : UuidCommand). x.cmd) e;
        size = ap (λ (x : UuidCommand). x.cmdsize) e;
        says = in_uuid b (placed_at at (Uuid r)) number ∙ ap Uuid e;
      };
}

pub symtab_readable : (r : SymtabCommand) → r.cmd ≡ LC_SYMTAB → ReadsBack symtab_command_rows r → IsReadable (Symtab r)
unfolding text_said reading
symtab_readable r number back = record {
  found = λ b at s.
      let e = back.back b at s in
      record {
        number = ap (λ (x : SymtabCommand). x.cmd) e;
        size = ap (λ (x : SymtabCommand). x.cmdsize) e;
        says = in_symtab b (placed_at at (Symtab r)) number ∙ ap Symtab e;
      };
}

pub linkedit_readable : (r : LinkeditDataCommand) → IsLinkedit r.cmd → ReadsBack linkedit_data_command_rows r → IsReadable (LinkeditData r)
unfolding text_said reading
linkedit_readable r number back = record {
  found = λ b at s.
      let e = back.back b at s in
      record {
        number = ap (λ (x : LinkeditDataCommand). x.cmd) e;
        size = ap (λ (x : LinkeditDataCommand). x.cmdsize) e;
        says = in_linkedit b (placed_at at (LinkeditData r)) number ∙ ap LinkeditData e;
      };
}

pub build_version_readable : (r : BuildVersionCommand) (tool : BuildToolVersion) → r.cmd ≡ LC_BUILD_VERSION → r.ntools ≡ 1
    → ReadsBack build_version_command_rows r
    → ReadsBack build_tool_version_rows tool → IsReadable (BuildVersion r (tool ∷ []))
unfolding text_said reading
build_version_readable r tool number one back tool_back = record {
  found = λ b at s.
      let e = back.back b at (stands-front b at (spelling build_version_command_rows r) (spelling build_tool_version_rows tool ++ []) s) in
      let behind_it = stands-back b at (at + 24) (spelling build_version_command_rows r) (spelling build_tool_version_rows tool ++ [])
      (omega (arith, back.long)) s in
      let each : EachReadsBack build_tool_version_rows (tool ∷ []) = record { each = λ k d lt. first_alone tool k d lt tool_back } in
      let tools : tools_at b at ≡ tool ∷ [] =
      ap (λ (n : ℕ). map (λ k. reading build_tool_version b (at + 24 + 8 * k)) (range_with_len 0 n))
      (ap (λ (x : BuildVersionCommand). x.ntools) e ∙ one)
      ∙ records-read build_tool_version_rows 8 (tool ∷ []) tool b (at + 24) refl each behind_it in
      record {
        number = ap (λ (x : BuildVersionCommand). x.cmd) e;
        size = ap (λ (x : BuildVersionCommand). x.cmdsize) e;
        says = in_build_version b (placed_at at (BuildVersion r (tool ∷ []))) number
            ∙ ap (λ (x : BuildVersionCommand). BuildVersion x (tools_at b at)) e ∙ ap (BuildVersion r) tools;
      };
}
  where
    first_alone : (tool : BuildToolVersion) (k : ℕ) (d : BuildToolVersion) → k < 1 → ReadsBack build_tool_version_rows tool
        → ReadsBack build_tool_version_rows (get_or (tool ∷ []) k d)
    first_alone tool zero d lt back = back
    first_alone tool (suc k) d lt back = absurd (omega arith)

pub dylinker_readable : (r : DylinkerCommand) (path : List ℕ) → r.cmd ≡ LC_LOAD_DYLINKER → r.cmdsize ≡ 12 + length path
    → ReadsBack dylinker_command_rows r
    → IsReadable (Dylinker r path)
unfolding text_said reading
dylinker_readable r path number size back = record {
  found = λ b at s.
      let e = back.back b at (stands-front b at (spelling dylinker_command_rows r) path s) in
      record {
        number = ap (λ (x : DylinkerCommand). x.cmd) e;
        size = ap (λ (x : DylinkerCommand). x.cmdsize) e;
        says = in_dylinker b (placed_at at (Dylinker r path)) number
            ∙ ap (λ (x : DylinkerCommand). Dylinker x (behind b (placed_at at (Dylinker r path)) 12)) e
            ∙ ap (Dylinker r) (behind-stands b at 12 r.cmdsize (spelling dylinker_command_rows r) path back.long size s);
      };
}

pub dylib_readable : (r : DylibCommand) (path : List ℕ) → (r.cmd ≡ LC_ID_DYLIB) ⊎ (r.cmd ≡ LC_LOAD_DYLIB) → r.cmdsize ≡ 24 + length path
    → ReadsBack dylib_command_rows r
    → IsReadable (Dylib r path)
unfolding text_said reading
dylib_readable r path number size back = record {
  found = λ b at s.
      let e = back.back b at (stands-front b at (spelling dylib_command_rows r) path s) in
      record {
        number = ap (λ (x : DylibCommand). x.cmd) e;
        size = ap (λ (x : DylibCommand). x.cmdsize) e;
        says = in_dylib b (placed_at at (Dylib r path)) number
            ∙ ap (λ (x : DylibCommand). Dylib x (behind b (placed_at at (Dylib r path)) 24)) e
            ∙ ap (Dylib r) (behind-stands b at 24 r.cmdsize (spelling dylib_command_rows r) path back.long size s);
      };
}

pub rpath_readable : (r : RpathCommand) (path : List ℕ) → r.cmd ≡ LC_RPATH → r.cmdsize ≡ 12 + length path → ReadsBack rpath_command_rows r
    → IsReadable (Rpath r path)
unfolding text_said reading
rpath_readable r path number size back = record {
  found = λ b at s.
      let e = back.back b at (stands-front b at (spelling rpath_command_rows r) path s) in
      record {
        number = ap (λ (x : RpathCommand). x.cmd) e;
        size = ap (λ (x : RpathCommand). x.cmdsize) e;
        says = in_rpath b (placed_at at (Rpath r path)) number
            ∙ ap (λ (x : RpathCommand). Rpath x (behind b (placed_at at (Rpath r path)) 12)) e
            ∙ ap (Rpath r) (behind-stands b at 12 r.cmdsize (spelling rpath_command_rows r) path back.long size s);
      };
}
