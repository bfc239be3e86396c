-- A record with a path behind it: its bytes, and that it is found again.
--
-- The record's text and the path with its zeros are put next to each other, so they are one put. Together they are as
-- long as the command's size, which is the record's bytes, the path's, and the zeros up to a multiple of 8.
use Rattle.std.proofs.Common.{◌≡◌, ℕ, ◌+◌, ◌-◌, ◌≤◌, ◌⊎◌, List, ◌++◌, length, replicate, refl, sym, ap, subst, ◌∙◌, arith}
use Rattle.std.proofs.lemmas.List.{length-append, length-replicate}
use Rattle.macho_bytes.specs.Texts.{put}
use Rattle.macho_bytes.proofs.Puts.{put-put}
use Rattle.macho_wire.specs.declared.commands.DylinkerCommand.{DylinkerCommand}
use Rattle.macho_wire.specs.declared.commands.DylibCommand.{DylibCommand}
use Rattle.macho_wire.specs.declared.commands.RpathCommand.{RpathCommand}
use Rattle.macho_records.specs.declared.constants.TheConstants.{LC_ID_DYLIB, LC_LOAD_DYLIB, LC_LOAD_DYLINKER, LC_RPATH}
use Rattle.macho_model.specs.HeadCommands.{DYLINKER, path_command_size, path_filled, HeadCommand, dylinker_for, dylib_for, rpath_for}
use Rattle.macho_commands.specs.Texts.{text_said}
use Rattle.macho_commands.specs.Reading.{IsReadable}
use Rattle.macho_commands.proofs.Readable.{dylinker_readable, dylib_readable, rpath_readable}
use Rattle.macho_bytes.specs.Spellings.{spelling, ReadsBack}
use Rattle.macho_wire.specs.Spellings.{dylinker_command_rows, dylib_command_rows, rpath_command_rows}

-- the bytes of a path with its zeros
pub length-filled : (front : ℕ) (path : List ℕ) → front + length (path_filled front path) ≡ path_command_size front path
length-filled front path =
    let n : ℕ = path_command_size front path - front - length path in
    let gap : List ℕ = replicate n 0 in
    let count : length gap ≡ n = length-replicate n 0 in
    omega (arith, length-append path gap, count)

-- a record's text and the path behind it
pub path_written : (at front : ℕ) (text path before headed now : List ℕ) → length text ≡ front
    → at + path_command_size front path ≤ length before
    → headed ≡ put at text before → now ≡ put (at + front) (path_filled front path) headed
    → now ≡ put at (text ++ path_filled front path) before
path_written at front text path before headed now long room first second =
    second ∙ ap (put (at + front) (path_filled front path)) first
    ∙ put-put at (at + front) text (path_filled front path) before (omega (arith, long)) (omega (arith, length-filled front path))

pub length-path_written : (front : ℕ) (text path : List ℕ) → length text ≡ front
    → length (text ++ path_filled front path) ≡ path_command_size front path
length-path_written front text path long = length-append text (path_filled front path)
    ∙ ap (λ (n : ℕ). n + length (path_filled front path)) long ∙ length-filled front path

-- a command is written, has its size, and is found again
pub record Done (h : HeadCommand) (size at : ℕ) (before now : List ℕ) : Type 0 where
  pub written : now ≡ put at (text_said h) before
  pub long : length (text_said h) ≡ size
  pub readable : IsReadable h

-- the record of each path command, with a size
abbrev pub dylinker_sized : ℕ → DylinkerCommand
dylinker_sized n = record { cmd = LC_LOAD_DYLINKER; cmdsize = n; name_offset = 12 }

abbrev pub dylib_sized : ℕ → ℕ → ℕ → ℕ → ℕ → DylibCommand
dylib_sized number time current compatible n = record {
  cmd = number;
  cmdsize = n;
  name_offset = 24;
  timestamp = time;
  current_version = current;
  compatibility_version = compatible;
}

abbrev pub rpath_sized : ℕ → RpathCommand
rpath_sized n = record { cmd = LC_RPATH; cmdsize = n; name_offset = 12 }

pub dylinker_done : (n at : ℕ) (before headed now : List ℕ) → n ≡ path_command_size 12 DYLINKER
    → at + path_command_size 12 DYLINKER ≤ length before
    → ReadsBack dylinker_command_rows (dylinker_sized n) → headed ≡ put at (spelling dylinker_command_rows (dylinker_sized n)) before
    → now ≡ put (at + 12) (path_filled 12 DYLINKER) headed → Done dylinker_for (path_command_size 12 DYLINKER) at before now
unfolding text_said
dylinker_done n at before headed now sized room reads first second =
    let back : ReadsBack dylinker_command_rows (dylinker_sized (path_command_size 12 DYLINKER)) =
    subst (λ (k : ℕ). ReadsBack dylinker_command_rows (dylinker_sized k)) sized reads in
    let text : List ℕ = spelling dylinker_command_rows (dylinker_sized (path_command_size 12 DYLINKER)) in
    record {
      written = path_written at 12 text DYLINKER before headed now back.long room
          (first ∙ ap (λ (k : ℕ). put at (spelling dylinker_command_rows (dylinker_sized k)) before) sized) second;
      long = length-path_written 12 text DYLINKER back.long;
      readable = dylinker_readable (dylinker_sized (path_command_size 12 DYLINKER)) (path_filled 12 DYLINKER) refl
          (sym (length-filled 12 DYLINKER)) back;
    }

pub dylib_done : (number time current compatible : ℕ) (path : List ℕ) (n at : ℕ) (before headed now : List ℕ)
    → (number ≡ LC_ID_DYLIB) ⊎ (number ≡ LC_LOAD_DYLIB) → n ≡ path_command_size 24 path → at + path_command_size 24 path ≤ length before
    → ReadsBack dylib_command_rows (dylib_sized number time current compatible n)
    → headed ≡ put at (spelling dylib_command_rows (dylib_sized number time current compatible n)) before
    → now ≡ put (at + 24) (path_filled 24 path) headed
    → Done (dylib_for number time current compatible path) (path_command_size 24 path) at before now
unfolding text_said
dylib_done number time current compatible path n at before headed now known sized room reads first second =
    let told : ℕ → DylibCommand = dylib_sized number time current compatible in
    let back : ReadsBack dylib_command_rows (told (path_command_size 24 path)) =
    subst (λ (k : ℕ). ReadsBack dylib_command_rows (told k)) sized
    reads in
    let text : List ℕ = spelling dylib_command_rows (told (path_command_size 24 path)) in
    record {
      written = path_written at 24 text path before headed now back.long room
          (first ∙ ap (λ (k : ℕ). put at (spelling dylib_command_rows (told k)) before) sized) second;
      long = length-path_written 24 text path back.long;
      readable = dylib_readable (told (path_command_size 24 path)) (path_filled 24 path) known (sym (length-filled 24 path)) back;
    }

pub rpath_done : (path : List ℕ) (n at : ℕ) (before headed now : List ℕ) → n ≡ path_command_size 12 path
    → at + path_command_size 12 path ≤ length before
    → ReadsBack rpath_command_rows (rpath_sized n) → headed ≡ put at (spelling rpath_command_rows (rpath_sized n)) before
    → now ≡ put (at + 12) (path_filled 12 path) headed → Done (rpath_for path) (path_command_size 12 path) at before now
unfolding text_said
rpath_done path n at before headed now sized room reads first second =
    let back : ReadsBack rpath_command_rows (rpath_sized (path_command_size 12 path)) = subst
    (λ (k : ℕ). ReadsBack rpath_command_rows (rpath_sized k)) sized reads in
    let text : List ℕ = spelling rpath_command_rows (rpath_sized (path_command_size 12 path)) in
    record {
      written = path_written at 12 text path before headed now back.long room
          (first ∙ ap (λ (k : ℕ). put at (spelling rpath_command_rows (rpath_sized k)) before) sized) second;
      long = length-path_written 12 text path back.long;
      readable = rpath_readable (rpath_sized (path_command_size 12 path)) (path_filled 12 path) refl (sym (length-filled 12 path)) back;
    }
