-- How many bytes the load commands of a link have, whatever they say.
--
-- A command has 8 bytes in front of what it says, and a row of numbers has as many bytes as its width times their count. A command with a
-- path is filled to a multiple of 8. So the bytes of all commands of a link are a sum over its libraries and paths.
use Rattle.std.proofs.Common.{◌≡◌, ℕ, ◌+◌, ◌*◌, ◌-◌, Bool, true, false, if◌then◌else◌, List, [], ◌∷◌, ◌++◌, length, map, replicate, slice_index, refl, ◌∙◌, arith, Option, Some, None}
use Rattle.std.specs.Prelude.{sum_by}
use Rattle.std.specs.List.{concat}
use Rattle.std.proofs.lemmas.List.{length-append, length-replicate}
use Rattle.std.proofs.lemmas.List.Sums.{sum_by-append, sum_by-cons}
use Rattle.macho_bytes.specs.Numbers.{little, row_bytes, rounded_up}
use Rattle.macho_bytes.proofs.Numbers.{length-row_little}
use Rattle.macho_records.specs.declared.constants.TheConstants.{LC_BUILD_VERSION, LC_ID_DYLIB, LC_LOAD_DYLIB, LC_LOAD_DYLINKER, LC_MAIN, LC_RPATH, LC_UUID}
use Rattle.macho_model.specs.Links.{Link}
use Rattle.macho_model.specs.Needs.{libraries_needed}
use Rattle.macho_model.specs.Segments.{list_if}
use Rattle.macho_model.specs.Signature.{uuid_written}
use Rattle.macho_model.specs.Head.{command, path_command, versions_for, link_commands}
use Rattle.macho_model.specs.HeadCommands.{path_command_size, own_commands_size, versions_size, DYLINKER}
use Rattle.macho_model.specs.steps.Signature.{uuid_byte}
use Rattle.macho_model.proofs.Sections.{length-uuid}
use Rattle.macho_bytes.proofs.Maps.{length-joined}

pub length-command : (number : ℕ) (text : List ℕ) → length (command number text) ≡ 8 + length text
length-command number text =
    omega (
      arith,
      length-append (row_bytes little 4 (number ∷ (8 + length text) ∷ [])) text,
      length-row_little 4 (number ∷ (8 + length text) ∷ []),
    )

-- what a command with a path says
pub length-path_text : (numbers path : List ℕ)
    → (let front : ℕ = 12 + 4 * length numbers in
    length (row_bytes little 4 (front ∷ numbers) ++ (path ++ replicate (rounded_up 8 (front + length path + 1) - front - length path) 0)))
    ≡ path_command_size (12 + 4 * length numbers) path - 8
length-path_text numbers path =
    let front : ℕ = 12 + 4 * length numbers in
    let gap : ℕ = rounded_up 8 (front + length path + 1) - front - length path in
    omega (
      arith,
      length-row_little 4 (front ∷ numbers),
      length-append path (replicate gap 0),
      length-append (row_bytes little 4 (front ∷ numbers)) (path ++ replicate gap 0),
      length-replicate {A = ℕ} gap 0,
    )

pub length-path_command : (number : ℕ) (numbers path : List ℕ)
    → length (path_command number numbers path) ≡ path_command_size (12 + 4 * length numbers) path
length-path_command number numbers path =
    let front : ℕ = 12 + 4 * length numbers in
    let text : List ℕ =
    row_bytes little 4 (front ∷ numbers) ++ (path ++ replicate (rounded_up 8 (front + length path + 1) - front - length path) 0) in
    omega (arith, length-command number text, length-path_text numbers path)

each-long : (f : List ℕ → List ℕ) (size : List ℕ → ℕ) → ((x : List ℕ) → length (f x) ≡ size x) → (xs : List (List ℕ))
    → sum_by length (map f xs) ≡ sum_by size xs
each-long f size same [] = refl
each-long f size same (x ∷ xs) = omega (arith, same x, each-long f size same xs, sum_by-cons length (f x) (map f xs), sum_by-cons size x xs)

own-long : (executable : Bool) (entry : ℕ) (name : List ℕ)
    → sum_by length (list_if executable (command LC_MAIN (row_bytes little 8 (entry ∷ 0 ∷ [])) ∷ []))
    + sum_by length
    ((if executable then path_command LC_LOAD_DYLINKER [] DYLINKER else path_command LC_ID_DYLIB (1 ∷ 0 ∷ 0 ∷ []) name) ∷ [])
    ≡ (if executable then 24 + path_command_size 12 DYLINKER else path_command_size 24 name)
own-long true entry name =
    omega (
      arith,
      length-command LC_MAIN (row_bytes little 8 (entry ∷ 0 ∷ [])),
      length-row_little 8 (entry ∷ 0 ∷ []),
      length-path_command LC_LOAD_DYLINKER [] DYLINKER,
    )
own-long false entry name = omega (arith, length-path_command LC_ID_DYLIB (1 ∷ 0 ∷ 0 ∷ []) name)

versions-long : (v : Option (ℕ × ℕ)) → sum_by length (versions_for v) ≡ versions_size v
versions-long None = refl
versions-long (Some (minimum, sdk)) =
    let numbers : List ℕ = 1 ∷ minimum ∷ sdk ∷ 1 ∷ 1684826487 ∷ 0x00000b00 ∷ [] in
    omega (arith, length-command LC_BUILD_VERSION (row_bytes little 4 numbers), length-row_little 4 numbers)

-- THE bytes of a link's commands
pub length-link_commands : (l : Link) (uuid : List ℕ) (entry : ℕ)
    → length (concat (link_commands l uuid entry)) ≡ own_commands_size l + 24 + versions_size l.versions
    + sum_by (path_command_size 24) (libraries_needed l) + sum_by (path_command_size 12) l.rpaths
length-link_commands l uuid entry =
    length-joined (link_commands l uuid entry) ∙ simp sum_by-append (omega (
      arith,
      own-long l.executable entry l.install_name,
      length-command LC_UUID (uuid_written uuid),
      length-uuid uuid,
      versions-long l.versions,
      each-long (path_command LC_LOAD_DYLIB (2 ∷ 0x054c0000 ∷ 0x00010000 ∷ [])) (path_command_size 24)
          (length-path_command LC_LOAD_DYLIB (2 ∷ 0x054c0000 ∷ 0x00010000 ∷ [])) (libraries_needed l),
      each-long (path_command LC_RPATH []) (path_command_size 12) (length-path_command LC_RPATH []) l.rpaths,
    ))
