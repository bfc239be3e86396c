-- The commands of a link by their number.
--
-- The list of a link's commands is eight pieces: segments, entry, UUID, versions, dynamic linker or own name, libraries,
-- paths, and the four of `__LINKEDIT`. Choosing by number goes piece by piece. All commands of a piece have one number
-- (the last piece has four), so each piece is kept whole or dropped whole, which is computed.
use Rattle.std.proofs.Common.{◌≡◌, ℕ, ◌==◌, Bool, true, false, List, [], ◌∷◌, ◌++◌, map, refl, ap}
use Rattle.std.specs.Prelude.{if◌then◌else◌, Option, Some, None}
use Rattle.std.proofs.lemmas.List.Elements.{filter-append}
use Rattle.macho_records.specs.declared.constants.TheConstants.{LC_BUILD_VERSION, LC_CODE_SIGNATURE, LC_DYLD_CHAINED_FIXUPS, LC_DYLD_EXPORTS_TRIE, LC_ID_DYLIB, LC_LOAD_DYLINKER, LC_RPATH}
use Rattle.macho_model.specs.declared.placed.Counts.{Counts}
use Rattle.macho_model.specs.Links.{Link}
use Rattle.macho_model.specs.Needs.{libraries_needed}
use Rattle.macho_model.specs.Placement.{Placed}
use Rattle.macho_model.specs.Segments.{list_if}
use Rattle.macho_model.specs.HeadCommands.{HeadCommand, segment_for, entry_point_for, uuid_for, versions_for, dylinker_for, dylib_for, needed_dylib_for, rpath_for, linkedit_for, symtab_for, commands_for}
use Rattle.macho_model.specs.Head.{range_size}
use Rattle.macho_commands.specs.Texts.{number_said}
use Rattle.macho_commands.proofs.Walked.{said_with}

-- a piece is kept whole, or dropped whole
pub all_kept : {X : Type 0} (n : ℕ) (f : X → HeadCommand) (xs : List X) → ((x : X) → (number_said (f x) == n) ≡ true)
    → said_with n (map f xs) ≡ map f xs
all_kept n f [] each = refl
all_kept n f (x ∷ xs) each = rw each (ap (λ (hs : List HeadCommand). f x ∷ hs) (all_kept n f xs each))

pub none_kept : {X : Type 0} (n : ℕ) (f : X → HeadCommand) (xs : List X) → ((x : X) → (number_said (f x) == n) ≡ false)
    → said_with n (map f xs) ≡ []
none_kept n f [] each = refl
none_kept n f (x ∷ xs) each = rw each (none_kept n f xs each)

pub entry_dropped : (n : ℕ) (e : Bool) (h : HeadCommand) → (number_said h == n) ≡ false → said_with n (list_if e (h ∷ [])) ≡ []
entry_dropped n true h other = rw other refl
entry_dropped n false h other = refl

pub entry_kept : (n : ℕ) (e : Bool) (h : HeadCommand) → (number_said h == n) ≡ true → said_with n (list_if e (h ∷ [])) ≡ list_if e (h ∷ [])
entry_kept n true h same = rw same refl
entry_kept n false h same = refl

versions_dropped : (n : ℕ) (v : Option (ℕ × ℕ)) → (LC_BUILD_VERSION == n) ≡ false → said_with n (versions_for v) ≡ []
versions_dropped n None other = refl
versions_dropped n (Some both) other = rw other refl

name_dropped : (n : ℕ) (e : Bool) (name : List ℕ) → (LC_LOAD_DYLINKER == n) ≡ false → (LC_ID_DYLIB == n) ≡ false
    → said_with n ((if e then dylinker_for else dylib_for LC_ID_DYLIB 1 0 0 name) ∷ []) ≡ []
name_dropped n true name one other = rw one refl
name_dropped n false name one other = rw other refl

-- what is chosen of each piece whose commands may be chosen
pub record Pieces (n : ℕ) (l : Link) (counts : Counts) (p : Placed) (uuid : List ℕ) (trie : ℕ) : Type 0 where
  pub segments : List HeadCommand
  pub entry : List HeadCommand
  pub uuids : List HeadCommand
  pub libraries : List HeadCommand
  pub tables : List HeadCommand
  pub segments_are : said_with n (map (segment_for p) p.segments) ≡ segments
  pub entry_is : said_with n (list_if l.executable (entry_point_for l p ∷ [])) ≡ entry
  pub uuid_is : said_with n (uuid_for uuid ∷ []) ≡ uuids
  pub libraries_are : said_with n (map needed_dylib_for (libraries_needed l)) ≡ libraries
  pub tables_are : said_with n (linkedit_for LC_DYLD_CHAINED_FIXUPS p.linkedit.fixups.start (range_size p.linkedit.fixups)
      ∷ linkedit_for LC_DYLD_EXPORTS_TRIE p.linkedit.trie.start trie ∷ symtab_for counts p
      ∷ linkedit_for LC_CODE_SIGNATURE p.linkedit.signature.start (range_size p.linkedit.signature) ∷ []) ≡ tables
  -- versions, the dynamic linker, the own name and paths are not
  pub no_versions : (LC_BUILD_VERSION == n) ≡ false
  pub no_dylinker : (LC_LOAD_DYLINKER == n) ≡ false
  pub no_id : (LC_ID_DYLIB == n) ≡ false
  pub no_rpath : (LC_RPATH == n) ≡ false

-- the chosen commands are the chosen of each piece
pub pieces-are : (n : ℕ) (l : Link) (counts : Counts) (p : Placed) (uuid : List ℕ) (trie : ℕ) (c : Pieces n l counts p uuid trie)
    → said_with n (commands_for l counts p uuid trie) ≡ c.segments ++ c.entry ++ c.uuids ++ [] ++ [] ++ c.libraries ++ [] ++ c.tables
unfolding commands_for
pieces-are n l counts p uuid trie c =
    simp filter-append (rw (
      c.segments_are,
      c.entry_is,
      c.uuid_is,
      versions_dropped n l.versions c.no_versions,
      name_dropped n l.executable l.install_name c.no_dylinker c.no_id,
      c.libraries_are,
      none_kept n rpath_for l.rpaths (λ path. c.no_rpath),
      c.tables_are,
    ) refl)
