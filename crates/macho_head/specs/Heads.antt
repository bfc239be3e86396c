-- What the head of an image is made of, beside its placement.
use Rattle.std.specs.Prelude.{◌≡◌, ℕ, ◌+◌, ◌-◌, ◌<◌, ◌^◌, if◌then◌else◌, List, [], ◌∷◌, ◌++◌, length, map, sum_by, Option, IfSome}
use Rattle.macho_bytes.specs.Texts.{put, Stands}
use Rattle.macho_bytes.specs.Layouts.{size_of}
use Rattle.macho_records.specs.Layouts.{mach_header}
use Rattle.macho_records.specs.declared.constants.TheConstants.{LC_ID_DYLIB, LC_DYLD_CHAINED_FIXUPS, LC_DYLD_EXPORTS_TRIE, LC_CODE_SIGNATURE}
use Rattle.macho_model.specs.declared.placed.Counts.{Counts}
use Rattle.macho_model.specs.declared.placed.Linkedit.{Linkedit}
use Rattle.macho_model.specs.Commands.{header_of}
use Rattle.macho_model.specs.Links.{Link}
use Rattle.macho_model.specs.Needs.{libraries_needed}
use Rattle.macho_model.specs.Targets.{target_of_name}
use Rattle.macho_model.specs.Segments.{list_if}
use Rattle.macho_model.specs.Placement.{Placed}
use Rattle.macho_model.specs.Addresses.{address_of}
use Rattle.macho_model.specs.Signature.{uuid_written}
use Rattle.macho_model.specs.Head as head
use Rattle.macho_model.specs.Head.{range_size, head_for}
use Rattle.macho_model.specs.HeadCommands.{HeadCommand, commands_in, commands_for, header_for, segment_for, versions_for, dylinker_for, dylib_for, needed_dylib_for, rpath_for, linkedit_for, size_said}
use Rattle.macho_commands.specs.Commands.{entry_point_said, uuid_said, symtab_said}
use Rattle.macho_head.specs.declared.commands.HeadParts.{HeadParts}

-- These are the parts of a link's head, with a UUID and sizes that were counted.
pub record AreHeadParts (l : Link) (counts : Counts) (uuid : List ℕ) (p : Placed) (h : HeadParts) : Type 0 where
  pub executable : h.executable ≡ l.executable
  pub entry : h.entry ≡ address_of p (target_of_name l l.entry) - p.base
  pub uuid_is : h.uuid ≡ uuid_written uuid
  pub versions : h.versions ≡ l.versions
  pub install_name : h.install_name.now ≡ l.install_name
  pub libraries : map (λ n. n.items) h.libraries.now ≡ libraries_needed l
  pub rpaths : map (λ n. n.items) h.rpaths.now ≡ l.rpaths
  pub symbols : h.symbols ≡ counts.symbols
  pub strings : h.strings_size ≡ counts.strings

-- versions that are not cut to their fields
abbrev pub VersionsFit : Option (ℕ × ℕ) → Type 0
VersionsFit versions = IfSome versions (λ v. (v.0 < 2 ^ 32) × (v.1 < 2 ^ 32))

-- the tables end in a file of fewer than 2 ^ 32 bytes
pub record TablesAreSmall (t : Linkedit) : Type 0 where
  pub fixups : (t.fixups.start < 2 ^ 32) × (t.fixups.end < 2 ^ 32)
  pub trie : t.trie.start < 2 ^ 32
  pub symbols : t.symtab.start < 2 ^ 32
  pub strings : t.strtab.start < 2 ^ 32
  pub signature : (t.signature.start < 2 ^ 32) × (t.signature.end < 2 ^ 32)

-- the load commands by the parts of the head, and the bytes of the head with them
unfoldable pub commands_of_parts : Placed → HeadParts → List HeadCommand
commands_of_parts p h =
    map (segment_for p) p.segments ++ list_if h.executable (entry_point_said h.entry ∷ []) ++ uuid_said h.uuid ∷
    [] ++ versions_for h.versions
    ++ (if h.executable then dylinker_for else dylib_for LC_ID_DYLIB 1 0 0 h.install_name.now) ∷ []
    ++ map needed_dylib_for (map (λ n. n.items) h.libraries.now) ++ map rpath_for
    (map (λ n. n.items) h.rpaths.now)
    ++ linkedit_for LC_DYLD_CHAINED_FIXUPS p.linkedit.fixups.start (range_size p.linkedit.fixups)
    ∷ linkedit_for LC_DYLD_EXPORTS_TRIE p.linkedit.trie.start h.trie_size
    ∷ symtab_said
    (record {
      symbols_offset =
          p.linkedit.symtab.start;
      symbols = h.symbols;
      strings_offset = p.linkedit.strtab.start;
      strings_size = h.strings_size;
    })
    ∷ linkedit_for LC_CODE_SIGNATURE p.linkedit.signature.start (range_size p.linkedit.signature) ∷ []

abbrev pub head_bytes : Placed → HeadParts → ℕ
head_bytes p h = size_of mach_header + sum_by size_said (commands_of_parts p h)

-- The text of the link's head was put to the front of a file, and in every file that begins with it a reader finds header and commands.
pub record HeadIsPut (l : Link) (counts : Counts) (uuid : List ℕ) (p : Placed) (h : HeadParts) (before now : List ℕ) : Type 0 where
  pub text : List ℕ
  pub put_is : now ≡ put 0 text before
  pub long : length text ≡ head_bytes p h
  pub versions : VersionsFit l.versions
  pub is : text ≡ head_for l p (head.commands_for l counts p uuid h.trie_size)
  pub header : (b : List ℕ) → Stands b (record { at = 0; text = text })
      → header_of b ≡ header_for l p (commands_for l counts p uuid h.trie_size)
  pub commands : (b : List ℕ) → Stands b (record { at = 0; text = text }) → commands_in b ≡ commands_for l counts p uuid h.trie_size
