-- What a change makes of an image.
use Rattle.std.specs.Prelude.{◌≡◌, ℕ, ◌+◌, ◌-◌, ◌<◌, ◌≤◌, true, List, length, map, max, slice_index, slice_range, All, Contains}
use Rattle.macho_bytes.specs.Layouts.{size_of}
use Rattle.macho_bytes.specs.Texts.{Stands, IsOutside}
use Rattle.macho_records.specs.Layouts.{mach_header}
use Rattle.macho_records.specs.declared.header.SegmentCommand.{SegmentCommand}
use Rattle.macho_records.specs.declared.header.MachHeader.{MachHeader}
use Rattle.macho_model.specs.Commands.{Command, header_of, commands_of, commands_end, path_of}
use Rattle.macho_model.specs.Images.{Table, mapped_segments, tables_of, ImportEntry, import_entry, import_name, import_library_name}
use Rattle.macho_model.specs.Chain.{chain_segments, IsFileWord, OnChainOf}
use Rattle.macho_model.specs.Loader.{IsAccepted, is_bind, ordinal_of}
use Rattle.macho_model.specs.Memory.{Choice, chosen, Covers, Holds}
use Rattle.macho_model.specs.Signature.{page_digests}
use Rattle.macho_retool.specs.declared.change.Change.{Change}
use Rattle.macho_retool.specs.Changes.{IsNamed, record_size, path_for, new_size, new_text, new_end, moved}
use Rattle.macho_retool.specs.Forms.{IsFormed, digests_place}

-- the bytes of a load command
abbrev pub text_of_command : List ℕ → Command → List ℕ
text_of_command b x = slice_range b x.at (x.at + x.size)

-- where the old and the new load commands are both over
abbrev pub both_end : Change → List ℕ → Command → ℕ
both_end change b c = max (commands_end b) (new_end change b c)

-- What file byte a segment maps at an address, if one does, stands from `from` on and below `to`.
abbrev pub IsMappedBetween : List ℕ → ℕ → ℕ → ℕ → Type 0
IsMappedBetween b from to a =
    (s : SegmentCommand) → Contains (mapped_segments b) s → s.vmaddr ≤ a → a < s.vmaddr + s.filesize
    → (from ≤ s.fileoff + (a - s.vmaddr)) × (s.fileoff + (a - s.vmaddr) < to)

-- For an import of b the choice i has the address that the choice j has for it where its library has the name that it has in c. So i is
-- j, read by the new names of the libraries; the import is that of b for both.
abbrev pub ChoosesAlike : List ℕ → Choice → List ℕ → Choice → Table → ImportEntry → Type 0
ChoosesAlike b i c j t import =
    chosen i (import_library_name b import) (import_name b t import) ≡ chosen j (import_library_name c import) (import_name b t import)

-- This holds of the import that a word binds.
abbrev pub BindAlike : List ℕ → Choice → List ℕ → Choice → ℕ → Type 0
BindAlike b i c j word = (t : Table) → Contains (tables_of b) t → ChoosesAlike b i c j t (import_entry b t (ordinal_of word))

-- This holds of the chain word that has the byte at an address, if one has it and binds an import.
abbrev pub ChooseAlike : List ℕ → Choice → List ℕ → Choice → ℕ → Type 0
ChooseAlike b i c j a =
    (word_at word : ℕ) → Covers b word_at a → ((other : ℕ) → Covers b other a → other ≤ word_at)
    → IsFileWord (chain_segments b) b word_at word → is_bind word ≡ true → BindAlike b i c j word

-- Two images are the same in memory, at every slide, but for the file bytes below `from` and those from `to` on: what either holds at an
-- address the other holds, where both choices agree on the import that is bound there.
pub record AreAlikeInMemory (b c : List ℕ) (from to : ℕ) : Type 0 where
  pub goes : (s a v : ℕ) (i j : Choice) → IsMappedBetween b from to a → ChooseAlike b i c j a → Holds b s i (a + s) v
      → Holds c s j (a + s) v
  pub comes : (s a v : ℕ) (i j : Choice) → IsMappedBetween b from to a → ChooseAlike b i c j a → Holds c s j (a + s) v
      → Holds b s i (a + s) v

-- the header afterwards: the bytes of its load commands are more or less, by what the named command is
abbrev pub header_with : ℕ → MachHeader → MachHeader
header_with size h =
    record {
      magic = h.magic;
      cputype = h.cputype;
      cpusubtype = h.cpusubtype;
      filetype = h.filetype;
      ncmds = h.ncmds;
      sizeofcmds = size;
      flags = h.flags;
      reserved = h.reserved;
    }

-- THE image c is b with one name changed: in `command`, and under the signature of table t. It has the length of b, and stays b in all that
-- the loader reads, but for that name.
pub record IsRetooledAt (change : Change) (b c : List ℕ) (command : Command) (t : Table) : Type 0 where
  pub named : IsNamed change b command
  pub formed : IsFormed b t
  pub accepted : IsAccepted c
  pub long : length c ≡ length b
  -- the load commands are the old ones, but for the size of the named one and the places behind it
  pub commands : commands_of c ≡ map (moved change command) (commands_of b)
  -- the named one is the new text, which holds the path
  pub is : Stands c (record { at = command.at; text = new_text change b command })
  pub path : path_of c (moved change command command) (record_size change) ≡ path_for change
  -- what stands in front of it stays, and what stands behind it, up to the end that the header gives, has moved; so each other one has
  -- its bytes
  pub front : (i : ℕ) → size_of mach_header ≤ i → i < command.at → slice_index c i ≡ slice_index b i
  pub behind : (i : ℕ) → command.at + command.size ≤ i → i < commands_end b
      → slice_index c (i + new_size change - command.size) ≡ slice_index b i
  pub others : All (λ x. (x.at ≡ command.at → ⊥) → text_of_command c (moved change command x) ≡ text_of_command b x) (commands_of b)
  -- the header is the old one but for the bytes of the load commands
  pub header : header_of c ≡ header_with (new_end change b command - size_of mach_header) (header_of b)
  -- what the load commands no longer need is zero
  pub freed : (i : ℕ) → new_end change b command ≤ i → i < commands_end b → slice_index c i ≡ 0
  -- the file bytes behind the load commands stay, but for the digests
  pub kept : (i : ℕ) → both_end change b command ≤ i
      → IsOutside i (record { at = digests_place b t; text = page_digests c t.at }) → slice_index c i ≡ slice_index b i
  -- each digest is that of its page of c: signing c anew gives the same
  pub signed : Stands c (record { at = digests_place b t; text = page_digests c t.at })
  -- the words on the chain are the same, and so is memory outside of header, load commands and signature
  pub chain : (a : ℕ) → (OnChainOf b a → OnChainOf c a) × (OnChainOf c a → OnChainOf b a)
  pub memory : AreAlikeInMemory b c (both_end change b command) t.at

abbrev pub IsRetooled : Change → List ℕ → List ℕ → Type 0
IsRetooled change b c = (command : Command) × (t : Table) × IsRetooledAt change b c command t
