-- The ranges that a placement keeps have just the room that a link's parts take.
use Rattle.std.specs.Prelude.{◌≡◌, ◌+◌, ◌*◌, List, length, sum_by, IsPermutation}
use Rattle.macho_model.specs.declared.placed.Counts.{Counts}
use Rattle.macho_model.specs.Links.{Link}
use Rattle.macho_model.specs.Resolution.{name_at}
use Rattle.macho_model.specs.Made.{initializers_of}
use Rattle.macho_model.specs.SymbolTable.{table_symbols}
use Rattle.macho_linkedit.specs.TableRows.{symbol_rows}
use Rattle.macho_model.specs.ImportTable.{fixup_count}
use Rattle.macho_model.specs.WrittenSum.{INITIALIZER_SIZE, SYMBOL_SIZE}
use Rattle.macho_model.specs.Placement.{Placed}
use Rattle.macho_fixups.specs.declared.run.Fixup.{Fixup}
use Rattle.macho_promise.specs.Sizes.{AreCounts, unwind_size, text_size}
use Rattle.macho_promise.specs.Asked.{fixups_asked}
use Rattle.macho_layout_laws.specs.Laws.{IsWhollyPlaced}
use Rattle.macho_signature.specs.declared.signature.Signer.{Signer}
use Rattle.macho_signature.specs.Sizes.{signature_size}
use Rattle.macho_head.specs.Signing.{IsSignerOf}
use Rattle.macho_linkedit.specs.Symbols.{SymbolTable, HasRows}

-- An offset for each initializer, the bound of the unwind information, the reserved trie, an entry for each symbol, and the names
-- with their NULs behind the entries.
pub record RangesAreKept (l : Link) (counts : Counts) (p : Placed) : Type 0 where
  pub initializers : p.init_offsets.end ≡ p.init_offsets.start + INITIALIZER_SIZE * length (initializers_of l)
  pub unwind : p.unwind.end ≡ p.unwind.start + unwind_size l
  pub trie : p.linkedit.trie.end ≡ p.linkedit.trie.start + counts.trie
  pub symbols : p.linkedit.symtab.end ≡ p.linkedit.symtab.start + SYMBOL_SIZE * length (table_symbols l)
  pub behind : p.linkedit.strtab.start ≡ p.linkedit.symtab.end
  pub strings : p.linkedit.strtab.end ≡ p.linkedit.strtab.start + (1 + sum_by (λ s. text_size (name_at l s)) (table_symbols l))

abbrev pub RangesSuffice : Type 0
RangesSuffice = (l : Link) (counts : Counts) (p : Placed) → IsWhollyPlaced l counts p → AreCounts l counts → RangesAreKept l counts p

-- A symbol table fills its two ranges, entries first.
pub record FillsTables (counts : Counts) (p : Placed) (t : SymbolTable) : Type 0 where
  pub many : length t.entries ≡ counts.symbols
  pub long : length t.strings ≡ counts.strings
  pub symbols : p.linkedit.symtab.end ≡ p.linkedit.symtab.start + SYMBOL_SIZE * length t.entries
  pub behind : p.linkedit.strtab.start ≡ p.linkedit.symtab.start + SYMBOL_SIZE * length t.entries
  pub strings : p.linkedit.strtab.end ≡ p.linkedit.strtab.start + length t.strings

abbrev pub SymbolsFill : Type 0
SymbolsFill =
    (l : Link) (counts : Counts) (p : Placed) (t : SymbolTable) → IsWhollyPlaced l counts p → AreCounts l counts
    → HasRows (symbol_rows l counts p) t → FillsTables counts p t

-- and a signature its range
abbrev pub SignaturesFill : Type 0
SignaturesFill =
    (l : Link) (counts : Counts) (p : Placed) (signer : Signer) → IsWhollyPlaced l counts p → AreCounts l counts → IsSignerOf l p signer
    → p.linkedit.signature.end
    ≡ p.linkedit.signature.start + signature_size (length signer.identifier.now) p.linkedit.signature.start

-- a run has as many words as the link is told to have
abbrev pub RunsAreCounted : Type 0
RunsAreCounted =
    (l : Link) (counts : Counts) (p : Placed) (run : List Fixup) → IsWhollyPlaced l counts p → IsPermutation (fixups_asked l p) run
    → length run ≡ fixup_count l
