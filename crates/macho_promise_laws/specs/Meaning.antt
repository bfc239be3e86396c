-- What the texts of a link's file say, each by itself, as their writers hand it on.
use Rattle.std.specs.Prelude.{◌≡◌, ℕ, List, map, length, All}
use Rattle.std.specs.List.{flat_map}
use Rattle.macho_bytes.specs.Texts.{Stands}
use Rattle.macho_model.specs.declared.placed.Counts.{Counts}
use Rattle.macho_model.specs.Links.{Link}
use Rattle.macho_model.specs.Placement.{Placed}
use Rattle.macho_model.specs.Commands.{header_of}
use Rattle.macho_model.specs.Head as head
use Rattle.macho_model.specs.Head.{head_for}
use Rattle.macho_model.specs.HeadCommands.{header_for, commands_for, commands_in}
use Rattle.macho_model.specs.Signature.{signature_text}
use Rattle.macho_linkedit.specs.TableRows.{symbol_rows}
use Rattle.macho_model.specs.Told.{ToldExport}
use Rattle.macho_fixups.specs.declared.run.Fixup.{Fixup}
use Rattle.macho_signature.specs.declared.signature.Signer.{Signer}
use Rattle.macho_signature.specs.Sizes.{signed_by}
use Rattle.macho_promise.specs.TrieSays.{IsTrieText}
use Rattle.macho_promise.specs.Promise.{IsLinked}
use Rattle.macho_trie.specs.Tries.{FindsAll, FindsOnly}
use Rattle.macho_linkedit.specs.declared.exports.NamedExport.{NamedExport}
use Rattle.macho_linkedit.specs.declared.imports.ImportTable.{ImportTable}
use Rattle.macho_linkedit.specs.Imports.{AreTellable}
use Rattle.macho_linkedit.specs.Symbols.{SymbolTable, HasRows}
use Rattle.macho_linkedit.specs.Tries.{AreSaid, said}
use Rattle.macho_contents.specs.Chaining.{CanBeChained}
use Rattle.macho_contents.specs.Writing.{text_of_range}
use Rattle.macho_contents.specs.ChainingLaws.{TableIsOf}
use Rattle.macho_synthetic.specs.Made.{IsToMake, IsOffsetsText, IsUnwindMade}
use Rattle.macho_placed_laws.specs.Agreement.{NamesAreWhole}
use Rattle.macho_head.specs.Heads.{AreHeadParts, VersionsFit, head_bytes}
use Rattle.macho_head.specs.declared.commands.HeadParts.{HeadParts}
use Rattle.macho_head.specs.Signing.{IsSignerOf}
use Rattle.macho_placed_laws.specs.Parts.{written}
use Rattle.macho_promise_laws.specs.Whole.{IsReady}
use Rattle.macho_promise_laws.specs.Written.{AreContents, Texts, TextsFit, text_parts}
use Rattle.macho_bytes.specs.Spellings.{spelling, ReadsBack}
use Rattle.macho_records.specs.Spellings.{symtab_entry_rows}

-- The fixup table is that of a link's run and imports.
pub record FixupsMean (l : Link) (p : Placed) (run : List Fixup) (text : List ℕ) : Type 0 where
  pub imports : ImportTable
  pub is : text ≡ text_of_range p run imports
  pub of_link : TableIsOf l p run imports
  pub tellable : AreTellable l

-- The exports trie is that of a link's exports.
pub record TrieMeans (l : Link) (p : Placed) (text : List ℕ) : Type 0 where
  pub told : List ToldExport
  pub exports : List NamedExport
  pub said_are : AreSaid l p told exports
  pub exact : IsTrieText (map said exports) text
  pub all : FindsAll (map said exports) text
  pub only : FindsOnly (map said exports) text

-- The symbol table and its strings are those of a link's rows.
pub record SymbolsMean (l : Link) (counts : Counts) (p : Placed) (symbols strings : List ℕ) : Type 0 where
  pub table : SymbolTable
  pub rows : HasRows (symbol_rows l counts p) table
  pub entries_are : symbols ≡ flat_map (spelling symtab_entry_rows) table.entries
  pub strings_are : strings ≡ table.strings
  pub back : All (ReadsBack symtab_entry_rows) table.entries

-- What is made of consumed sections is made of a link's.
pub record MadeMeans (l : Link) (counts : Counts) (p : Placed) (initializers unwind : List ℕ) : Type 0 where
  pub of_link : IsToMake l counts p
  pub offsets : IsOffsetsText l p initializers
  pub entries : IsUnwindMade l p unwind

-- The head is that of a link, with a trie of so many bytes.
pub record HeadMeans (l : Link) (counts : Counts) (uuid : List ℕ) (p : Placed) (text : List ℕ) (trie : ℕ) : Type 0 where
  pub parts : HeadParts
  pub of_link : AreHeadParts l counts uuid p parts × (parts.trie_size ≡ trie)
  pub long : length text ≡ head_bytes p parts
  pub versions : VersionsFit l.versions
  pub is : text ≡ head_for l p (head.commands_for l counts p uuid trie)
  pub header : (b : List ℕ) → Stands b (record { at = 0; text = text }) → header_of b ≡ header_for l p (commands_for l counts p uuid trie)
  pub commands : (b : List ℕ) → Stands b (record { at = 0; text = text }) → commands_in b ≡ commands_for l counts p uuid trie
  pub names : NamesAreWhole l

-- The signature is a link's, of what stands in front of it in these bytes.
pub record SignatureMeans (l : Link) (p : Placed) (b text : List ℕ) : Type 0 where
  pub signer : Signer
  pub signs : IsSignerOf l p signer
  pub is : text ≡ signature_text (signed_by signer p.linkedit.signature.start) b

-- Every text says what it has to.
pub record TextsMean (l : Link) (counts : Counts) (uuid : List ℕ) (p : Placed) (run : List Fixup) (t : Texts) (b : List ℕ) : Type 0 where
  pub fixups : FixupsMean l p run t.fixups
  pub trie : TrieMeans l p t.trie
  pub symbols : SymbolsMean l counts p t.symbols t.strings
  pub made : MadeMeans l counts p t.initializers t.unwind
  pub head : HeadMeans l counts uuid p t.head (length t.trie)
  pub signature : SignatureMeans l p b t.signature

-- Contents and texts of a link were written, each into its range.
pub record IsWritten (l : Link) (counts : Counts) (uuid : List ℕ) (p : Placed) (b : List ℕ) : Type 0 where
  pub run : List Fixup
  pub contents : List ℕ
  pub texts : Texts
  pub filled : AreContents l p run p.linkedit.signature.end contents
  pub is : b ≡ written (text_parts p texts) contents
  pub says : TextsFit counts p texts × TextsMean l counts uuid p run texts b

-- then the file is an image as promised
abbrev pub WrittenIsLinked : Type 0
WrittenIsLinked =
    (l : Link) (counts : Counts) (uuid b : List ℕ) (p : Placed) → IsReady l counts p → CanBeChained l counts p → IsWritten l counts uuid p b
    → IsLinked l counts uuid b p
