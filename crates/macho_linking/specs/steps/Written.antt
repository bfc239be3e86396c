-- What each pass writes into the file of a placed link.
use Rattle.std.specs.Prelude.{◌≡◌, ℕ, ◌-◌, ◌≤◌, List, length}
use Rattle.macho_bytes.specs.Texts.{put}
use Rattle.macho_model.specs.declared.placed.Counts.{Counts}
use Rattle.macho_model.specs.Links.{Link}
use Rattle.macho_model.specs.Placement.{Placed, head_size}
use Rattle.macho_model.specs.Addresses.{offset_in_file}
use Rattle.macho_fixups.specs.declared.run.Fixup.{Fixup}
use Rattle.macho_promise_laws.specs.Meaning.{FixupsMean, TrieMeans, SymbolsMean, HeadMeans, SignatureMeans}
use Rattle.macho_promise_laws.specs.Made.{IsOffsetsText, IsUnwindMade}

-- The offsets of initializers stand at the front of their range.
pub record OffsetsArePut (l : Link) (p : Placed) (old new : List ℕ) : Type 0 where
  pub text : List ℕ
  pub is : new ≡ put (offset_in_file p p.init_offsets.start) text old
  pub fits : length text ≤ p.init_offsets.end - p.init_offsets.start
  pub says : IsOffsetsText l p text

-- The unwind information stands at the front of its range.
pub record UnwindIsPut (l : Link) (p : Placed) (old new : List ℕ) : Type 0 where
  pub text : List ℕ
  pub is : new ≡ put (offset_in_file p p.unwind.start) text old
  pub fits : length text ≤ p.unwind.end - p.unwind.start
  pub says : IsUnwindMade l p text

-- The fixup table fills its range.
pub record FixupsArePut (l : Link) (p : Placed) (run : List Fixup) (old new : List ℕ) : Type 0 where
  pub text : List ℕ
  pub is : new ≡ put p.linkedit.fixups.start text old
  pub fits : length text ≤ p.linkedit.fixups.end - p.linkedit.fixups.start
  pub says : FixupsMean l p run text

-- The exports trie of so many bytes stands at the front of its range.
pub record TrieIsPut (l : Link) (p : Placed) (size : ℕ) (old new : List ℕ) : Type 0 where
  pub text : List ℕ
  pub is : new ≡ put p.linkedit.trie.start text old
  pub long : length text ≡ size
  pub fits : length text ≤ p.linkedit.trie.end - p.linkedit.trie.start
  pub says : TrieMeans l p text

-- The symbols fill their range, and their strings that behind it.
pub record SymbolsArePut (l : Link) (counts : Counts) (p : Placed) (old new : List ℕ) : Type 0 where
  pub symbols : List ℕ
  pub strings : List ℕ
  pub is : new ≡ put p.linkedit.strtab.start strings (put p.linkedit.symtab.start symbols old)
  pub fits : length symbols ≤ p.linkedit.symtab.end - p.linkedit.symtab.start
  pub fit : length strings ≤ p.linkedit.strtab.end - p.linkedit.strtab.start
  pub says : SymbolsMean l counts p symbols strings

-- Header and load commands stand in front, and tell a trie of so many bytes.
pub record HeadIsWritten (l : Link) (counts : Counts) (uuid : List ℕ) (p : Placed) (trie : ℕ) (old new : List ℕ) : Type 0 where
  pub text : List ℕ
  pub is : new ≡ put 0 text old
  pub fits : length text ≤ head_size counts p
  pub says : HeadMeans l counts uuid p text trie

-- The signature ends the file, and is of what stands in front of it.
pub record SignatureIsPut (l : Link) (p : Placed) (old new : List ℕ) : Type 0 where
  pub text : List ℕ
  pub is : new ≡ put p.linkedit.signature.start text old
  pub fits : length text ≤ p.linkedit.signature.end - p.linkedit.signature.start
  pub says : SignatureMeans l p new text
