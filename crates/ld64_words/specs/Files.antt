-- The files that a command line names in place of words: a file of words (`@FILE`), as LLVM's tools write and read it, and a list of inputs
-- (`-filelist FILE`), one path in a line.
use Rattle.std.specs.Prelude.{ℕ, List, [], ◌∷◌, ◌++◌, length, take, drop, map, codes, Bool, false, true, ◌==◌, ◌||◌, if◌then◌else◌, Option, Some, None}
use Rattle.std.specs.List.{before_first, after_first}
use Rattle.ld64_words.specs.declared.effects.Effect.{Effect}
use Rattle.ld64_words.specs.declared.effects.Effect.TheVariants.{Unread}
use Rattle.ld64_words.specs.declared.table.Operands.{Operands}
use Rattle.ld64_words.specs.declared.table.Operands.TheVariants.{Behind, Joined}
use Rattle.ld64_words.specs.Rows.{row_for, count_of, operand_of}
use Rattle.ld64_words.specs.declared.files.FileKind.{FileKind}
use Rattle.ld64_words.specs.declared.files.FileKind.TheVariants.{Words, Inputs}
use Rattle.ld64_words.specs.Words.{input_word}
use Rattle.ld64_words.specs.declared.named.NamedFile.{NamedFile}

-- What is cut of a file so far: whole texts, the text that is begun, the quote that is open, and whether a backslash stands before the next
-- byte.
pub record Cut : Type 0 where
  pub texts : List (List ℕ)
  pub begun : List ℕ
  pub quote : Option ℕ
  pub escaped : Bool

-- before any byte
abbrev pub nothing_cut : Cut
nothing_cut = record { texts = []; begun = []; quote = None; escaped = false }

-- a byte of the text that is begun
abbrev pub with_byte : ℕ → Cut → Cut
with_byte b s = record s { begun = s.begun ++ b ∷ []; escaped = false }

-- the text that is begun ends; an empty one is left out
abbrev pub ended : Cut → Cut
ended s = if length s.begun == 0 then s else record s { texts = s.texts ++ s.begun ∷ []; begun = [] }

-- a space, a tab, a line feed or a carriage return
abbrev pub is_blank : ℕ → Bool
is_blank b = (b == 32 || b == 9) || (b == 10 || b == 13)

-- Outside of quotes, `"` (34) and `'` (39) open them, and blanks end a word. Inside, the same quote closes them.
abbrev pub with_plain : Option ℕ → ℕ → Cut → Cut
with_plain (Some quote) b s = if b == quote then record s { quote = None } else with_byte b s
with_plain None b s =
    if b == 34 || b == 39 then record s { quote = Some b } else if is_blank b then ended s else with_byte b s

-- One byte more. In a file of words the byte behind a backslash (92) stands for itself. In a list each line feed ends a path.
unfoldable pub with_next : FileKind → ℕ → Cut → Cut
with_next Words b s =
    if s.escaped then with_byte b s else if b == 92 then record s { escaped = true } else with_plain s.quote b s
with_next Inputs b s = if b == 10 then ended s else with_byte b s

-- the bytes one after the other
unfoldable pub cut_from : FileKind → Cut → List ℕ → Cut
cut_from kind s [] = s
cut_from kind s (b ∷ bytes) = cut_from kind (with_next kind b s) bytes

-- THE texts of a file
unfoldable pub texts_in : FileKind → List ℕ → List (List ℕ)
texts_in kind bytes = (ended (cut_from kind nothing_cut bytes)).texts

-- a path below a folder; none where the folder's name is empty
abbrev pub below : List ℕ → List ℕ → List ℕ
below folder path = if length folder == 0 then path else folder ++ codes "/" ++ path

-- THE words that a list of inputs stands for
unfoldable pub inputs_in : List ℕ → List ℕ → List (List ℕ)
inputs_in folder bytes = map (λ path. input_word (below folder path)) (texts_in Inputs bytes)

-- a file that a word names: how it is cut, its path, and for a list the folder that its paths are below (empty, where none is given)
pub record FileSaid : Type 0 where
  pub kind : FileKind
  pub path : List ℕ
  pub folder : List ℕ

-- `@FILE` names a file of words. The operand of `-filelist` is the path of a list, and behind its first comma (44) the folder.
abbrev pub said_by_row : Effect → Operands → List ℕ → Option FileSaid
said_by_row Unread Joined text = Some (record { kind = Words; path = text; folder = [] })
said_by_row Unread (Behind count) text =
    Some (record { kind = Inputs; path = before_first (λ b. b == 44) text; folder = after_first (λ b. b == 44) text })
said_by_row effect operands text = None

-- THE file that a word names, where these words stand behind it, if it names one
unfoldable pub file_of : List ℕ → List (List ℕ) → Option FileSaid
file_of word behind =
    let row = row_for word behind in
    said_by_row row.effect row.operands (operand_of row word behind)

-- the words behind a word and its operands
unfoldable pub words_behind : List (List ℕ) → List (List ℕ)
words_behind [] = []
words_behind (word ∷ behind) = drop (count_of (row_for word behind).operands) behind

-- THE words with these texts in place of the word of a number and its operands
unfoldable pub expanded_of : List (List ℕ) → ℕ → List (List ℕ) → List (List ℕ)
expanded_of words place texts = (take place words ++ texts) ++ words_behind (drop place words)

-- a file that a word names, without where its texts lie in memory
abbrev pub file_said : NamedFile → FileSaid
file_said file = record { kind = file.kind; path = file.path.now; folder = file.folder.now }
