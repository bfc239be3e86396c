-- What the words of a command line of ld64 ask for: words of the core, and what is noted beside them.
use Rattle.std.specs.Prelude.{ℕ, zero, suc, ◌+◌, List, [], ◌∷◌, ◌++◌, codes, length, take, nat_lt, nat_eq, ◌||◌, if◌then◌else◌, Result, Ok, Err, map}
use Rattle.std.specs.List.{starts_with}
use Rattle.std.specs.String.{string_bytes}
use Rattle.ld64_words.specs.declared.effects.Effect.{Effect}
use Rattle.ld64_words.specs.declared.effects.Effect.TheVariants.{Kept, Renamed, First, Lowest, Noted, Marked, Path, Ignored, Refused, Unread}
use Rattle.ld64_words.specs.declared.effects.Note.{Note}
use Rattle.ld64_words.specs.declared.fault.WordFault.{WordFault}
use Rattle.ld64_words.specs.declared.fault.WordFault.TheVariants.{MissingOperand, RefusedWord, UnreadFile}
use Rattle.ld64_words.specs.declared.reading.NotedWord.{NotedWord}
use Rattle.ld64_words.specs.declared.reading.CoreWords.{CoreWords}
use Rattle.ld64_words.specs.Rows.{OptionRow, row_for, count_of, operand_of, core_text}

-- what an option notes: what is asked for, the number of the option's word, and the operand
pub record Said : Type 0 where
  pub note : Note
  pub word : ℕ
  pub text : List ℕ

-- what the words ask for: words of the core, those that stand in front of all others, and what is noted
pub record Asked : Type 0 where
  pub front : List (List ℕ)
  pub words : List (List ℕ)
  pub notes : List Said

-- before any word is read
abbrev pub nothing_asked : Asked
nothing_asked = record { front = []; words = []; notes = [] }

-- The path of an input as a word of the core. One that would be read as an option, or as a file of words, gets `./` in front.
unfoldable pub input_word : List ℕ → List ℕ
input_word path =
    if starts_with nat_eq path (codes "-") || starts_with nat_eq path (codes "@") then codes "./" ++ path else path

-- words of the core, words in front of them, and a note, added to what is asked for
abbrev pub with_words : List (List ℕ) → Asked → Asked
with_words words s = record s { words = s.words ++ words }

abbrev pub with_front : List (List ℕ) → Asked → Asked
with_front words s = record s { front = s.front ++ words }

abbrev pub with_note : Note → ℕ → List ℕ → Asked → Asked
with_note note i text s = record s { notes = s.notes ++ record { note = note; word = i; text = text } ∷ [] }

-- What an option adds, which stands in the word i: by its words (its name and its operands) and its operand.
unfoldable pub with_effect : Effect → ℕ → List (List ℕ) → List ℕ → Asked → Result Asked WordFault
with_effect Kept i own operand s = Ok (with_words own s)
with_effect (Renamed name) i own operand s = Ok (with_words (core_text name ∷ operand ∷ []) s)
with_effect (First name) i own operand s = Ok (with_front (core_text name ∷ operand ∷ []) s)
with_effect Lowest i own operand s =
    Ok (with_words (operand ∷ operand ∷ []) (with_words (codes "-platform_version" ∷ codes "macos" ∷ []) s))
with_effect (Noted note) i own operand s = Ok (with_note note i operand s)
with_effect (Marked name note) i own operand s = Ok (with_note note i operand (with_words (core_text name ∷ operand ∷ []) s))
with_effect (Path note) i own operand s = Ok (with_note note i operand (with_words (input_word operand ∷ []) s))
with_effect (Ignored why) i own operand s = Ok s
with_effect (Refused why) i own operand s = Err (RefusedWord i why)
with_effect Unread i own operand s = Err (UnreadFile i)

-- `r >>= f` is `?` of Rust: what f makes of the value, or the fault
infixl 10 ◌>>=◌
abbrev pub ◌>>=◌ : {A B : Type 0} → Result A WordFault → (A → Result B WordFault) → Result B WordFault
Ok x >>= f = f x
Err fault >>= f = Err fault

-- The word i of this row, where these words stand behind it: what is asked for with it, and how many of the words behind it are its
-- operands.
unfoldable pub read_row : OptionRow → ℕ → List ℕ → List (List ℕ) → Asked → Result (Asked × ℕ) WordFault
read_row row i word behind s =
    let count = count_of row.operands in
    if nat_lt (length behind) count then Err (MissingOperand i)
    else with_effect row.effect i (word ∷ take count behind) (operand_of row word behind) s >>= λ after. Ok (after, count)

-- The words from number i on, of which the first `passed` are operands of the option before them.
unfoldable pub read_from : ℕ → ℕ → List (List ℕ) → Asked → Result Asked WordFault
read_from passed i [] s = Ok s
read_from zero i (word ∷ behind) s =
    read_row (row_for word behind) i word behind s >>= λ read. read_from read.1 (i + 1) behind read.0
read_from (suc passed) i (word ∷ behind) s = read_from passed (i + 1) behind s

-- THE words for the core that a command line gives, with what is noted beside them
pub record Given : Type 0 where
  pub words : List (List ℕ)
  pub notes : List Said

-- all words in order: those in front of all others first
abbrev pub given_from : Asked → Given
given_from s = record { words = s.front ++ s.words; notes = s.notes }

-- What the words ask for, or the fault of the first word that breaks its row's rule.
unfoldable pub given_by : List (List ℕ) → Result Given WordFault
given_by words = read_from 0 0 words nothing_asked >>= λ s. Ok (given_from s)

-- a note without where its text lies in memory
abbrev pub said_by : NotedWord → Said
said_by noted = record { note = noted.note; word = noted.word; text = string_bytes noted.text }

-- the words and the notes without where they lie in memory
abbrev pub given_of : CoreWords → Given
given_of core = record { words = map string_bytes core.words.items; notes = map said_by core.notes.items }
