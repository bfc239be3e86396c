-- What stands on a line as a tree with places, how it is spelled, and when it is sound: scalars, numbers, and keys with their
-- values. `Values` has scalars and numbers by their bytes alone.
use Rattle.std.specs.Prelude.{◌≡◌, ◌≢◌, ℕ, ◌+◌, ◌<◌, true, false, List, [], ◌∷◌, ◌++◌, length, replicate}
use Rattle.std.specs.List.{AllByRecursion}
use Rattle.std.specs.Char.{is_ascii_digit}
use Rattle.macho_stub_lines.specs.Bytes.{space, colon, zero_digit, number_sign, single_quote, double_quote, backslash, is_plain_byte, is_key_byte, has_late_control, is_tail}
use Rattle.macho_stub_lines.specs.Slices.{Slice}

-- ---- scalars

-- A scalar: plain, in single quotes, or in double quotes.
pub data ScalarTree : Type 0 where
  Plain : List ℕ → ScalarTree
  Single : List ℕ → ScalarTree
  Double : List ℕ → ScalarTree

abbrev pub scalar_bytes : ScalarTree → List ℕ
scalar_bytes (Plain text) = text
scalar_bytes (Single text) = single_quote ∷ (text ++ single_quote ∷ [])
scalar_bytes (Double text) = double_quote ∷ (text ++ double_quote ∷ [])

-- the text of a scalar that begins at this place: it stands behind the quote
abbrev pub slice_of : ℕ → ScalarTree → Slice
slice_of at (Plain text) = record { at = at; text = text }
slice_of at (Single text) = record { at = at + 1; text = text }
slice_of at (Double text) = record { at = at + 1; text = text }

-- A plain scalar has a byte or more, each plain, and no control character.
pub record IsPlain (text : List ℕ) : Type 0 where
  pub some : 0 < length text
  pub bytes : AllByRecursion (λ b. is_plain_byte b ≡ true) text
  pub controls : has_late_control text ≡ false

-- Inside single quotes stands anything but a single quote, inside double quotes anything but a double quote or a
-- backslash.
abbrev pub IsScalar : ScalarTree → Type 0
IsScalar (Plain text) = IsPlain text
IsScalar (Single text) = AllByRecursion (λ b. b ≢ single_quote) text
IsScalar (Double text) = AllByRecursion (λ b. (b ≢ double_quote) × (b ≢ backslash)) text

-- The value, which begins at this place, is a scalar of that text, with nothing behind it but spaces and a comment.
pub record IsScalarValue (at : ℕ) (value : List ℕ) (says : Slice) : Type 0 where
  pub scalar : ScalarTree
  pub tail : List ℕ
  pub spelled : value ≡ scalar_bytes scalar ++ tail
  pub sound : IsScalar scalar
  pub ends : is_tail tail ≡ true
  pub is : says ≡ slice_of at scalar

-- ---- numbers

-- the digits don't begin with a zero
abbrev pub HasNoZeroInFront : List ℕ → Type 0
HasNoZeroInFront [] = Unit {0}
HasNoZeroInFront (digit ∷ digits) = digit ≢ zero_digit

-- The value, which begins at this place, is digits, with nothing behind them but spaces and a comment. What it says are
-- the digits without the zeros in front (of 0 none), so that each number has one spelling.
pub record IsNumberValue (at : ℕ) (value : List ℕ) (says : Slice) : Type 0 where
  pub zeros : ℕ
  pub tail : List ℕ
  pub spelled : value ≡ replicate zeros zero_digit ++ (says.text ++ tail)
  pub some : 0 < zeros + length says.text
  pub digits : AllByRecursion (λ b. is_ascii_digit b ≡ true) says.text
  pub shortest : HasNoZeroInFront says.text
  pub ends : is_tail tail ≡ true
  pub is : says.at ≡ at + zeros

-- ---- keys

-- What stands behind the colon of a key: nothing but spaces and a comment, or spaces and a value.
pub data Behind : Type 0 where
  NoValue : List ℕ → Behind
  Value : ℕ → List ℕ → Behind

-- A key, a colon, and what stands behind it on the line.
pub record EntryTree : Type 0 where
  pub key : List ℕ
  pub behind : Behind

abbrev pub behind_bytes : Behind → List ℕ
behind_bytes (NoValue tail) = tail
behind_bytes (Value gap value) = replicate gap space ++ value

abbrev pub entry_bytes : EntryTree → List ℕ
entry_bytes tree = tree.key ++ colon ∷ behind_bytes tree.behind

-- its value, empty where there is none
abbrev pub value_in : Behind → List ℕ
value_in (NoValue tail) = []
value_in (Value gap value) = value

abbrev pub value_of : EntryTree → List ℕ
value_of tree = value_in tree.behind

-- how many spaces stand before it
abbrev pub gap_of : Behind → ℕ
gap_of (NoValue tail) = 0
gap_of (Value gap value) = gap

-- its place, of an entry that begins at this place
abbrev pub value_at : ℕ → EntryTree → ℕ
value_at at tree = at + length tree.key + 1 + gap_of tree.behind

-- A value begins with a byte that is no space and begins no comment.
abbrev pub IsValue : List ℕ → Type 0
IsValue [] = ⊥
IsValue (b ∷ value) = (b ≢ space) × (b ≢ number_sign)

abbrev pub IsBehind : Behind → Type 0
IsBehind (NoValue tail) = is_tail tail ≡ true
IsBehind (Value gap value) = (0 < gap) × IsValue value

-- A key has a byte or more: letters, digits and dashes.
pub record IsEntry (tree : EntryTree) : Type 0 where
  pub some : 0 < length tree.key
  pub bytes : AllByRecursion (λ b. is_key_byte b ≡ true) tree.key
  pub behind : IsBehind tree.behind
