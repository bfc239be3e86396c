-- Flow lists token by token: scalars in brackets, parted by commas, that may go on over lines.
use Rattle.std.specs.Prelude.{ℕ, zero, suc, ◌+◌, ◌-◌, List, [], ◌∷◌, ◌++◌, length, map, Option, Some, None, Ok, ◌==◌, slice_index, if◌then◌else◌}
use Rattle.std.specs.Borrow.{Bor}
use Rattle.macho_stub_lines.specs.declared.list.Expect.{Expect}
use Rattle.macho_stub_lines.specs.declared.list.Expect.TheVariants.{AfterOpen, AfterComma, AfterName, Closed}
use Rattle.macho_stub_lines.specs.declared.list.OpenList.{OpenList}
use Rattle.macho_stub_lines.specs.declared.list.TokenKind.{TokenKind}
use Rattle.macho_stub_lines.specs.declared.list.TokenKind.TheVariants.{Gap, Comma, Close, Name}
use Rattle.macho_stub_lines.specs.Bytes.{space, comma, close_bracket, number_sign}
use Rattle.macho_stub_lines.specs.Scalars.{ScalarSpan, scalar_front}
use Rattle.macho_stub_lines.specs.Faults.{Reading, outside, ◌>>=◌}

-- texts by their bytes
abbrev pub texts : List (Bor (List ℕ)) → List (List ℕ)
texts names = map (λ name. name.now) names

-- A token of a list at the front of some bytes: its kind, the scalar if it is one, and how many bytes it takes.
pub record TokenSpan : Type 0 where
  pub kind : TokenKind
  pub text : List ℕ
  pub width : ℕ

-- a token that says nothing
abbrev pub mark : TokenKind → ℕ → TokenSpan
mark kind width = record { kind = kind; text = []; width = width }

-- The gap that a space begins, before the bytes: the space, with the comment that follows it at once.
abbrev pub gap : List ℕ → TokenSpan
gap bytes = if slice_index bytes 0 == number_sign then mark Gap (1 + length bytes) else mark Gap 1

-- the token of a scalar
abbrev pub name_token : ℕ → Option ScalarSpan → Reading TokenSpan
name_token line None = outside line
name_token line (Some scalar) = Ok (record { kind = Name; text = scalar.text; width = scalar.width })

-- the token that the bytes begin with
unfoldable pub token_front : ℕ → List ℕ → Reading TokenSpan
token_front line [] = outside line
token_front line (b ∷ bytes) =
    if b == space then Ok (gap bytes)
    else (if b == comma then Ok (mark Comma 1)
    else (if b == close_bracket then Ok (mark Close 1) else name_token line (scalar_front (b ∷ bytes))))

-- What stands behind a token: a comma stands behind a scalar alone, a scalar behind the bracket or a comma, and
-- nothing behind the closing bracket.
unfoldable pub behind : ℕ → Expect → TokenKind → Reading Expect
behind line expect Gap = Ok expect
behind line AfterOpen Close = Ok Closed
behind line AfterOpen Name = Ok AfterName
behind line AfterComma Close = Ok Closed
behind line AfterComma Name = Ok AfterName
behind line AfterName Comma = Ok AfterComma
behind line AfterName Close = Ok Closed
behind line expect kind = outside line

-- the scalars of a line of a list, and what may come next
pub record ListPart : Type 0 where
  pub names : List (List ℕ)
  pub expect : Expect

abbrev pub names_for : TokenKind → List ℕ → List (List ℕ)
names_for Name text = text ∷ []
names_for kind text = []

-- what was read of a list, without where it lies in memory
abbrev pub part_of : OpenList → ListPart
part_of part = record { names = texts part.names.items; expect = part.expect }

-- the scalar of a token, if it is one
abbrev pub names_of : TokenSpan → List (List ℕ)
names_of token = names_for token.kind token.text

-- more scalars behind these
abbrev pub with_front : List (List ℕ) → Reading ListPart → Reading ListPart
with_front front reading = reading >>= λ part. Ok (record { names = front ++ part.names; expect = part.expect })

-- The tokens of a line, from behind its first `skip` bytes, which belong to the token before.
unfoldable pub list_part : ℕ → Expect → ℕ → List ℕ → Reading ListPart
list_part line expect skip [] = Ok (record { names = []; expect = expect })
list_part line expect (suc skip) (b ∷ bytes) = list_part line expect skip bytes
list_part line expect zero (b ∷ bytes) = do
  token ← token_front line (b ∷ bytes)
  next ← behind line expect token.kind
  with_front (names_of token) (list_part line next (token.width - 1) bytes)
