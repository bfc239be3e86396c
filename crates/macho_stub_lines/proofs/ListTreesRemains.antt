-- What remains of a flow list, from some place in it on: what the tree of a list and the reading of it share.
-- It is a space, the rest of a line, a comma, a scalar or the closing bracket, and then what remains behind that. The
-- reading gives it token by token, whatever the lines are; the tree gathers what stands between the scalars.
-- Its first byte tells where the token before it ends: behind a scalar no plain byte stands, so that the longest front
-- of plain bytes is the scalar; and no number sign is first, so that a space before it begins no comment.
use Rattle.std.proofs.Common.{◌≡◌, ◌≢◌, ℕ, Bool, true, false, List, [], ◌∷◌, refl, arith, inl, inr, ◌⊎◌, ap, sym, ◌∙◌}
use Rattle.macho_stub_lines.specs.Bytes.{space, comma, close_bracket, number_sign, single_quote, double_quote, is_mark, is_plain_byte, is_tail}
use Rattle.macho_stub_lines.specs.Spelling.{ScalarTree, Plain, Single, Double, scalar_bytes, IsScalar}
use Rattle.macho_stub_lines.specs.steps.Spelling.{text_of}
use Rattle.macho_stub_lines.specs.FlowLists.{Block, bytes_then, turn_then}
use Rattle.macho_stub_lines.proofs.ScalarTrees.{EndsPlain, tail_ends}
use Rattle.macho_stub_lines.proofs.ListTreesTails.{tail_begins}

-- the last of the lines
abbrev pub ending : List ℕ → Block
ending tail = record { head = tail; more = [] }

-- What is left of a list with these names in it, where a scalar stands before or not.
pub data Remains : Bool → Block → List (List ℕ) → Type 0 where
  Gap : (named : Bool) (rest : Block) (names : List (List ℕ)) → Remains named rest names
      → Remains named (bytes_then (space ∷ []) rest) names
  Turned : (named : Bool) (tail : List ℕ) (number at : ℕ) (rest : Block) (names : List (List ℕ)) → is_tail tail ≡ true
      → Remains named rest names → Remains named (turn_then tail number at rest) names
  Comma : (rest : Block) (names : List (List ℕ)) → Remains false rest names → Remains true (bytes_then (comma ∷ []) rest) names
  Name : (scalar : ScalarTree) (rest : Block) (names : List (List ℕ)) → IsScalar scalar → Remains true rest names
      → Remains false (bytes_then (scalar_bytes scalar) rest) (text_of scalar ∷ names)
  Close : (named : Bool) (tail : List ℕ) → is_tail tail ≡ true
      → Remains named (bytes_then (close_bracket ∷ []) (ending tail)) []

-- ---- what scalars and tails begin with

-- no number sign is first
abbrev pub NoComment : List ℕ → Type 0
NoComment [] = Unit {0}
NoComment (b ∷ bytes) = b ≢ number_sign

-- a byte that a scalar may begin with
pub record BeginsScalar (b : ℕ) : Type 0 where
  pub no_space : b ≢ space
  pub no_comma : b ≢ comma
  pub no_close : b ≢ close_bracket
  pub no_sign : b ≢ number_sign

plain_begins : (b : ℕ) → is_plain_byte b ≡ true → BeginsScalar b
unfolding is_plain_byte is_mark
plain_begins b h = record {
  no_space = λ e. differ space refl e;
  no_comma = λ e. differ comma refl e;
  no_close = λ e. differ close_bracket refl e;
  no_sign = λ e. differ number_sign refl e;
}
  where
    differ : (other : ℕ) → is_plain_byte other ≡ false → b ≡ other → ⊥
    differ other barred e = let plain : is_plain_byte other ≡ true = ap is_plain_byte (sym e) ∙ h in cc

quote_begins : (b : ℕ) → (b ≡ single_quote) ⊎ (b ≡ double_quote) → BeginsScalar b
quote_begins b h =
    record { no_space = omega arith; no_comma = omega arith; no_close = omega arith; no_sign = omega arith }

-- A scalar has a first byte: none of those that the other parts of a list begin with.
pub scalar_begins : (scalar : ScalarTree) → IsScalar scalar → (b : ℕ) × (bytes : List ℕ)
    × (scalar_bytes scalar ≡ b ∷ bytes) × BeginsScalar b
scalar_begins (Plain []) sound = absurd (omega (arith, sound.some))
scalar_begins (Plain (b ∷ text)) sound = (b, text, refl, plain_begins b sound.bytes.0)
scalar_begins (Single text) sound = (_, _, refl, quote_begins single_quote (inl refl))
scalar_begins (Double text) sound = (_, _, refl, quote_begins double_quote (inr refl))

tail_no_comment : (tail : List ℕ) → is_tail tail ≡ true → NoComment tail
tail_no_comment [] h = tt
tail_no_comment (b ∷ bytes) h = λ e. omega (arith, (tail_begins b bytes h).0)

-- ---- what the remains begin with

-- behind a scalar no plain byte stands
pub plain_ended : (named : Bool) (block : Block) (names : List (List ℕ)) → Remains named block names → named ≡ true → EndsPlain block.head
unfolding is_plain_byte is_mark
plain_ended _ _ _ (Gap named rest names left) e = refl
plain_ended _ _ _ (Turned named tail number at rest names ends left) e = tail_ends tail ends
plain_ended _ _ _ (Comma rest names left) e = refl
plain_ended _ _ _ (Name scalar rest names sound left) e = absurd cc
plain_ended _ _ _ (Close named tail ends) e = refl

-- what remains of a list begins no comment
pub comment_free : (named : Bool) (block : Block) (names : List (List ℕ)) → Remains named block names → NoComment block.head
comment_free _ _ _ (Gap named rest names left) = λ e. omega arith
comment_free _ _ _ (Turned named tail number at rest names ends left) = tail_no_comment tail ends
comment_free _ _ _ (Comma rest names left) = λ e. omega arith
comment_free _ _ _ (Name scalar rest names sound left) =
    let begins = scalar_begins scalar sound in rw begins.2 begins.3.no_sign
comment_free _ _ _ (Close named tail ends) = λ e. omega arith
