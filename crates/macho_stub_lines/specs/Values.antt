-- What values of a stub text say, by their bytes alone: scalars, numbers, and the scalars of flow lists.
use Rattle.std.specs.Prelude.{◌≡◌, ◌≢◌, ℕ, ◌<◌, ◌≤◌, true, ◌&&◌, not, List, [], ◌∷◌, ◌++◌, length, replicate, slice_index, codes, ◌==◌, nat_lt}
use Rattle.std.specs.List.{AllByRecursion, list_any}
use Rattle.std.specs.Char.{is_ascii_digit}
use Rattle.macho_stub_lines.specs.Bytes.{space, is_tail}

-- A plain scalar has a byte or more, and none is a space, a control character of ASCII (127 is one too), a comma, a quote, a number sign,
-- a bracket or a brace. Nor has it a control character past ASCII, U+0080 to U+009F: in UTF-8 that is 0xC2 and a byte below 0xA0.
pub record IsPlain (text : List ℕ) : Type 0 where
  pub some : 0 < length text
  pub bytes : AllByRecursion (λ b. (nat_lt space b && not (b == 127) && not (list_any (λ mark. b == mark) (codes ",'\"#[]{}"))) ≡ true) text
  pub controls : (before behind : List ℕ) (b : ℕ) → text ≡ before ++ 0xC2 ∷ b ∷ behind → 0xA0 ≤ b

-- A scalar as it is spelled, and its text: plain; in single quotes (39), with none inside; or in double quotes (34), with none inside, and
-- no backslash (92).
pub data IsScalar : List ℕ → List ℕ → Type 0 where
  plain : (text : List ℕ) → IsPlain text → IsScalar text text
  single : (text : List ℕ) → AllByRecursion (λ b. b ≢ 39) text → IsScalar (codes "'" ++ text ++ codes "'") text
  double : (text : List ℕ) → AllByRecursion (λ b. (b ≢ 34) × (b ≢ 92)) text → IsScalar (codes "\"" ++ text ++ codes "\"") text

-- A number as it is spelled, in digits, and its digits without the zeros (48) in front (of 0 none), so that each number has one text.
abbrev pub IsNumber : List ℕ → List ℕ → Type 0
IsNumber digits text = (0 < length digits) × AllByRecursion (λ b. is_ascii_digit b ≡ true) digits
    × (zeros : ℕ) × (digits ≡ replicate zeros 48 ++ text) × (slice_index text 0 ≢ 48)

-- What may stand between the parts of a list, in front of the rest. Both are lists of lines, of which the first is what is left of its
-- line. It is spaces; or the rest of a line, which is spaces and a comment at most, and on the next line again what may stand between. The
-- first of the lines begins behind the part before. (Blank lines and lines of a comment alone aren't among the lines of a list.)
pub data IsGap : List (List ℕ) → List (List ℕ) → Type 0 where
  spaces : (count : ℕ) (line : List ℕ) (more : List (List ℕ)) → IsGap ((replicate count space ++ line) ∷ more) (line ∷ more)
  turn : (tail : List ℕ) (lines rest : List (List ℕ)) → is_tail tail ≡ true → IsGap lines rest → IsGap (tail ∷ lines) rest

-- The scalars of a list, by their texts, in front of the rest: behind each stands a comma, which the last one may lack.
pub data AreScalars : List (List ℕ) → List (List ℕ) → List (List ℕ) → Type 0 where
  none : (rest : List (List ℕ)) → AreScalars rest [] rest
  last : (bytes text line : List ℕ) (more rest : List (List ℕ)) → IsScalar bytes text → IsGap (line ∷ more) rest
      → AreScalars ((bytes ++ line) ∷ more) (text ∷ []) rest
  next : (bytes text line behind : List ℕ) (more under others texts rest : List (List ℕ)) → IsScalar bytes text
      → IsGap (line ∷ more) ((codes "," ++ behind) ∷ under) → IsGap (behind ∷ under) others → AreScalars others texts rest
      → AreScalars ((bytes ++ line) ∷ more) (text ∷ texts) rest
