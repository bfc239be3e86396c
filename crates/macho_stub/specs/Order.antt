-- Which fault of a text is told first, and at which line. A line may stand behind others where lines in the grammar begin with those and
-- then this one; in the grammar no key is lacking, and none that is read stands twice. The fault is at the first line that may not stand
-- behind those before it, or at the end; where a key is lacking, its document's first line is told. Sample lines tell what may stand there:
-- `a: a` has a key that isn't read, and `- a: a` is the first line of an item with such a key.
use Rattle.std.specs.Prelude.{◌≡◌, ℕ, ◌+◌, ◌⊎◌, true, false, List, [], ◌∷◌, ◌++◌, length, map, replicate, codes}
use Rattle.std.specs.List.{AllByRecursion}
use Rattle.std.specs.Str.Lines.{lines}
use Rattle.macho_stub_lines.specs.declared.fault.StubRule.{StubRule}
use Rattle.macho_stub_lines.specs.declared.fault.StubRule.TheVariants.{S1, S2, S3}
use Rattle.macho_stub_lines.specs.Bytes.{space, indent, unspaced, is_passed, has_barred, head, end, has_dash}
use Rattle.macho_stub.specs.Documents.{DocumentFields}
use Rattle.macho_stub.specs.Grammar.{IsEntry, IsStubLines}

-- Lines in the grammar begin with these.
pub record MayBegin (first : List (List ℕ)) : Type 0 where
  pub more : List (List ℕ)
  pub says : List DocumentFields
  pub in_grammar : IsStubLines (first ++ more) says

-- Lines in the grammar begin with these and then this one.
abbrev pub MayStand : List (List ℕ) → List ℕ → Type 0
MayStand first line = MayBegin (first ++ line ∷ [])

-- the text, with its first byte in this column
abbrev pub in_column : ℕ → List ℕ → List ℕ
in_column column text = replicate column space ++ text

-- This is the number of the last line of which `IsSo` holds, with the lines before it.
pub record IsLastLine (IsSo : List (List ℕ) → List ℕ → Type 0) (number : ℕ) (texts : List (List ℕ)) : Type 0 where
  pub first : List (List ℕ)
  pub line : List ℕ
  pub more : List (List ℕ)
  pub parts : texts ≡ first ++ line ∷ more
  pub here : number ≡ length first + 1
  pub so : IsSo first line
  pub none : (a b : List (List ℕ)) (other : List ℕ) → more ≡ a ++ other ∷ b → IsSo (first ++ line ∷ a) other → ⊥

-- ---- a key is lacking

-- The line begins a next item: behind lines for the keys that are lacking, each with an empty list and all in one column, a dash may stand
-- in this line's column.
pub record IsNextItem (first : List (List ℕ)) (line : List ℕ) : Type 0 where
  pub dash : has_dash line ≡ true
  pub column : ℕ
  pub keys : List (List ℕ)
  pub needed : AllByRecursion (λ key. (key ≡ codes "targets: []") ⊎ (key ≡ codes "libraries: []")) keys
  pub begins : MayStand (first ++ map (in_column column) keys) (in_column (indent line) (codes "- a: a"))

-- The line ends an item in which a key is lacking: no line at column 0 may stand behind these lines, whatever it is, and this line is at
-- column 0 or begins the next item. Or it ends a document in which a key is lacking: more keys may stand behind these lines, but neither a
-- document's end nor a head, and this line is one of the two. A line with a byte that may stand nowhere ends neither.
pub record EndsWithout (first : List (List ℕ)) (line : List ℕ) : Type 0 where
  pub clean : has_barred line ≡ false
  pub lacks : (((other : List ℕ) → is_passed other ≡ false → indent other ≡ 0 → MayStand first other → ⊥)
      × (((is_passed line ≡ false) × (indent line ≡ 0)) ⊎ IsNextItem first line))
      ⊎ ((MayStand first (codes "a: a") × (MayStand first head → ⊥) × (MayStand first end → ⊥)) × ((line ≡ head) ⊎ (line ≡ end)))

-- ---- a key stands twice

-- The line has a key that stands before: another may stand in its column, but not this one, whatever follows it.
pub record StandsTwice (first : List (List ℕ)) (line : List ℕ) : Type 0 where
  pub clean : has_barred line ≡ false
  pub key : List ℕ
  pub behind : List ℕ
  pub is_key : IsEntry key behind
  pub spelled : unspaced line ≡ key ++ (codes ":" ++ behind)
  pub another : MayStand first (in_column (indent line) (codes "a: a"))
  pub not_again : (rest : List ℕ) → MayStand first (in_column (indent line) (key ++ (codes ":" ++ rest))) → ⊥

-- ---- the first fault

-- Why a line may not stand behind these: of a line outside the grammar, and of a second key, the line itself is told,
-- and of a lacking key the first line of its document, which is the last head.
abbrev pub IsWhy : StubRule → ℕ → List (List ℕ) → List ℕ → Type 0
IsWhy S1 number first line = (number ≡ length first + 1) × (EndsWithout first line → ⊥) × (StandsTwice first line → ⊥)
IsWhy S2 number first line = IsLastLine (λ before other. other ≡ head) number first × EndsWithout first line
IsWhy S3 number first line = (number ≡ length first + 1) × StandsTwice first line
IsWhy rule number first line = ⊥

-- The first line that may not stand behind those before it, and why.
pub record StopsAt (texts : List (List ℕ)) (number : ℕ) (rule : StubRule) : Type 0 where
  pub first : List (List ℕ)
  pub line : List ℕ
  pub rest : List (List ℕ)
  pub parts : texts ≡ first ++ line ∷ rest
  pub go_on : MayBegin first
  pub stuck : MayStand first line → ⊥
  pub why : IsWhy rule number first line

-- Why a text that goes on may not end here. It ends inside a flow list: a line `]` may stand here, and the list begins at the
-- last line in whose stead none may stand. Or an item may stand here and no key: the last line with content is a key of items,
-- and no item stands under it. Or a key is lacking: a line `...` here would end an item or a document that lacks one.
abbrev pub IsWhyAtEnd : StubRule → ℕ → List (List ℕ) → Type 0
IsWhyAtEnd S1 number texts =
    (MayStand texts (codes "]") × IsLastLine (λ before line. MayStand before (codes "]") → ⊥) number texts)
    ⊎ (MayStand texts (codes "- a: a") × (MayStand texts (codes "a: a") → ⊥)
    × IsLastLine (λ before line. is_passed line ≡ false) number texts)
IsWhyAtEnd S2 number texts = IsLastLine (λ before line. line ≡ head) number texts × EndsWithout texts end
IsWhyAtEnd rule number texts = ⊥

-- All lines may stand, but the text may not end behind them.
pub record StopsAtEnd (text : List ℕ) (number : ℕ) (rule : StubRule) : Type 0 where
  pub go_on : MayBegin (lines text)
  pub stuck : (says : List DocumentFields) → IsStubLines (lines text) says → ⊥
  pub why : IsWhyAtEnd rule number (lines text)
