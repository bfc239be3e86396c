-- Flow lists as trees.
use Rattle.std.specs.Prelude.{◌≡◌, ◌≢◌, ℕ, ◌+◌, true, List, [], ◌∷◌, length, replicate, Option, None, Some, IfSome}
use Rattle.std.specs.List.{AllByRecursion}
use Rattle.macho_stub_lines.specs.Bytes.{space, comma, open_bracket, close_bracket, end, is_tail}
use Rattle.macho_stub_lines.specs.Slices.{Slice, Line}
use Rattle.macho_stub_lines.specs.Spelling.{ScalarTree, scalar_bytes, slice_of, IsScalar}
use Rattle.macho_stub_lines.specs.FlowLists.{Block, bytes_then, turn_then}

-- ---- the tree

-- What may stand between the parts of a list: spaces; or the rest of a line, which is spaces and a comment at most,
-- and on the next line, of this number and at this place, again what may stand between. (Blank lines and lines of a
-- comment alone aren't among the lines of a list.)
pub data Between : Type 0 where
  Spaces : ℕ → Between
  Turn : List ℕ → ℕ → ℕ → Between → Between

-- A scalar that a comma follows, with what stands before and behind the comma.
pub record Followed : Type 0 where
  pub scalar : ScalarTree
  pub before : Between
  pub behind : Between

-- A last scalar that no comma follows, with what stands behind it.
pub record Final : Type 0 where
  pub scalar : ScalarTree
  pub behind : Between

-- A list: what stands behind its bracket, the scalars that a comma follows, and perhaps one more.
pub record ListTree : Type 0 where
  pub opening : Between
  pub followed : List Followed
  pub final : Option Final

-- how these are spelled in front of what follows
abbrev pub between_then : Between → Block → Block
between_then (Spaces count) rest = bytes_then (replicate count space) rest
between_then (Turn tail number at between) rest = turn_then tail number at (between_then between rest)

abbrev pub followed_then : List Followed → Block → Block
followed_then [] rest = rest
followed_then (one ∷ others) rest = bytes_then (scalar_bytes one.scalar) (between_then one.before
    (bytes_then (comma ∷ []) (between_then one.behind (followed_then others rest))))

abbrev pub final_then : Option Final → Block → Block
final_then None rest = rest
final_then (Some one) rest = bytes_then (scalar_bytes one.scalar) (between_then one.behind rest)

abbrev pub list_then : ListTree → Block → Block
list_then tree rest = bytes_then (open_bracket ∷ []) (between_then tree.opening
    (followed_then tree.followed (final_then tree.final (bytes_then (close_bracket ∷ []) rest))))

-- ---- when it is sound

abbrev pub IsBetween : Between → Type 0
IsBetween (Spaces count) = Unit {0}
IsBetween (Turn tail number at between) = (is_tail tail ≡ true) × IsBetween between

pub record IsFollowed (one : Followed) : Type 0 where
  pub scalar : IsScalar one.scalar
  pub before : IsBetween one.before
  pub behind : IsBetween one.behind

pub record IsFinal (one : Final) : Type 0 where
  pub scalar : IsScalar one.scalar
  pub behind : IsBetween one.behind

pub record IsListTree (tree : ListTree) : Type 0 where
  pub opening : IsBetween tree.opening
  pub followed : AllByRecursion IsFollowed tree.followed
  pub final : IfSome tree.final IsFinal

-- ---- what it says

-- the place behind what stands between, where that begins at this place
abbrev pub behind_between : ℕ → Between → ℕ
behind_between at (Spaces count) = at + count
behind_between at (Turn tail number next between) = behind_between next between

-- the scalars, from this place on
abbrev pub slices_from : ℕ → List Followed → Option Final → List Slice
slices_from at [] None = []
slices_from at [] (Some one) = slice_of at one.scalar ∷ []
slices_from at (one ∷ others) final =
    let comma_at : ℕ = behind_between (at + length (scalar_bytes one.scalar)) one.before in
    slice_of at one.scalar ∷ slices_from (behind_between (comma_at + 1) one.behind) others final

-- the scalars of a list that begins at this place
abbrev pub slices_of : ℕ → ListTree → List Slice
slices_of at tree = slices_from (behind_between (at + 1) tree.opening) tree.followed tree.final

-- The value, which begins at this place, and the lines under it are a list of these scalars, and behind its closing
-- bracket stands nothing but spaces and a comment. A line `...` ends the document, so none is of the list.
pub record IsTreeList (at : ℕ) (value : List ℕ) (more : List Line) (says : List Slice) : Type 0 where
  pub tree : ListTree
  pub tail : List ℕ
  pub spelled : record { head = value; more = more } ≡ list_then tree (record { head = tail; more = [] })
  pub sound : IsListTree tree
  pub inside : AllByRecursion (λ line. line.text ≢ end) more
  pub ends : is_tail tail ≡ true
  pub is : says ≡ slices_of at tree
