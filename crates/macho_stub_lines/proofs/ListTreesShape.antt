-- What remains of a list, and its tree.
-- The tree spells such remains, part by part. From the remains to the tree: a space or the rest of a line in front goes
-- to what stands between (`Spread`). Behind that stands, where a scalar stood before, a comma with the rest of the
-- list, or the closing bracket; and otherwise scalars and the closing bracket. A scalar in front of remains takes what
-- stands between up to the comma or the bracket, and the rest is a tree by then.
use Rattle.std.proofs.Common.{◌≡◌, ℕ, zero, suc, Bool, true, false, List, [], ◌∷◌, replicate, Option, None, Some, IfSome, refl, ap, sym, ◌∙◌, ◌⊎◌, inl, inr}
use Rattle.std.specs.List.{AllByRecursion}
use Rattle.macho_stub_lines.specs.Bytes.{space, comma, close_bracket, is_tail}
use Rattle.macho_stub_lines.specs.Slices.{texts_of}
use Rattle.macho_stub_lines.specs.steps.Spelling.{text_of}
use Rattle.macho_stub_lines.specs.Spelling.{scalar_bytes}
use Rattle.macho_stub_lines.specs.FlowLists.{Block, bytes_then, turn_then}
use Rattle.macho_stub_lines.specs.steps.ListTrees.{Between, Spaces, Turn, Followed, Final, ListTree, between_then, followed_then, final_then, IsBetween, IsFollowed, IsFinal, IsListTree, slices_from}
use Rattle.macho_stub_lines.proofs.ScalarTrees.{slice_text}
use Rattle.macho_stub_lines.proofs.ListTreesTails.{tail_spaced}
use Rattle.macho_stub_lines.proofs.ListTreesRemains.{Remains, Gap, Turned, Comma, Name, Close, ending}

-- the closing bracket, and what stands behind it
abbrev pub closing : List ℕ → Block
closing tail = bytes_then (close_bracket ∷ []) (ending tail)

-- ---- what a list says

abbrev final_texts : Option Final → List (List ℕ)
final_texts None = []
final_texts (Some one) = text_of one.scalar ∷ []

-- the texts of the scalars, in their order
abbrev pub texts_in : List Followed → Option Final → List (List ℕ)
texts_in [] final = final_texts final
texts_in (one ∷ others) final = text_of one.scalar ∷ texts_in others final

-- The texts of the slices don't depend on their places.
pub slices_say : (followed : List Followed) (final : Option Final) (at : ℕ) → texts_of (slices_from at followed final)
    ≡ texts_in followed final
slices_say [] None at = refl
slices_say [] (Some one) at = rw (slice_text at one.scalar) refl
slices_say (one ∷ others) final at = rw (slice_text at one.scalar)
    (ap (λ (texts : List (List ℕ)). text_of one.scalar ∷ texts) (slices_say others final _))

-- ---- from the tree to what remains

between_remains : (between : Between) (named : Bool) (rest : Block) (names : List (List ℕ)) → IsBetween between → Remains named rest names
    → Remains named (between_then between rest) names
between_remains (Spaces count) named rest names sound left = spaces_remain count
  where
    spaces_remain : (n : ℕ) → Remains named (bytes_then (replicate n space) rest) names
    spaces_remain zero = left
    spaces_remain (suc n) = Gap named (bytes_then (replicate n space) rest) names (spaces_remain n)
between_remains (Turn tail number at between) named rest names sound left =
    Turned named tail number at (between_then between rest) names sound.0 (between_remains between named rest names sound.1 left)

final_remains : (final : Option Final) (tail : List ℕ) → IfSome final IsFinal → is_tail tail ≡ true
    → Remains false (final_then final (closing tail)) (final_texts final)
final_remains None tail sound ends = Close false tail ends
final_remains (Some one) tail sound ends = Name one.scalar (between_then one.behind (closing tail)) [] sound.scalar
    (between_remains one.behind true (closing tail) [] sound.behind (Close true tail ends))

followed_remains : (followed : List Followed) (final : Option Final) (tail : List ℕ) → AllByRecursion IsFollowed followed
    → IfSome final IsFinal → is_tail tail ≡ true
    → Remains false (followed_then followed (final_then final (closing tail))) (texts_in followed final)
followed_remains [] final tail sound last ends = final_remains final tail last ends
followed_remains (one ∷ others) final tail sound last ends =
    let names = texts_in others final in
    let after_all = followed_then others (final_then final (closing tail)) in
    let after_comma = between_then one.behind after_all in
    Name one.scalar (between_then one.before (bytes_then (comma ∷ []) after_comma)) names sound.0.scalar
    (between_remains one.before true (bytes_then (comma ∷ []) after_comma) names sound.0.before
    (Comma after_comma names (between_remains one.behind false after_all names sound.0.behind
    (followed_remains others final tail sound.1 last ends))))

-- Behind its opening bracket, a list with its names remains.
pub list_remains : (tree : ListTree) (tail : List ℕ) → IsListTree tree → is_tail tail ≡ true
    → Remains false (between_then tree.opening (followed_then tree.followed (final_then tree.final (closing tail))))
    (texts_in tree.followed tree.final)
list_remains tree tail sound ends = between_remains tree.opening false (followed_then tree.followed (final_then tree.final (closing tail)))
    (texts_in tree.followed tree.final) sound.opening (followed_remains tree.followed tree.final tail sound.followed sound.final ends)

-- ---- from what remains to the tree

-- scalars, the last perhaps with no comma behind it, and the closing bracket
pub record Scalars (block : Block) (names : List (List ℕ)) : Type 0 where
  pub followed : List Followed
  pub final : Option Final
  pub tail : List ℕ
  pub spelled : block ≡ followed_then followed (final_then final (closing tail))
  pub sound : AllByRecursion IsFollowed followed
  pub last : IfSome final IsFinal
  pub ends : is_tail tail ≡ true
  pub say : texts_in followed final ≡ names

-- something, with what may stand between in front of it
pub record Spread (Says : Block → List (List ℕ) → Type 0) (block : Block) (names : List (List ℕ)) : Type 0 where
  pub between : Between
  pub rest : Block
  pub spelled : block ≡ between_then between rest
  pub sound : IsBetween between
  pub says : Says rest names

-- a comma with the rest of the list, or the closing bracket
pub record Commas (block : Block) (names : List (List ℕ)) : Type 0 where
  pub next : Block
  pub spelled : block ≡ bytes_then (comma ∷ []) next
  pub says : Spread Scalars next names

pub record Closes (block : Block) (names : List (List ℕ)) : Type 0 where
  pub tail : List ℕ
  pub spelled : block ≡ closing tail
  pub ends : is_tail tail ≡ true
  pub none : names ≡ []

-- what stands on from here
abbrev pub Onward : Bool → Block → List (List ℕ) → Type 0
Onward true block names = Commas block names ⊎ Closes block names
Onward false block names = Scalars block names

at_once : (Says : Block → List (List ℕ) → Type 0) (block : Block) (names : List (List ℕ)) → Says block names → Spread Says block names
at_once Says block names says = record { between = Spaces 0; rest = block; spelled = refl; sound = tt; says = says }

-- a space in front
spaced : (between : Between) → IsBetween between → (after : Between) × IsBetween after
    × ((rest : Block) → bytes_then (space ∷ []) (between_then between rest) ≡ between_then after rest)
spaced (Spaces count) sound = (Spaces (suc count), tt, λ rest. refl)
spaced (Turn tail number at between) sound = (Turn (space ∷ tail) number at between, (tail_spaced tail sound.0, sound.1), λ rest. refl)

-- What remains of a list is what may stand between, and then what stands on from there.
pub remains_spread : (named : Bool) (block : Block) (names : List (List ℕ)) → Remains named block names → Spread (Onward named) block names
remains_spread _ _ _ (Gap named rest names left) =
    let inner = remains_spread named rest names left in
    let after = spaced inner.between inner.sound in
    record {
      between = after.0;
      rest = inner.rest;
      spelled = ap (bytes_then (space ∷ [])) inner.spelled ∙ after.2 inner.rest;
      sound = after.1;
      says = inner.says;
    }
remains_spread _ _ _ (Turned named tail number at rest names ends left) =
    let inner = remains_spread named rest names left in
    record {
      between = Turn tail number at inner.between;
      rest = inner.rest;
      spelled = ap (turn_then tail number at) inner.spelled;
      sound = (ends, inner.sound);
      says = inner.says;
    }
remains_spread _ _ _ (Comma rest names left) = at_once (Onward true) (bytes_then (comma ∷ []) rest) names
    (inl (record { next = rest; spelled = refl; says = remains_spread false rest names left }))
remains_spread _ _ _ (Name scalar rest names sound left) = at_once (Onward false) (bytes_then (scalar_bytes scalar) rest)
    (text_of scalar ∷ names) (in_front (remains_spread true rest names left))
  where
    in_front : Spread (Onward true) rest names → Scalars (bytes_then (scalar_bytes scalar) rest) (text_of scalar ∷ names)
    in_front behind = by_what (behind.says)
      where
        by_what : Onward true behind.rest names → Scalars (bytes_then (scalar_bytes scalar) rest) (text_of scalar ∷ names)
        by_what (inl commas) = record {
          followed = record { scalar = scalar; before = behind.between; behind = commas.says.between } ∷ commas.says.says.followed;
          final = commas.says.says.final;
          tail = commas.says.says.tail;
          spelled = ap (bytes_then (scalar_bytes scalar)) (behind.spelled ∙ ap (between_then behind.between) (commas.spelled
              ∙ ap (bytes_then (comma ∷ [])) (commas.says.spelled ∙ ap (between_then commas.says.between) commas.says.says.spelled)));
          sound = (record { scalar = sound; before = behind.sound; behind = commas.says.sound }, commas.says.says.sound);
          last = commas.says.says.last;
          ends = commas.says.says.ends;
          say = ap (λ (texts : List (List ℕ)). text_of scalar ∷ texts) commas.says.says.say;
        }
        by_what (inr closes) = record {
          followed = [];
          final = Some (record { scalar = scalar; behind = behind.between });
          tail = closes.tail;
          spelled = ap (bytes_then (scalar_bytes scalar)) (behind.spelled ∙ ap (between_then behind.between) closes.spelled);
          sound = tt;
          last = record { scalar = sound; behind = behind.sound };
          ends = closes.ends;
          say = ap (λ (texts : List (List ℕ)). text_of scalar ∷ texts) (sym closes.none);
        }
remains_spread _ _ _ (Close true tail ends) = at_once (Onward true) (closing tail) []
    (inr (record { tail = tail; spelled = refl; ends = ends; none = refl }))
remains_spread _ _ _ (Close false tail ends) = at_once (Onward false) (closing tail) []
    (record { followed = []; final = None; tail = tail; spelled = refl; sound = tt; last = tt; ends = ends; say = refl })
