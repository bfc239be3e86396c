-- The definition of a name is the first of one list of candidates, so the first of its first part, else of the next part, and so on.
use Rattle.std.proofs.Common.{◌≡◌, ℕ, Bool, true, false, if◌then◌else◌, Option, Some, None, List, [], ◌∷◌, ◌++◌, map, refl, ap, ◌∙◌}
use Rattle.std.specs.Str.{bytes_eq}
use Rattle.std.proofs.lemmas.List.{map-append}
use Rattle.macho_model.specs.Lists.{of_first}
use Rattle.macho_model.specs.Links.{Link}
use Rattle.macho_model.specs.Resolution.{SymbolId, Definition, Symbol, Library, ImageBase, strong_of, greatest_of, libraries_with, definition_of}
use Rattle.macho_model.specs.steps.Resolved.{weak_of, first_definition, DSO_HANDLE}

of_both : {X Y : Type 0} (none : Y) (f : X → Y) (xs ys : List X) → of_first none f (xs ++ ys) ≡ of_first (of_first none f ys) f xs
of_both none f [] ys = refl
of_both none f (x ∷ xs) ys = refl

handle_if : (b : Bool) → of_first None Some (if b then ImageBase ∷ [] else []) ≡ (if b then Some ImageBase else None)
handle_if true = refl
handle_if false = refl

-- THE definition, kind by kind
pub definition_is_first : (l : Link) (name : List ℕ) → definition_of l name ≡ first_definition l name
unfolding definition_of first_definition weak_of
definition_is_first l name =
    of_both None Some (map Symbol ((strong ++ weak) ++ common) ++ libraries) image
    ∙ ap (λ (other : Option Definition). of_first other Some (map Symbol ((strong ++ weak) ++ common) ++ libraries))
    (handle_if (bytes_eq name DSO_HANDLE))
    ∙ of_both handle Some (map Symbol ((strong ++ weak) ++ common)) libraries
    ∙ ap (λ (ds : List Definition). of_first (of_first handle Some libraries) Some ds)
    (map-append Symbol (strong ++ weak) common ∙ ap (λ (ds : List Definition). ds ++ map Symbol common) (map-append Symbol strong weak))
    ∙ of_both (of_first handle Some libraries) Some (map Symbol strong ++ map Symbol weak) (map Symbol common)
    ∙ of_both (of_first (of_first handle Some libraries) Some (map Symbol common)) Some (map Symbol strong) (map Symbol weak)
  where
    strong : List SymbolId
    strong = strong_of l name

    weak : List SymbolId
    weak = weak_of l name

    common : List SymbolId
    common = greatest_of l name

    libraries : List Definition
    libraries = map Library (libraries_with l name)

    image : List Definition
    image = if bytes_eq name DSO_HANDLE then ImageBase ∷ [] else []

    handle : Option Definition
    handle = if bytes_eq name DSO_HANDLE then Some ImageBase else None
