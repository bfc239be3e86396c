-- The definition of a name is what its best event gives it. The best is the first of those that are as good as it, and
-- none is better. So the classes above its own are empty, and it is the first of its own class: of the strong ones, of the
-- weak ones, of the greatest commons, or of those that libraries offer.
use Rattle.std.proofs.Common.{◌≡◌, ℕ, ◌<◌, Bool, true, false, ◌&&◌, ◌==◌, Option, Some, None, List, [], ◌∷◌, map, filter, All, refl, ap, sym, ◌∙◌, arith, suc}
use Rattle.std.proofs.lemmas.Bool.{false≢true}
use Rattle.macho_model.specs.Links.{Link}
use Rattle.macho_model.specs.Resolution.{SymbolId, Definition, Symbol, Library, definition_of, strong_of, commons_of, greatest_of, libraries_with}
use Rattle.macho_model.specs.steps.Resolved.{first_or, weak_of, first_definition}
use Rattle.macho_symbol_names.specs.declared.notes.Sort.{Sort}
use Rattle.macho_symbol_names.specs.declared.notes.Sort.TheVariants.{Section, Absolute, Common, Offered, Nowhere}
use Rattle.macho_symbol_names.specs.Kept.{kept_of}
use Rattle.macho_symbol_names.specs.Events.{Event, strength, strength_of, beats, is_of, events, best_of}
use Rattle.macho_symbol_names.specs.steps.Levels.{is_level}
use Rattle.macho_symbols.specs.steps.Targets.{event_of}
use Rattle.macho_symbols.specs.Targets.{id_of, image_base, defined_as, definition_by}
use Rattle.macho_symbol_names.proofs.Order.{stronger_beats, ties_strength}
use Rattle.macho_symbol_names.proofs.Best.{best_is, IsBest, none_of, and_false}
use Rattle.macho_symbols.proofs.Classes.{strong_class, weak_class, common_class}
use Rattle.macho_symbols.proofs.Greatest.{greatest_first}
use Rattle.macho_symbols.proofs.Offering.{libraries_empty, libraries_first}
use Rattle.macho_model.proofs.Resolved.{definition_is_first}
use Rattle.macho_bytes.proofs.Maps.{filter_same_test}
use Rattle.macho_bytes.proofs.Bools.{is_equal, both_parts}

abbrev of_class : ℕ → List ℕ → Event → Bool
of_class c name e = (strength e.row == c) && is_of name e

-- no event is of a class above the best's
pub none_above : (name : List ℕ) (es : List Event) (b : Event) (c : ℕ) → All (λ x. is_of name x ≡ true → beats x.row b.row ≡ false) es
    → strength b.row < c
    → filter (of_class c name) es ≡ []
none_above name [] b c unbeaten above = refl
none_above name (x ∷ xs) b c unbeaten above =
    of (of_class c name x) refl (none_above name xs b c (λ k d h. unbeaten (suc k) d (omega (arith, h))) above)
  where
    of : (t : Bool) → of_class c name x ≡ t → filter (of_class c name) xs ≡ [] → filter (of_class c name) (x ∷ xs) ≡ []
    of false is rest = rw is rest
    of true is rest =
        let parts = both_parts (strength x.row == c) (is_of name x) is in
        let strong : strength x.row ≡ c = is_equal (strength x.row) c parts.0 in
        absurd (false≢true (sym (unbeaten 0 x (omega arith) parts.1) ∙ stronger_beats x.row b.row (omega (arith, strong, above))))

-- no event is of any class, where there is no best
pub none_at_all : (name : List ℕ) (es : List Event) (c : ℕ) → All (λ x. is_of name x ≡ false) es → filter (of_class c name) es ≡ []
none_at_all name [] c none = refl
none_at_all name (x ∷ xs) c none =
    let fails : of_class c name x ≡ false = ap (λ t. (strength x.row == c) && t) (none 0 x (omega arith))
    ∙ and_false (strength x.row == c) in
    rw fails (none_at_all name xs c (λ k d h. none (suc k) d (omega (arith, h))))

-- the best is the first of its class, if that is not the commons'
pub first_of_class : (name : List ℕ) (es : List Event) (b : Event) (c : ℕ) → IsBest name es b → strength b.row ≡ c → (c == 2) ≡ false
    → (more : List Event) × (filter (of_class c name) es ≡ b ∷ more)
first_of_class name es b c is s other = (
  is.more,
  filter_same_test (of_class c name) (is_level name b) es
      (λ x. ap (λ t. t && is_of name x) (sym (ties_strength b.row x.row c s other))) ∙ is.first,
)

-- a list of symbols by the list of their events
no_symbols : (l : Link) (xs : List SymbolId) → map (event_of l) xs ≡ [] → xs ≡ []
no_symbols l [] e = refl
no_symbols l (x ∷ xs) e = cc

first_symbol : (l : Link) (xs : List SymbolId) (b : Event) (more : List Event) (other : Option Definition) → map (event_of l) xs ≡ b ∷ more
    → first_or (map Symbol xs) other ≡ Some (Symbol (id_of b))
first_symbol l [] b more other e = cc
first_symbol l (x ∷ xs) b more other e = let same : event_of l x ≡ b = cc in ap (λ v. Some (Symbol (id_of v))) same

strong_empty : (l : Link) (name : List ℕ) → filter (of_class 4 name) (events (map kept_of l.inputs)) ≡ [] → strong_of l name ≡ []
strong_empty l name e = no_symbols l (strong_of l name) (strong_class l name ∙ e)

weak_empty : (l : Link) (name : List ℕ) → filter (of_class 3 name) (events (map kept_of l.inputs)) ≡ [] → weak_of l name ≡ []
weak_empty l name e = no_symbols l (weak_of l name) (weak_class l name ∙ e)

greatest_empty : (l : Link) (name : List ℕ) → filter (of_class 2 name) (events (map kept_of l.inputs)) ≡ [] → greatest_of l name ≡ []
unfolding greatest_of
greatest_empty l name e = let none : commons_of l name ≡ [] = no_symbols l (commons_of l name) (common_class l name ∙ e) in rw none refl

-- THE definition of a name.
pub definition_is : (l : Link) (name : List ℕ) → definition_of l name ≡ definition_by name (best_of name (events (map kept_of l.inputs)))
unfolding first_definition
definition_is l name = definition_is_first l name ∙ of (best_of name (events (map kept_of l.inputs))) refl
  where
    strong : (b : Event) → IsBest name (events (map kept_of l.inputs)) b → strength b.row ≡ 4
        → first_or (map Symbol (strong_of l name))
        (first_or (map Symbol (weak_of l name))
        (first_or (map Symbol (greatest_of l name)) (first_or (map Library (libraries_with l name)) (image_base name))))
        ≡ Some (Symbol (id_of b))
    strong b is s =
        let first = first_of_class name (events (map kept_of l.inputs)) b 4 is s refl in first_symbol l (strong_of l name) b first.0 _
        (strong_class l name ∙ first.1)

    weak : (b : Event) → IsBest name (events (map kept_of l.inputs)) b → strength b.row ≡ 3
        → first_or (map Symbol (strong_of l name))
        (first_or (map Symbol (weak_of l name))
        (first_or (map Symbol (greatest_of l name)) (first_or (map Library (libraries_with l name)) (image_base name))))
        ≡ Some (Symbol (id_of b))
    weak b is s =
        let first = first_of_class name (events (map kept_of l.inputs)) b 3 is s refl in
        rw (strong_empty l name (none_above name _ b 4 is.unbeaten (omega (arith, s))))
        (first_symbol l (weak_of l name) b first.0 _ (weak_class l name ∙ first.1))

    by_sort : (b : Event) → IsBest name (events (map kept_of l.inputs)) b → (sort : Sort) (weak : Bool) → b.row.sort ≡ sort
        → b.row.weak ≡ weak
        → first_or (map Symbol (strong_of l name))
        (first_or (map Symbol (weak_of l name))
        (first_or (map Symbol (greatest_of l name)) (first_or (map Library (libraries_with l name)) (image_base name))))
        ≡ defined_as name sort b
    by_sort b is Section true e w = weak b is (ap (λ s. strength_of s b.row.weak) e ∙ ap (strength_of Section) w)
    by_sort b is Section false e w = strong b is (ap (λ s. strength_of s b.row.weak) e ∙ ap (strength_of Section) w)
    by_sort b is Absolute true e w = weak b is (ap (λ s. strength_of s b.row.weak) e ∙ ap (strength_of Absolute) w)
    by_sort b is Absolute false e w = strong b is (ap (λ s. strength_of s b.row.weak) e ∙ ap (strength_of Absolute) w)
    by_sort b is Common t e w =
        let s : strength b.row ≡ 2 = ap (λ s. strength_of s b.row.weak) e in
        let great = greatest_first l name b is s in
        rw (
          strong_empty l name (none_above name _ b 4 is.unbeaten (omega (arith, s))),
          weak_empty l name
              (none_above name _ b 3 is.unbeaten (omega (arith, s))),
        )
        (first_symbol l (greatest_of l name) b great.0 _ great.1)
    by_sort b is Offered t e w =
        let s : strength b.row ≡ 1 = ap (λ s. strength_of s b.row.weak) e in
        let first = first_of_class name (events (map kept_of l.inputs)) b 1 is s refl in
        let libraries = libraries_first l name b first.0 first.1 in
        rw (
          strong_empty l name (none_above name _ b 4 is.unbeaten (omega (arith, s))),
          weak_empty l name (none_above name _ b 3 is.unbeaten (omega (arith, s))),
          greatest_empty l name (none_above name _ b 2 is.unbeaten (omega (arith, s))),
          libraries.1,
        ) refl
    by_sort b is Nowhere t e w =
        let s : strength b.row ≡ 0 = ap (λ s. strength_of s b.row.weak) e in
        rw (
          strong_empty l name (none_above name _ b 4 is.unbeaten (omega (arith, s))),
          weak_empty l name (none_above name _ b 3 is.unbeaten (omega (arith, s))),
          greatest_empty l name (none_above name _ b 2 is.unbeaten (omega (arith, s))),
          libraries_empty l name (none_above name _ b 1 is.unbeaten (omega (arith, s))),
        ) refl

    of : (o : Option Event) → best_of name (events (map kept_of l.inputs)) ≡ o
        → first_or (map Symbol (strong_of l name))
        (first_or (map Symbol (weak_of l name))
        (first_or (map Symbol (greatest_of l name)) (first_or (map Library (libraries_with l name)) (image_base name))))
        ≡ definition_by name o
    of None e =
        let none = none_of name (events (map kept_of l.inputs)) e in
        rw (
          strong_empty l name (none_at_all name _ 4 none),
          weak_empty l name (none_at_all name _ 3 none),
          greatest_empty l name (none_at_all name _ 2 none),
          libraries_empty l name (none_at_all name _ 1 none),
        ) refl
    of (Some b) e = by_sort b (best_is name (events (map kept_of l.inputs)) b e) b.row.sort b.row.weak refl refl
