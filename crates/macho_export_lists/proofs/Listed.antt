-- A list contains a name where it is a plain entry or matches a pattern. All entries are the plain ones and the patterns;
-- a plain one matches itself alone.
use Rattle.std.proofs.Common.{◌≡◌, ℕ, ◌==◌, ◌||◌, not, if◌then◌else◌, true, false, Bool, List, [], ◌∷◌, get_or, filter, refl, ap, sym, ◌∙◌}
use Rattle.std.proofs.lemmas.Bool.{both_ways, false_from_ne_true}
use Rattle.std.proofs.lemmas.Cmp.{nat_list_eq_equiv}
use Rattle.std.proofs.lemmas.List.Folds.{list_any_at}
use Rattle.std.specs.List.{list_any}
use Rattle.std.specs.Str.{bytes_eq}
use Rattle.macho_export_lists.specs.steps.Lines.{is_pattern}
use Rattle.macho_model.specs.ExportLists.{STAR, matches, listed, all_entries, plain_entries}
use Rattle.macho_export_lists.specs.Entries.{ListEntries, IsListOf}
use Rattle.macho_export_lists.proofs.Matching.{IsPlain, plain_entry}
use Rattle.macho_bytes.proofs.Bools.{or_swap}

-- an entry that is no pattern has no star
starless : (entry : List ℕ) → is_pattern entry ≡ false → IsPlain entry
starless entry none k d h = false_from_ne_true (get_or entry k d == STAR)
    (λ is. both_ways _ none (list_any_at (λ b. b == STAR) entry k d h is))

itself_alone : (entry name : List ℕ) → is_pattern entry ≡ false → matches entry name ≡ bytes_eq name entry
itself_alone entry name plain = plain_entry entry name (starless entry plain) ∙ nat_list_eq_equiv.symm entry name

or_assoc : (a b c : Bool) → (a || (b || c)) ≡ ((a || b) || c)
or_assoc true b c = refl
or_assoc false b c = refl

parts : (entries : List (List ℕ)) (name : List ℕ)
    → (list_any (bytes_eq name) (filter (λ e. not (is_pattern e)) entries) || list_any (λ e. matches e name) (filter is_pattern entries))
    ≡ list_any (λ e. matches e name) entries
parts [] name = refl
parts (e ∷ entries) name = of (is_pattern e) refl (parts entries name)
  where
    plain : List (List ℕ)
    plain = filter (λ x. not (is_pattern x)) entries

    stars : List (List ℕ)
    stars = filter is_pattern entries

    of : (t : Bool) → is_pattern e ≡ t → (list_any (bytes_eq name) plain || list_any (λ x. matches x name) stars) ≡ list_any
        (λ x. matches x name) entries
        → (list_any (bytes_eq name) (if not (is_pattern e) then e ∷ plain else plain) || list_any (λ x. matches x name)
        (if is_pattern e then e ∷ stars else stars))
        ≡ (matches e name || list_any (λ x. matches x name) entries)
    of true is rest =
        ap (λ t. list_any (bytes_eq name) (if not t then e ∷ plain else plain) || list_any (λ x. matches x name)
        (if t then e ∷ stars else stars)) is
        ∙ or_swap (list_any (bytes_eq name) plain) (matches e name) (list_any (λ x. matches x name) stars)
        ∙ ap (λ t. matches e name || t) rest
    of false is rest =
        ap (λ t. list_any (bytes_eq name) (if not t then e ∷ plain else plain) || list_any (λ x. matches x name)
        (if t then e ∷ stars else stars)) is
        ∙ sym (or_assoc (bytes_eq name e) (list_any (bytes_eq name) plain) (list_any (λ x. matches x name) stars))
        ∙ ap (λ t. bytes_eq name e || t) rest ∙ ap (λ t. t || list_any (λ x. matches x name) entries) (sym (itself_alone e name is))

-- what a list contains
pub listed_is : (texts : List (List ℕ)) (e : ListEntries) (name : List ℕ) → IsListOf texts e
    → (list_any (bytes_eq name) e.plain || list_any (λ p. matches p name) e.patterns) ≡ listed texts name
unfolding plain_entries
listed_is texts e name list =
    ap (λ es. list_any (bytes_eq name) es || list_any (λ p. matches p name) e.patterns) list.plain
    ∙ ap (λ es. list_any (bytes_eq name) (plain_entries texts) || list_any (λ p. matches p name) es) list.patterns
    ∙ parts (all_entries texts) name
