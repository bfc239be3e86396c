-- Numbers stay. An element that is in a list of distinct ones keeps its place when others are put behind; so the number of an
-- import that a use names is the same after this use as after all. Where the use is the first one of its name, the number is
-- the length of the list before it, which is also what a look-up that finds nothing tells.
use Rattle.std.proofs.Common.{◌≡◌, ℕ, suc, ◌+◌, ◌<◌, ◌≤◌, Bool, true, false, cond, not, ◌||◌, List, [], ◌∷◌, ◌++◌, filter, length, Option, Some, None, Decides, refl, sym, ap, ◌∙◌, subst, arith, append-nil, append_assoc, if◌then◌else◌}
use Rattle.std.specs.List.{filter_map, list_any, position_or_len}
use Rattle.std.specs.Str.{bytes_eq}
use Rattle.std.proofs.lemmas.List.Folds.{list_any-append}
use Rattle.std.proofs.lemmas.List.Elements.{filter-append, filter_map-append}
use Rattle.std.proofs.lemmas.Slice.Eq.{bytes_eq-Decides}
use Rattle.macho_records.specs.Symbols.{is_global}
use Rattle.indexmap.specs.IndexSet.{insert_key}
use Rattle.macho_model.specs.declared.targets.Target.TheVariants as target
use Rattle.macho_model.specs.Links.{Link}
use Rattle.macho_model.specs.Resolution.{SymbolId, Definition, Symbol, Library, ImageBase, entry_at, name_at, definition_of}
use Rattle.macho_model.specs.Needs.{is_imported, imports_of, distinct}
use Rattle.macho_model.specs.steps.Resolved.{is_library}
use Rattle.macho_model.specs.Uses.{Use, uses_of, name_used, global_name, target_with}
use Rattle.macho_model.specs.Targets.{target_of, definition_target}
use Rattle.macho_layout.proofs.Distinct.{distinct_push, place_put, place_new, longer_put}
use Rattle.macho_promise.specs.Noted.{imports_in}
use Rattle.macho_needs.specs.Noted.{IsNext}
use Rattle.macho_needs.proofs.Growing.{with_name, imports_more}
use Rattle.macho_model.proofs.Uses.{imports_are}
use Rattle.macho_bytes.proofs.Members.{place_inside}

put_inside : {X : Type 0} (same : X → X → Bool) → ((a b : X) → Decides (same a b) (a ≡ b)) → (xs : List X) (x : X)
    → position_or_len (same x) (insert_key same xs x) < length (insert_key same xs x)
put_inside same d xs x = by (list_any (same x) xs) refl
  where
    last : (b : Bool) → (b || (same x x || false)) ≡ true
    last true = refl
    last false = ap (λ c. c || false) ((d x x).1 refl)

    by : (b : Bool) → list_any (same x) xs ≡ b → position_or_len (same x) (cond b xs (xs ++ x ∷ [])) < length (cond b xs (xs ++ x ∷ []))
    by true e = place_inside (same x) xs e
    by false e = place_inside (same x) (xs ++ x ∷ []) (list_any-append (same x) xs (x ∷ []) ∙ last (list_any (same x) xs))

-- what is inside stays where it is
stays : {X : Type 0} (same : X → X → Bool) → ((a b : X) → Decides (same a b) (a ≡ b)) → (p : X → Bool) (xs ys : List X)
    → position_or_len p (distinct same xs) < length (distinct same xs)
    → position_or_len p (distinct same (xs ++ ys)) ≡ position_or_len p (distinct same xs)
stays same d p xs [] inside = ap (λ zs. position_or_len p (distinct same zs)) (append-nil xs)
stays {X} same d p xs (y ∷ ys) inside =
    let regroup : xs ++ y ∷ ys ≡ (xs ++ y ∷ []) ++ ys = sym (append_assoc xs (y ∷ []) ys) in
    let one : distinct same (xs ++ y ∷ []) ≡ insert_key same (distinct same xs) y = distinct_push same d xs y in
    let put : position_or_len p (insert_key same (distinct same xs) y) ≡ position_or_len p (distinct same xs)
    = place_put p (list_any (same y) (distinct same xs)) (distinct same xs) y inside in
    let same_place : position_or_len p (distinct same (xs ++ y ∷ [])) ≡ position_or_len p (distinct same xs) = ap (position_or_len p) one
    ∙ put in
    let longer : length (distinct same xs) ≤ length (distinct same (xs ++ y ∷ []))
    = subst (λ (zs : List X). length (distinct same xs) ≤ length zs) (sym one)
    (longer_put (list_any (same y) (distinct same xs)) (distinct same xs) y) in
    ap (λ zs. position_or_len p (distinct same zs)) regroup ∙ stays same d p (xs ++ y ∷ []) ys (omega (arith, same_place, longer, inside))
    ∙ same_place

-- the number of an imported name, before its use and in the end
pub number_stays : (l : Link) (us : List Use) (u : Use) (name : List ℕ) → IsNext l us u → name_used l u ≡ Some name
    → is_imported l name ≡ true
    → position_or_len (bytes_eq name) (imports_in l us) ≡ position_or_len (bytes_eq name) (imports_of l)
unfolding imports_in with_name
number_stays l us u name next used imported =
    let names : List Use → List (List ℕ) = λ vs. filter (is_imported l) (filter_map (name_used l) vs) in
    let after : imports_in l (us ++ u ∷ []) ≡ insert_key bytes_eq (imports_in l us) name
    = imports_more l us u ∙ ap (with_name l (imports_in l us)) used
    ∙ ap (λ b. if b then insert_key bytes_eq (imports_in l us) name else imports_in l us) imported in
    let itself : bytes_eq name name ≡ true = (bytes_eq-Decides name name).1 refl in
    let before : position_or_len (bytes_eq name) (imports_in l (us ++ u ∷ [])) ≡ position_or_len (bytes_eq name) (imports_in l us)
    = ap (position_or_len (bytes_eq name)) after
    ∙ place_new (bytes_eq name) (list_any (bytes_eq name) (imports_in l us)) (imports_in l us) name itself in
    let inside : position_or_len (bytes_eq name) (imports_in l (us ++ u ∷ [])) < length (imports_in l (us ++ u ∷ []))
    = subst (λ (ns : List (List ℕ)). position_or_len (bytes_eq name) ns < length ns) (sym after)
    (put_inside bytes_eq bytes_eq-Decides (imports_in l us) name) in
    let split : names (uses_of l) ≡ names (us ++ u ∷ []) ++ names next.rest
    = ap names next.is ∙ ap (filter (is_imported l)) (filter_map-append (name_used l) (us ++ u ∷ []) next.rest)
    ∙ filter-append (is_imported l) (filter_map (name_used l) (us ++ u ∷ [])) (filter_map (name_used l) next.rest) in
    sym before
    ∙ sym (ap (λ ns. position_or_len (bytes_eq name) (distinct bytes_eq ns)) split
    ∙ stays bytes_eq bytes_eq-Decides (bytes_eq name) (names (us ++ u ∷ [])) (names next.rest) inside)
    ∙ ap (position_or_len (bytes_eq name)) (sym (imports_are l))

-- so a symbol leads to the same before its use and in the end
pub target_stays : (l : Link) (us : List Use) (u : Use) (s : SymbolId) → IsNext l us u → name_used l u ≡ global_name l (Some s)
    → target_with l (imports_in l us) s ≡ target_of l s
unfolding target_of
target_stays l us u s next used = by (is_global (entry_at l s)) refl
  where
    led : (d : Option Definition) → definition_of l (name_at l s) ≡ d → is_global (entry_at l s) ≡ true
        → definition_target l (imports_in l us) (name_at l s) d ≡ definition_target l (imports_of l) (name_at l s) d
    led None e g = refl
    led (Some (Symbol t)) e g = refl
    led (Some (Library file)) e g =
        ap target.Import
        (number_stays l us u (name_at l s) next (used ∙ ap (λ b. if b then Some (name_at l s) else None) g) (ap is_library e))
    led (Some ImageBase) e g = refl

    by : (g : Bool) → is_global (entry_at l s) ≡ g → target_with l (imports_in l us) s ≡ target_with l (imports_of l) s
    by true g = rw g (led (definition_of l (name_at l s)) refl g)
    by false g = rw g refl
