-- The libraries that are needed.
--
-- A name that is put into a set goes last, unless it is there: so the set's names are those given, each where it stood first.
-- Whether an import asks for a library doesn't ask how often its name stands among those asked for. An import's library is
-- that of the file which defines its name: so the libraries asked for are those of the imported names. Where unused libraries stay, none
-- is asked about.
use Rattle.std.proofs.Common.{◌≡◌, ℕ, ◌+◌, ◌<◌, Bool, true, false, cond, not, ◌||◌, List, [], ◌∷◌, ◌++◌, length, get_or, take, map, filter, sym, ap, ◌∙◌, refl, suc, arith, Bor, Option}
use Rattle.std.specs.List.{filter_map, list_any}
use Rattle.std.specs.Str.{bytes_eq}
use Rattle.std.proofs.lemmas.List.{take_more, map-append}
use Rattle.std.proofs.lemmas.List.Elements.{filter_agree}
use Rattle.std.proofs.lemmas.Slice.Eq.{bytes_eq-Decides}
use Rattle.indexmap.specs.IndexSet.{insert_key}
use Rattle.macho_layout.proofs.Distinct.{distinct_push}
use Rattle.macho_linkedit.specs.Libraries.{same_text}
use Rattle.macho_model.specs.Links.{Link, Input}
use Rattle.macho_model.specs.Needs.{distinct, import_library, imports_of, libraries_needed}
use Rattle.macho_model.specs.steps.Resolved.{library_file}
use Rattle.macho_model.specs.Resolution.{Definition, library_of_input, library_name}
use Rattle.macho_symbols.specs.declared.solved.Import.{Import}
use Rattle.macho_symbols.specs.Told.{ImportsAre, IsImportOf}
use Rattle.macho_stub_lines.specs.Lists.{texts}
use Rattle.macho_inputs.specs.steps.Libraries.{asked_of, is_kept}
use Rattle.macho_bytes.proofs.Comparing.{bytes_turn}
use Rattle.macho_bytes.proofs.Maps.{any_map, any_agree}
use Rattle.macho_model.proofs.Distinct.{any_distinct}

-- some import is bound to the library
abbrev is_needed : Link → List ℕ → Bool
is_needed l library = list_any (λ name. bytes_eq (import_library l name) library) (imports_of l)

-- the names of a set that a name was put into
texts_put : (names : List (Bor (List ℕ))) (x : Bor (List ℕ))
    → texts (insert_key same_text names x) ≡ insert_key bytes_eq (texts names) x.now
texts_put names x = by (list_any (same_text x) names) refl
  where
    same : list_any (bytes_eq x.now) (texts names) ≡ list_any (same_text x) names
    same = any_map (bytes_eq x.now) (λ (y : Bor (List ℕ)). y.now) names

    by : (b : Bool) → list_any (same_text x) names ≡ b → texts (insert_key same_text names x) ≡ insert_key bytes_eq (texts names) x.now
    by true is =
        ap (λ (c : Bool). texts (cond c names (names ++ x ∷ []))) is
        ∙ sym (ap (λ (c : Bool). cond c (texts names) (texts names ++ x.now ∷ [])) (same ∙ is))
    by false is =
        ap (λ (c : Bool). texts (cond c names (names ++ x ∷ []))) is ∙ map-append (λ (y : Bor (List ℕ)). y.now) names (x ∷ [])
        ∙ sym (ap (λ (c : Bool). cond c (texts names) (texts names ++ x.now ∷ [])) (same ∙ is))

-- the names of one element more
texts_more : (xs : List (Bor (List ℕ))) (i : ℕ) (x : Bor (List ℕ)) → i < length xs → x ≡ get_or xs i x
    → texts (take (i + 1) xs) ≡ texts (take i xs) ++ x.now ∷ []
texts_more xs i x lt is =
    ap texts (take_more xs i x lt ∙ ap (λ (y : Bor (List ℕ)). take i xs ++ y ∷ []) (sym is))
    ∙ map-append (λ (y : Bor (List ℕ)). y.now) (take i xs) (x ∷ [])

-- one name more
pub distinct_more : (names : List (Bor (List ℕ))) (i : ℕ) (x : Bor (List ℕ)) (old new : List (Bor (List ℕ))) → i < length names
    → x ≡ get_or names i x → texts old ≡ distinct bytes_eq (texts (take i names)) → new ≡ insert_key same_text old x
    → texts new ≡ distinct bytes_eq (texts (take (i + 1) names))
distinct_more names i x old new lt is so_far put =
    ap texts put ∙ texts_put old x ∙ ap (λ (ys : List (List ℕ)). insert_key bytes_eq ys x.now) so_far
    ∙ sym (ap (distinct bytes_eq) (texts_more names i x lt is) ∙ distinct_push bytes_eq bytes_eq-Decides (texts (take i names)) x.now)

-- the library of an import
library_is : (l : Link) (name : List ℕ) (i : Import) → IsImportOf l name i → i.library.items ≡ import_library l name
library_is l name i of = of.2 ∙ sym (ap (λ (d : Option Definition). library_name l (library_file d)) of.1)

-- the libraries that imports ask for
pub asked_are : (l : Link) (imports : List Import) → ImportsAre l (imports_of l) imports
    → asked_of imports ≡ map (import_library l) (imports_of l)
asked_are l imports are =
    by (imports_of l) imports are.long (λ k d lt. library_is l (get_or (imports_of l) k []) (get_or imports k d) (are.each k d lt))
  where
    by : (names : List (List ℕ)) (is : List Import) → length is ≡ length names
        → ((k : ℕ) (d : Import) → k < length is → (get_or is k d).library.items ≡ import_library l (get_or names k []))
        → asked_of is ≡ map (import_library l) names
    by [] [] long each = refl
    by (n ∷ names) [] long each = absurd (omega (arith, long))
    by [] (i ∷ is) long each = absurd (omega (arith, long))
    by (n ∷ names) (i ∷ is) long each =
        let first : i.library.items ≡ import_library l n = each 0 i (omega arith) in
        let rest = by names is (omega (arith, long)) (λ k d lt. each (suc k) d (omega (arith, lt))) in
        ap (λ (x : List ℕ). x ∷ asked_of is) first ∙ ap (λ (xs : List (List ℕ)). import_library l n ∷ xs) rest

-- a library is kept exactly where it is needed
pub needed_are : (l : Link) (inputs : List Input) (imports : List Import) (dead : Bool) (asked : List (List ℕ)) → l.inputs ≡ inputs
    → l.dead_strip_dylibs ≡ dead → ImportsAre l (imports_of l) imports → (dead ≡ true → asked ≡ distinct bytes_eq (asked_of imports))
    → filter (is_kept dead asked) (distinct bytes_eq (filter_map library_of_input inputs)) ≡ libraries_needed l
unfolding libraries_needed
needed_are l inputs imports dead asked held strips are names =
    filter_agree (is_kept dead asked) (λ n. not l.dead_strip_dylibs || is_needed l n) same
    (distinct bytes_eq (filter_map library_of_input inputs))
    ∙ ap (λ (xs : List Input). filter (λ n. not l.dead_strip_dylibs || is_needed l n) (distinct bytes_eq (filter_map library_of_input xs)))
    (sym held)
  where
    among : (n : List ℕ) → dead ≡ true → list_any (bytes_eq n) asked ≡ is_needed l n
    among n strip =
        ap (list_any (bytes_eq n)) (names strip)
        ∙ any_distinct bytes_eq (bytes_eq n) (λ a b e. ap (bytes_eq n) ((bytes_eq-Decides a b).0 e)) (asked_of imports)
        ∙ ap (list_any (bytes_eq n)) (asked_are l imports are) ∙ any_map (bytes_eq n) (import_library l) (imports_of l)
        ∙ any_agree (λ (name : List ℕ). bytes_eq n (import_library l name)) (λ (name : List ℕ). bytes_eq (import_library l name) n)
        (λ name. bytes_turn n (import_library l name)) (imports_of l)

    same : (n : List ℕ) → is_kept dead asked n ≡ (not l.dead_strip_dylibs || is_needed l n)
    same n = by dead refl
      where
        by : (b : Bool) → dead ≡ b → is_kept dead asked n ≡ (not l.dead_strip_dylibs || is_needed l n)
        by true e =
            ap (λ (b : Bool). not b || list_any (bytes_eq n) asked) (sym strips)
            ∙ ap (λ (b : Bool). not l.dead_strip_dylibs || b) (among n e)
        by false e =
            ap (λ (b : Bool). not b || list_any (bytes_eq n) asked) e
            ∙ sym (ap (λ (b : Bool). not b || is_needed l n) (strips ∙ e))
