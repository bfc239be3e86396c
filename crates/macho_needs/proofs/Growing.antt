-- Lists of needs, one use more. What the use asks for goes last, unless it is there: taking repeats out of a list with one
-- element more puts that into what is left of the others. A use that asks for nothing leaves the list.
use Rattle.std.proofs.Common.{◌≡◌, ℕ, Bool, true, false, cond, not, ◌&&◌, List, [], ◌∷◌, ◌++◌, filter, Option, Some, None, Decides, refl, ap, ◌∙◌, append-nil, if◌then◌else◌}
use Rattle.std.specs.List.{filter_map, list_any, cons_option}
use Rattle.std.specs.Str.{bytes_eq}
use Rattle.std.proofs.lemmas.List.Elements.{filter-append, filter_map-append}
use Rattle.std.proofs.lemmas.Slice.Eq.{bytes_eq-Decides}
use Rattle.macho_records.specs.Symbols.{is_global}
use Rattle.indexmap.specs.IndexSet.{insert_key}
use Rattle.macho_model.specs.Links.{Link}
use Rattle.macho_model.specs.Resolution.{SymbolId, entry_at, name_at}
use Rattle.macho_model.specs.Needs.{is_imported, distinct}
use Rattle.macho_model.specs.Uses.{Use, name_used, global_name, slot_of_use, stub_of_use}
use Rattle.macho_model.specs.Targets.{same_target}
use Rattle.macho_model.specs.Fixups.{same_entry}
use Rattle.macho_layout.proofs.Distinct.{distinct_push}
use Rattle.macho_symbols.specs.Told.{noting}
use Rattle.macho_promise.specs.Noted.{imports_in, slots_in, stubs_in}
use Rattle.macho_needs.specs.Tables.{with_some}
use Rattle.macho_needs.specs.Noted.{own_of_use, own_in}
use Rattle.macho_needs.proofs.Deciding.{targets_decide}
use Rattle.macho_model.proofs.Sections.{entry-Decides}

-- of any need
list_more : {X : Type 0} (same : X → X → Bool) → ((a b : X) → Decides (same a b) (a ≡ b)) → (h : Use → Option X) (us : List Use) (u : Use)
    → distinct same (filter_map h (us ++ u ∷ [])) ≡ with_some same (distinct same (filter_map h us)) (h u)
list_more {X} same d h us u = ap (distinct same) (filter_map-append h us (u ∷ [])) ∙ by (h u)
  where
    by : (o : Option X) → distinct same (filter_map h us ++ cons_option o []) ≡ with_some same (distinct same (filter_map h us)) o
    by None = ap (distinct same) (append-nil (filter_map h us))
    by (Some x) = distinct_push same d (filter_map h us) x

pub slots_more : (l : Link) (us : List Use) (u : Use) → slots_in l (us ++ u ∷ []) ≡ with_some same_target (slots_in l us) (slot_of_use l u)
unfolding slots_in
slots_more l us u = list_more same_target targets_decide (slot_of_use l) us u

pub stubs_more : (l : Link) (us : List Use) (u : Use) → stubs_in l (us ++ u ∷ []) ≡ with_some same_target (stubs_in l us) (stub_of_use l u)
unfolding stubs_in
stubs_more l us u = list_more same_target targets_decide (stub_of_use l) us u

pub own_more : (l : Link) (us : List Use) (u : Use) → own_in l (us ++ u ∷ []) ≡ with_some same_entry (own_in l us) (own_of_use l u)
unfolding own_in
own_more l us u = list_more same_entry entry-Decides (own_of_use l) us u

-- the imports, with a name that may be imported
unfoldable pub with_name : Link → List (List ℕ) → Option (List ℕ) → List (List ℕ)
with_name l noted None = noted
with_name l noted (Some name) = if is_imported l name then insert_key bytes_eq noted name else noted

pub imports_more : (l : Link) (us : List Use) (u : Use) → imports_in l (us ++ u ∷ []) ≡ with_name l (imports_in l us) (name_used l u)
unfolding imports_in with_name
imports_more l us u = ap (λ names. distinct bytes_eq (filter (is_imported l) names)) (filter_map-append (name_used l) us (u ∷ []))
    ∙ by (name_used l u)
  where
    one : (names : List (List ℕ)) (name : List ℕ) (b : Bool) → is_imported l name ≡ b
        → distinct bytes_eq (filter (is_imported l) names ++ cond b (name ∷ []) [])
        ≡ (if b then insert_key bytes_eq (distinct bytes_eq (filter (is_imported l) names)) name
        else distinct bytes_eq (filter (is_imported l) names))
    one names name true e = distinct_push bytes_eq bytes_eq-Decides (filter (is_imported l) names) name
    one names name false e = ap (distinct bytes_eq) (append-nil (filter (is_imported l) names))

    by : (o : Option (List ℕ)) → distinct bytes_eq (filter (is_imported l) (filter_map (name_used l) us ++ cons_option o []))
        ≡ with_name l (distinct bytes_eq (filter (is_imported l) (filter_map (name_used l) us))) o
    by None = ap (λ names. distinct bytes_eq (filter (is_imported l) names)) (append-nil (filter_map (name_used l) us))
    by (Some name) =
        ap (distinct bytes_eq) (filter-append (is_imported l) (filter_map (name_used l) us) (name ∷ []))
        ∙ one (filter_map (name_used l) us) name (is_imported l name) refl

-- that is what the resolver notes for a symbol
pub noting_is : (l : Link) (noted : List (List ℕ)) (s : SymbolId) → with_name l noted (global_name l (Some s)) ≡ noting l noted s
unfolding with_name
noting_is l noted s = by (is_global (entry_at l s)) refl
  where
    there : (i b : Bool)
        → (if i then cond b noted (noted ++ name_at l s ∷ []) else noted) ≡ (if i && not b then noted ++ name_at l s ∷ [] else noted)
    there true true = refl
    there true false = refl
    there false b = refl

    by : (g : Bool) → is_global (entry_at l s) ≡ g → with_name l noted (global_name l (Some s)) ≡ noting l noted s
    by true e = rw e (there (is_imported l (name_at l s)) (list_any (bytes_eq (name_at l s)) noted))
    by false e = rw e refl

pub nothing_is : (l : Link) (noted : List (List ℕ)) → with_name l noted (global_name l None) ≡ noted
unfolding with_name
nothing_is l noted = refl
