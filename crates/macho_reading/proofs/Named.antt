-- Names that no relocation uses: the entry, and the entries of export lists.
--
-- Whether a name leads into a carried section doesn't depend on the imports that are noted. Names of lists are noted one by one, where
-- a library defines them; these are the last uses of the walk.
use Rattle.std.proofs.Common.{◌≡◌, ℕ, ◌||◌, ◌==◌, not, cond, Bool, true, false, List, [], ◌∷◌, ◌++◌, length, map, filter, Option, Some, None, is_none, IsNone, refl, sym, ap, ◌∙◌, subst, append-nil, append_assoc, if◌then◌else◌, Result, Ok, Err, OnOk, OnErr, arith}
use Rattle.std.specs.Prelude.{Contains}
use Rattle.std.proofs.lemmas.Bool.Decides.{nat_tests}
use Rattle.std.specs.List.{fold}
use Rattle.macho_model.specs.declared.placed.Counts.{Counts}
use Rattle.macho_model.specs.ExportLists.{all_entries, plain_entries}
use Rattle.macho_model.specs.Exports.{has_lists}
use Rattle.macho_model.specs.Links.{Input, Link}
use Rattle.macho_model.specs.Resolution.{Definition, Symbol, Library, ImageBase, definition_of}
use Rattle.macho_model.specs.Needs.{is_imported, imports_of}
use Rattle.macho_model.specs.Uses.{Use, ByName, uses_of}
use Rattle.macho_model.specs.Targets.{definition_target}
use Rattle.macho_model.specs.Consumed.{is_section_target}
use Rattle.macho_model.specs.Faults.{entry_is_defined}
use Rattle.macho_symbol_names.specs.declared.fault.SymbolFault.{SymbolFault}
use Rattle.macho_symbol_names.specs.declared.fault.SymbolFault.TheVariants.{DuplicateSymbol, UndefinedSymbol, ExportListMissing, OutOfMemory}
use Rattle.macho_symbol_names.specs.Kept.{Keeps}
use Rattle.macho_symbols.specs.Kept.{ResolvedRows, IsResolved}
use Rattle.macho_symbols.specs.Told.{noting_name, noting_names, IsMissing}
use Rattle.macho_answer.specs.Errors.{error_of}
use Rattle.macho_answer.specs.Standing.{Stands}
use Rattle.macho_promise.specs.Noted.{imports_in}
use Rattle.macho_needs.specs.declared.needs.Needs.{Needs}
use Rattle.macho_needs.specs.Noted.{IsNoted}
use Rattle.macho_needs.proofs.Using.{link_with}
use Rattle.macho_needs.proofs.Whole.{names_are_noted, name_is_noted}
use Rattle.macho_reading.specs.Read.{entry_of}
use Rattle.macho_reading.specs.steps.Steps.{uses_before_names}
use Rattle.macho_reading.proofs.Used.{uses_split}

-- a carried section, whatever imports are noted
section_blind : (l : Link) (noted other : List (List ℕ)) (name : List ℕ) (d : Option Definition)
    → is_section_target (definition_target l noted name d) ≡ is_section_target (definition_target l other name d)
section_blind l noted other name None = refl
section_blind l noted other name (Some (Symbol s)) = refl
section_blind l noted other name (Some (Library file)) = refl
section_blind l noted other name (Some ImageBase) = refl

-- THE entry: where a name is given, the link is an executable that begins there
record IsEntered (l : Link) (name : List ℕ) : Type 0 where
  executable : l.executable ≡ true
  is : name ≡ l.entry

entered : (l : Link) (name : List ℕ) (given : Option (List ℕ)) → given ≡ Some name → given ≡ entry_of l → IsEntered l name
entered l name given is of = by l.executable refl (sym is ∙ of)
  where
    by : (b : Bool) → l.executable ≡ b → Some name ≡ (if b then Some l.entry else None) → IsEntered l name
    by true e same = record { executable = e; is = cc }
    by false e same = cc

defined_as : (l : Link) (noted : List (List ℕ)) (name : List ℕ) → IsEntered l name
    → entry_is_defined l ≡ is_section_target (definition_target l noted name (definition_of l name))
defined_as l noted name at =
    ap (λ b. not b || is_section_target (definition_target l (imports_of l) l.entry (definition_of l l.entry))) at.executable
    ∙ ap (λ (n : List ℕ). is_section_target (definition_target l (imports_of l) n (definition_of l n))) (sym at.is)
    ∙ section_blind l (imports_of l) noted name (definition_of l name)

pub entry_found : (l : Link) (noted : List (List ℕ)) (name : List ℕ) (given : Option (List ℕ)) → given ≡ Some name → given ≡ entry_of l
    → is_section_target (definition_target l noted name (definition_of l name)) ≡ true → entry_is_defined l ≡ true
entry_found l noted name given is of leads = defined_as l noted name (entered l name given is of) ∙ leads

pub entry_missing : (l : Link) (noted : List (List ℕ)) (name : List ℕ) (given : Option (List ℕ)) → given ≡ Some name → given ≡ entry_of l
    → is_section_target (definition_target l noted name (definition_of l name)) ≡ false → (name ≡ l.entry) × (entry_is_defined l ≡ false)
entry_missing l noted name given is of leads =
    let at = entered l name given is of in (at.is, defined_as l noted name at ∙ leads)

-- THE names of lists
unimported : (l : Link) (noted : List (List ℕ)) (name : List ℕ) → is_imported l name ≡ false → noting_name l noted name ≡ noted
unimported l noted name e = rw e refl

names_noted : (l : Link) (us : List Use) (names : List (List ℕ))
    → fold (noting_name l) (imports_in l us) names ≡ imports_in l (us ++ map ByName (filter (is_imported l) names))
names_noted l us [] = ap (imports_in l) (sym (append-nil us))
names_noted l us (name ∷ names) = by (λ vs. names_noted l vs names) (is_imported l name) refl
  where
    by : ((vs : List Use) → fold (noting_name l) (imports_in l vs) names ≡ imports_in l (vs ++ map ByName (filter (is_imported l) names)))
        → (t : Bool) → is_imported l name ≡ t
        → fold (noting_name l) (noting_name l (imports_in l us) name) names
        ≡ imports_in l (us ++ map ByName (cond t (name ∷ filter (is_imported l) names) (filter (is_imported l) names)))
    by more true e =
        ap (λ (ns : List (List ℕ)). fold (noting_name l) ns names) (sym (name_is_noted l us name)) ∙ more (us ++ ByName name ∷ [])
        ∙ ap (imports_in l) (append_assoc us (ByName name ∷ []) (map ByName (filter (is_imported l) names)))
    by more false e = ap (λ (ns : List (List ℕ)). fold (noting_name l) ns names) (unimported l (imports_in l us) name e) ∙ more us

pub list_noted : (l : Link) (plain : List (List ℕ)) (old new : Needs) → plain ≡ plain_entries l.export_lists → new.tables ≡ old.tables
    → IsNoted l (uses_before_names l) old → IsResolved l (noting_names l (imports_in l (uses_before_names l)) plain) new.resolved
    → IsNoted l (uses_of l) new
unfolding noting_names
list_noted l plain old new is tables noted resolved =
    let us = uses_before_names l in
    subst (λ (ws : List Use). IsNoted l ws new) (sym (uses_split l))
    (names_are_noted l us (filter (is_imported l) (plain_entries l.export_lists)) old new noted tables
    (subst (λ (ns : List (List ℕ)). IsResolved l ns new.resolved)
    (ap (λ (ps : List (List ℕ)). fold (noting_name l) (imports_in l us) ps) is ∙ names_noted l us (plain_entries l.export_lists)) resolved))

no_lists : {X : Type 0} (xs : List X) → not (length xs == 0) ≡ false → xs ≡ []
no_lists [] e = refl
no_lists (x ∷ xs) e =
    let some : (length (x ∷ xs) == 0) ≡ false = grind (arith, nat_tests) in let no : true ≡ false = sym (ap not some) ∙ e in cc

no_plain : (l : Link) → has_lists l ≡ false → plain_entries l.export_lists ≡ []
unfolding plain_entries all_entries
no_plain l none = ap plain_entries (no_lists l.export_lists none)

pub none_noted : (l : Link) (n : Needs) → has_lists l ≡ false → IsNoted l (uses_before_names l) n → IsNoted l (uses_of l) n
none_noted l n none noted =
    subst (λ (ws : List Use). IsNoted l ws n)
    (sym (uses_split l ∙ ap (λ (ns : List (List ℕ)). uses_before_names l ++ map ByName (filter (is_imported l) ns)) (no_plain l none)
    ∙ append-nil (uses_before_names l))) noted

-- a name of a list that has no definition
pub missing_stands : (l : Link) (counts : Counts) (names : List (List ℕ)) (fault : SymbolFault) → names ≡ plain_entries l.export_lists
    → IsMissing l names fault → Stands l counts (error_of fault)
missing_stands l counts names (ExportListMissing name) is missing = record {
  stands = (subst (λ (ns : List (List ℕ)). Contains ns name.items) is missing.0, none_is (definition_of l name.items) missing.1);
  kept = tt;
}
  where
    none_is : {X : Type 0} (o : Option X) → is_none o ≡ true → IsNone o
    none_is None e = refl
    none_is (Some x) e = cc
missing_stands l counts names (DuplicateSymbol name first second) is missing = absurd missing
missing_stands l counts names (UndefinedSymbol name file) is missing = absurd missing
missing_stands l counts names OutOfMemory is missing = tt

-- files are kept
pub files_stay : {X E : Type 0} (r : Result X E) (inputs : List Input) (old new : ResolvedRows)
    (more : Link → List (List ℕ) → List (List ℕ))
    → Keeps inputs old.files → ((l : Link) (noted : List (List ℕ)) → IsResolved l noted old → OnOk r (IsResolved l (more l noted) new))
    → OnErr r (new ≡ old) → Keeps inputs new.files
unfolding link_with
files_stay (Ok x) inputs old new more keeps noted kept =
    record { are = (noted (link_with inputs) old.noted (record { keeps = keeps.are; notes = refl })).keeps }
files_stay (Err e) inputs old new more keeps noted kept = subst (λ (q : ResolvedRows). Keeps inputs q.files) (sym kept) keeps
