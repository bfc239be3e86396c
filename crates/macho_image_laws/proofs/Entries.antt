-- The import entries of a composed image fit the loader's ninth rule.
--
-- An entry is that of an import: by its own number, or one that a pointer to an import asked for. So its library is one that the image
-- names, and its name stands among the names with a NUL behind it, in front of the table's end.
use Rattle.std.proofs.Common.{◌≡◌, ℕ, ◌+◌, ◌<◌, ◌≤◌, ◌⊎◌, ◌==◌, ◌&&◌, nat_le, not, if◌then◌else◌, Bool, true, false, List, [], ◌∷◌, ◌++◌, length, get_or, map, take, drop, refl, sym, ap, subst, ◌∙◌, arith, inl, inr, Some, None}
use Rattle.std.specs.Prelude.{Contains, sum_by}
use Rattle.std.specs.List.{flat_map, filter_map, range_with_len}
use Rattle.std.proofs.lemmas.Bool.{and_from, le-leb, lt-ltb, and_right}
use Rattle.std.proofs.lemmas.List.{length-drop, length-append}
use Rattle.std.proofs.lemmas.List.Edits.{length-between}
use Rattle.std.proofs.lemmas.List.Elements.{Contains-get_or, Contains-append_cases}
use Rattle.std.proofs.lemmas.List.Concat.{length-flat_map}
use Rattle.std.proofs.lemmas.List.Sums.{sum_by_more, sum_by-take-le, sum_by-cons}
use Rattle.std.proofs.lemmas.List.FromFn.{length-range_with_len, get_or-range_with_len}
use Rattle.macho_bytes.specs.Texts.{name_of}
use Rattle.macho_wire.specs.declared.fixups.ChainedFixupsHeader.{ChainedFixupsHeader}
use Rattle.macho_model.specs.declared.placed.Counts.{Counts}
use Rattle.macho_model.specs.declared.targets.Target.{Target}
use Rattle.macho_model.specs.declared.targets.Target.TheVariants as target
use Rattle.macho_model.specs.ObjectRules.{has_nul}
use Rattle.macho_records.specs.Sections.{type_of}
use Rattle.macho_records.specs.declared.constants.TheConstants.{S_THREAD_LOCAL_VARIABLES}
use Rattle.macho_model.specs.Links.{Link, SectionId, header_at, carried_of}
use Rattle.macho_model.specs.Needs.{imports_of, libraries_needed}
use Rattle.macho_model.specs.Fields.{fields_of}
use Rattle.macho_model.specs.Placement.{Placed}
use Rattle.macho_model.specs.Images.{Table, tables_of, libraries_of, fixups_header, import_entry, table_names}
use Rattle.macho_model.specs.LoadRules.{import_fits}
use Rattle.macho_model.specs.Fixups.{EntryOfImport, same_entry, has_room, own_entry, own_entries, import_entries_of, import_format}
use Rattle.macho_model.specs.ImportTable.{names_text, entry_of_link, name_of_entry, name_place}
use Rattle.macho_model.specs.Values.{is_pointer}
use Rattle.macho_promise.specs.FixupsSay.{fixup_segments}
use Rattle.macho_image_laws.specs.Leads.{HasPlace, TargetsLead}
use Rattle.macho_image_laws.proofs.Run.{table_read}
use Rattle.macho_image_laws.proofs.Libraries.{library_number_fits}
use Rattle.macho_image_laws.proofs.Rests.{IsLed}
use Rattle.macho_image_laws.proofs.TableLength.{table_long}
use Rattle.macho_model.specs.steps.ImportTable.{no_entry}
use Rattle.macho_bytes.proofs.Members.{contains_first, contains_cases, nil_contains, map_contains, flat_map_contains, filter_map_contains}
use Rattle.macho_model.proofs.Distinct.{distinct_contains}

-- the one table of a list
pub the_one : (ts : List Table) (t u : Table) → ts ≡ t ∷ [] → Contains ts u → t ≡ u
the_one ts t u is one = elim (contains_cases t [] u (subst (λ (xs : List Table). Contains xs u) is one))
    [ inl here ↦ here | inr rest ↦ absurd (nil_contains u rest) ]

-- an own entry is asked for by a pointer to an import
import_room : (r : Bool) (id addend : ℕ) (e : EntryOfImport) → (if r then None else Some (record { import = id; addend = addend })) ≡ Some e
    → e.import ≡ id
import_room true id addend e h = absurd (cc)
import_room false id addend e h = let one : record { import = id; addend = addend }
    ≡ e = cc in ap (λ (x : EntryOfImport). x.import) (sym one)

asks_import : (t : Bool) (x : Target) (addend : ℕ) (e : EntryOfImport) → own_entry t x addend ≡ Some e
    → (t ≡ true) × (x ≡ target.Import e.import)
asks_import true (target.Import id) addend e h = (refl, ap (λ (n : ℕ). target.Import n) (sym (import_room (has_room addend) id addend e h)))
asks_import true (target.Section file section offset) addend e h = absurd (cc)
asks_import true (target.Common id) addend e h = absurd (cc)
asks_import true target.Base addend e h = absurd (cc)
asks_import true (target.Absolute value) addend e h = absurd (cc)
asks_import true target.None addend e h = absurd (cc)
asks_import false x addend e h = absurd (cc)

-- so it is that of an import of the link
own_of : (l : Link) (e : EntryOfImport) → TargetsLead l → Contains (own_entries l) e → e.import < length (imports_of l)
unfolding own_entries
own_of l e leads one =
    let all = distinct_contains same_entry (flat_map (λ s. filter_map (λ f. own_entry (is_pointer f) f.target f.addend) (fields_of l s))
    (carried_of l)) e one in
    let m = flat_map_contains (λ s. filter_map (λ f. own_entry (is_pointer f) f.target f.addend) (fields_of l s)) (carried_of l) e all in
    let r = filter_map_contains (λ f. own_entry (is_pointer f) f.target f.addend) (fields_of l m.0) e m.2 in
    let a = asks_import (is_pointer r.0) r.0.target r.0.addend e r.2 in
    subst (HasPlace l) a.1 (leads.pointers m.0 r.0 m.1 r.1 (rw (a.0, a.1) (plain_type m.0)))
  where
    plain_type : (s : SectionId) → (true && not false && not ((type_of (header_at l s) == S_THREAD_LOCAL_VARIABLES) && false)) ≡ true
    plain_type s = rw (and_right (type_of (header_at l s) == S_THREAD_LOCAL_VARIABLES) false refl) refl

-- each entry of the link is that of an import
pub entry_import : (l : Link) (k : ℕ) → TargetsLead l → k < length (import_entries_of l)
    → (entry_of_link l k).import < length (imports_of l)
unfolding import_entries_of
entry_import l k leads lt =
    by (get_or (import_entries_of l) k no_entry)
    (Contains-append_cases (map (λ (n : ℕ). plain n) (range_with_len 0 (length (imports_of l)))) (own_entries l)
    (get_or (import_entries_of l) k no_entry)
    (Contains-get_or (import_entries_of l) k no_entry lt))
  where
    plain : ℕ → EntryOfImport
    plain n = record { import = n; addend = 0 }

    by : (e : EntryOfImport) → Contains (map (λ (n : ℕ). plain n) (range_with_len 0 (length (imports_of l)))) e ⊎ Contains (own_entries l) e
        → e.import < length (imports_of l)
    by e (inl one) =
        let m = map_contains (λ (n : ℕ). plain n) (range_with_len 0 (length (imports_of l))) e one in
        let n = length (imports_of l) in
        let within : m.1.0 < n = omega (arith, m.1.1, length-range_with_len 0 n) in
        let at : 0 + m.1.0 ≡ m.0 = sym (get_or-range_with_len 0 n m.1.0 m.0 within) ∙ m.1.2 in
        omega (arith, at, within, ap (λ (x : EntryOfImport). x.import) m.2)
    by e (inr one) = own_of l e leads one

-- the ninth rule: libraries, and names that end in the table
names_long : (l : Link) → length (names_text l) ≡ sum_by (λ (name : List ℕ). length (name ++ 0 ∷ [])) (imports_of l)
unfolding names_text
names_long l = length-flat_map (λ (name : List ℕ). name ++ 0 ∷ []) (imports_of l)

name_inside : (l : Link) (id : ℕ) → id < length (imports_of l) → name_place l id + length (get_or (imports_of l) id []) + 1 ≤ length
    (names_text l)
name_inside l id lt =
    let f : List ℕ → ℕ = λ (name : List ℕ). length (name ++ 0 ∷ []) in
    let more = sum_by_more f (imports_of l) id [] lt in
    let below = sum_by-take-le f (imports_of l) (id + 1) in
    let one = length-append (get_or (imports_of l) id []) (0 ∷ []) in
    let same : name_place l id ≡ sum_by f (take id (imports_of l)) = sum_same (take id (imports_of l)) in
    omega (arith, more, below, one, same, names_long l)
  where
    sum_same : (xs : List (List ℕ)) → sum_by (λ (name : List ℕ). length name + 1) xs
        ≡ sum_by (λ (name : List ℕ). length (name ++ 0 ∷ [])) xs
    sum_same [] = refl
    sum_same (x ∷ xs) =
        omega (
          arith,
          sum_by-cons (λ (name : List ℕ). length name + 1) x xs,
          sum_by-cons (λ (name : List ℕ). length (name ++ 0 ∷ [])) x xs,
          sum_same xs,
          length-append x (0 ∷ []),
        )

-- a name that is shorter than what is left ends before its end
nul_ends : (text name : List ℕ) → name_of text ≡ name → length name < length text → has_nul text ≡ true
nul_ends text name is short = lt-ltb (length (name_of text)) (length text) (omega (arith, ap (λ (x : List ℕ). length x) is, short))

pub imports_fit : (l : Link) (counts : Counts) (uuid b : List ℕ) (p : Placed) (h : IsLed l counts uuid b p) (k : ℕ)
    → k < length (import_entries_of l)
    → import_fits b h.composed.imports.table.table k ≡ true
imports_fit l counts uuid b p h k lt =
    let w = h.composed.imports in
    let t = w.table.table in
    let says = w.table.entries k lt in
    let inside = entry_import l k h.leads lt in
    let one = Contains-get_or (imports_of l) (entry_of_link l k).import [] inside in
    let fits = library_number_fits l (name_of_entry l k) one in
    let many : length (libraries_of b) ≡ length (libraries_needed l) = ap (λ (ls : List (List ℕ)). length ls) w.libraries in
    let same : h.composed.fixups.say.table ≡ t =
    the_one (tables_of b) h.composed.fixups.say.table t h.composed.fixups.say.one
    (subst (λ (ts : List Table). Contains ts t) (sym w.table.one) (contains_first t [])) in
    let header = ap (λ (x : ChainedFixupsHeader). x.symbols_offset) (table_read l b p h.composed.fixups).header in
    let long = table_long p.base h.composed.fixups.say.fixups (fixup_segments p) (import_format l) h.composed.fixups.entries
    (names_text l) in
    let at : h.composed.fixups.say.table.at ≡ t.at = ap (λ (x : Table). x.at) same in
    let size : h.composed.fixups.say.table.size ≡ t.size = ap (λ (x : Table). x.size) same in
    let offset : (fixups_header b h.composed.fixups.say.table).symbols_offset ≡ (fixups_header b t).symbols_offset =
    ap (λ (x : Table). (fixups_header b x).symbols_offset) same in
    let low : t.at + (fixups_header b t).symbols_offset ≤ t.at + t.size = omega
    (arith, header, long, offset, size, h.composed.fixups.room) in
    let range = length-between b (t.at + (fixups_header b t).symbols_offset) (t.at + t.size)
    (omega (arith, at, size, h.composed.fixups.inside)) in
    let left = length-drop (import_entry b t k).name_offset (table_names b t) in
    let name = name_inside l (entry_of_link l k).import inside in
    let short : length (name_of_entry l k) < length (drop (import_entry b t k).name_offset (table_names b t)) =
    omega (arith, range, left, name, says.place, header, long, offset, size, h.composed.fixups.room) in
    and_from (nat_le 1 (import_entry b t k).library && nat_le (import_entry b t k).library (length (libraries_of b)))
    (has_nul (drop (import_entry b t k).name_offset (table_names b t)))
    (and_from (nat_le 1 (import_entry b t k).library) (nat_le (import_entry b t k).library (length (libraries_of b)))
    (le-leb 1 (import_entry b t k).library (omega (arith, says.library)))
    (le-leb (import_entry b t k).library (length (libraries_of b)) (omega (arith, says.library, fits, many))))
    (nul_ends (drop (import_entry b t k).name_offset (table_names b t)) (name_of_entry l k) says.name short)
