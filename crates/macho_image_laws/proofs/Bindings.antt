-- A word that was asked to become an import binds that import, for every choice.
--
-- The word tells the number of an entry. The entry's name is that of its import, and its library's number finds the library that
-- the import is bound to. The entry of an import by its own number has no addend, so the word's counts; an entry of its own has the
-- addend, and the word has none. In both cases the sum is what was asked.
use Rattle.std.proofs.Common.{◌≡◌, ℕ, ◌+◌, ◌-◌, ◌%◌, ◌^◌, ◌<◌, ◌==◌, Bool, true, false, if◌then◌else◌, List, [], length, get_or, map, refl, sym, ap, subst, ◌∙◌, arith, inl, inr, Some}
use Rattle.std.specs.Prelude.{Contains}
use Rattle.std.specs.List.{range_with_len}
use Rattle.std.proofs.lemmas.Bool.{cases_Bool, and_parts, and_from, eqb-true, eq-eqb}
use Rattle.std.proofs.lemmas.List.{get_or_append_left, length-append}
use Rattle.std.proofs.lemmas.List.Elements.{Contains-get_or, Contains-append_right}
use Rattle.std.proofs.lemmas.List.FromFn.{length-map-range_with_len, get_or-map-range_with_len}
use Rattle.macho_model.specs.declared.targets.Target.TheVariants as target
use Rattle.macho_model.specs.Links.{Link}
use Rattle.macho_model.specs.Needs.{imports_of, import_library, libraries_needed}
use Rattle.macho_model.specs.Placement.{Placed}
use Rattle.macho_model.specs.Images.{Table, tables_of, import_entry, import_name, import_library_name}
use Rattle.macho_model.specs.Loader.{ordinal_of}
use Rattle.macho_model.specs.Memory.{Choice, chosen, bind_addend, BindsAll}
use Rattle.macho_model.specs.Fixups.{EntryOfImport, same_entry, has_room, own_entries, import_entries_of}
use Rattle.macho_model.specs.ImportTable.{entry_of_link, name_of_entry}
use Rattle.macho_model.specs.SlideLaws.{BindsAt}
use Rattle.macho_fixups.specs.declared.run.Fixup.{Fixup}
use Rattle.macho_fixups.specs.declared.words.FixupKind.{FixupKind}
use Rattle.macho_fixups.specs.declared.words.FixupKind.TheVariants.{Bind}
use Rattle.macho_fixups.specs.Words.{Says}
use Rattle.macho_promise.specs.FixupsSay.{own_number, kind_for}
use Rattle.macho_image_laws.specs.Composed.{ImportsAreWritten}
use Rattle.macho_image_laws.proofs.Distinct.{first_is}
use Rattle.macho_image_laws.proofs.Libraries.{library_is_found}
use Rattle.macho_image_laws.proofs.Run.{HasWord}
use Rattle.macho_model.specs.steps.ImportTable.{no_entry}
use Rattle.macho_bytes.proofs.Members.{position_below}

abbrev entry : ℕ → ℕ → EntryOfImport
entry id addend = record { import = id; addend = addend }

-- entries are compared by both numbers
pub same_entries : (x y : EntryOfImport) → same_entry x y ≡ true → x ≡ y
same_entries x y h =
    let both = and_parts (x.import == y.import) (x.addend == y.addend) h in
    let first = eqb-true x.import y.import both.0 in
    let second = eqb-true x.addend y.addend both.1 in
    ap (λ (n : ℕ). entry n x.addend) first ∙ ap (λ (n : ℕ). entry y.import n) second

entry_itself : (x : EntryOfImport) → same_entry x x ≡ true
entry_itself x = and_from (x.import == x.import) (x.addend == x.addend) (eq-eqb x.import x.import refl) (eq-eqb x.addend x.addend refl)

-- an import's entry by its own number
pub plain_within : (l : Link) (id : ℕ) → id < length (imports_of l) → id < length (import_entries_of l)
unfolding import_entries_of
plain_within l id lt =
    let front : List EntryOfImport = map (λ (n : ℕ). entry n 0) (range_with_len 0 (length (imports_of l))) in
    omega (arith, lt, length-append front (own_entries l), length-map-range_with_len (λ (n : ℕ). entry n 0) 0 (length (imports_of l)))

plain_entry : (l : Link) (id : ℕ) → id < length (imports_of l) → entry_of_link l id ≡ entry id 0
unfolding import_entries_of
plain_entry l id lt =
    let front : List EntryOfImport = map (λ (n : ℕ). entry n 0) (range_with_len 0 (length (imports_of l))) in
    get_or_append_left front (own_entries l) no_entry id (omega (
      arith,
      lt,
      length-map-range_with_len (λ (n : ℕ). entry n 0) 0
          (length (imports_of l)),
    ))
    ∙ get_or-map-range_with_len (λ (n : ℕ). entry n 0) 0 (length (imports_of l)) id id no_entry lt (omega arith)

-- an entry of its own
own_among : (l : Link) (e : EntryOfImport) → Contains (own_entries l) e → Contains (import_entries_of l) e
unfolding import_entries_of
own_among l e one = Contains-append_right (map (λ (n : ℕ). entry n 0) (range_with_len 0 (length (imports_of l)))) (own_entries l) e one

pub own_within : (l : Link) (id addend : ℕ) → Contains (own_entries l) (entry id addend)
    → own_number l id addend < length (import_entries_of l)
own_within l id addend one =
    position_below (same_entry (entry id addend)) (import_entries_of l) (entry id addend) (own_among l (entry id addend) one)
    (entry_itself (entry id addend))

own_is : (l : Link) (id addend : ℕ) → Contains (own_entries l) (entry id addend)
    → entry_of_link l (own_number l id addend) ≡ entry id addend
own_is l id addend one =
    first_is same_entry same_entries (import_entries_of l) (entry id addend) no_entry (own_among l (entry id addend) one)
    (entry_itself (entry id addend))

-- the library and the name that an entry of the file says
entry_library : (l : Link) (b : List ℕ) (w : ImportsAreWritten l b) (k : ℕ) → k < length (import_entries_of l)
    → (entry_of_link l k).import < length (imports_of l)
    → import_library_name b (import_entry b w.table.table k) ≡ import_library l (name_of_entry l k)
entry_library l b w k lt inside =
    let says = w.table.entries k lt in
    let one = Contains-get_or (imports_of l) (entry_of_link l k).import [] inside in
    ap (λ (ls : List (List ℕ)). get_or ls ((import_entry b w.table.table k).library - 1) []) w.libraries
    ∙ ap (λ (n : ℕ). get_or (libraries_needed l) (n - 1) []) says.library
    ∙ library_is_found l (name_of_entry l k) one

-- what a choice has for an entry it has for the import
pub entry_chosen : (l : Link) (b : List ℕ) (w : ImportsAreWritten l b) (choice : Choice) (k id large x : ℕ)
    → k < length (import_entries_of l)
    → entry_of_link l k ≡ entry id large → id < length (imports_of l)
    → chosen choice (import_library l (get_or (imports_of l) id [])) (get_or (imports_of l) id []) ≡ Some x
    → chosen choice (import_library_name b (import_entry b w.table.table k)) (import_name b w.table.table (import_entry b w.table.table k))
    ≡ Some x
entry_chosen l b w choice k id large x lt is inside chooses =
    let number : (entry_of_link l k).import ≡ id = ap (λ (e : EntryOfImport). e.import) is in
    let name : name_of_entry l k ≡ get_or (imports_of l) id [] = ap (λ (n : ℕ). get_or (imports_of l) n []) number in
    let library = entry_library l b w k lt (omega (arith, number, inside)) in
    ap (λ (n : List ℕ). chosen choice n (import_name b w.table.table (import_entry b w.table.table k))) library
    ∙ ap (λ (n : List ℕ). chosen choice (import_library l (name_of_entry l k)) n) (w.table.entries k lt).name
    ∙ ap (λ (n : List ℕ). chosen choice (import_library l n) n) name ∙ chooses

-- the other way round, for an import by its own number
pub import_chosen : (l : Link) (b : List ℕ) (w : ImportsAreWritten l b) (choice : Choice) (id : ℕ) → id < length (imports_of l)
    → BindsAll b choice
    → (x : ℕ) × (chosen choice (import_library l (get_or (imports_of l) id [])) (get_or (imports_of l) id []) ≡ Some x)
import_chosen l b w choice id inside binds =
    let lt = plain_within l id inside in
    let one : Contains (tables_of b) w.table.table = subst (λ (ts : List Table). Contains ts w.table.table) (sym w.table.one)
    (0, omega arith, refl) in
    let bound = binds w.table.table id one (omega (arith, lt, w.table.count)) in
    let number : (entry_of_link l id).import ≡ id = ap (λ (e : EntryOfImport). e.import) (plain_entry l id inside) in
    let name : name_of_entry l id ≡ get_or (imports_of l) id [] = ap (λ (n : ℕ). get_or (imports_of l) n []) number in
    let library = entry_library l b w id lt (omega (arith, number, inside)) in (
      bound.0,
      ap (λ (n : List ℕ). chosen choice (import_library l n) n) (sym name)
          ∙ ap (λ (n : List ℕ). chosen choice (import_library l (name_of_entry l id)) n) (sym (w.table.entries id lt).name)
          ∙ ap (λ (n : List ℕ). chosen choice n (import_name b w.table.table (import_entry b w.table.table id))) (sym library) ∙ bound.2,
    )

-- a word that tells an entry binds its import, with the sum of both addends
bind_at : (l : Link) (b : List ℕ) (w : ImportsAreWritten l b) (f : Fixup) (h : HasWord b f) (k small id large addend : ℕ)
    → f.kind ≡ Bind k small
    → k < length (import_entries_of l) → entry_of_link l k ≡ entry id large → id < length (imports_of l) → addend ≡ large + small
    → BindsAt l b f.address id addend
bind_at l b w f h k small id large addend kind lt is inside sum =
    let says : Says (Bind k small) h.word = subst (λ (t : FixupKind). Says t h.word) kind h.says in
    record {
      on = h.on;
      word = h.word;
      stands = h.stands;
      binds = says.0;
      alone = h.alone;
      bound = λ choice x chooses.
          let of_entry : (import_entry b w.table.table k).addend ≡ large = (w.table.entries k lt).addend
          ∙ ap (λ (e : EntryOfImport). e.addend) is in
          let same : ordinal_of h.word ≡ k = says.1 in
          record {
            table = w.table.table;
            one = subst (λ (ts : List Table). Contains ts w.table.table) (sym w.table.one) (0, omega arith, refl);
            import = omega (arith, same, lt, w.table.count);
            address = x;
            chooses = subst
                (λ (n : ℕ). chosen choice (import_library_name b (import_entry b w.table.table n))
                (import_name b w.table.table (import_entry b w.table.table n)) ≡ Some x)
                (sym same) (entry_chosen l b w choice k id large x lt is inside chooses);
            is = subst (λ (n : ℕ). (x + addend) % 2 ^ 64 ≡ (x + (import_entry b w.table.table n).addend + bind_addend h.word) % 2 ^ 64)
                (sym same)
                (ap (λ (n : ℕ). n % 2 ^ 64) (omega (arith, of_entry, sum, says.2)));
          };
    }

-- THE word of an import, by its own number or by an entry of its own
pub binds_at : (l : Link) (b : List ℕ) (p : Placed) (w : ImportsAreWritten l b) (f : Fixup) (h : HasWord b f) (id addend : ℕ)
    → f.kind ≡ kind_for l p (target.Import id) addend → id < length (imports_of l)
    → (has_room addend ≡ false → Contains (own_entries l) (entry id addend)) → BindsAt l b f.address id addend
binds_at l b p w f h id addend kind inside own =
    elim (cases_Bool (has_room addend)) [
      | inl room ↦
          let is : f.kind ≡ Bind id addend = kind ∙ ap (λ (t : Bool). if t then Bind id addend else Bind (own_number l id addend) 0) room in
          bind_at l b w f h id addend id 0 addend is (plain_within l id inside) (plain_entry l id inside) inside (omega arith)
      | inr none ↦
          let is : f.kind ≡ Bind (own_number l id addend) 0 = kind ∙ ap
          (λ (t : Bool). if t then Bind id addend else Bind (own_number l id addend) 0) none in
          bind_at l b w f h (own_number l id addend) 0 id addend addend is (own_within l id addend (own none))
          (own_is l id addend (own none)) inside
          (omega arith)
    ]
