-- Imports, slots, stubs, initializers and personality functions, as one walk over all uses tells them.
--
-- The uses of a kind are its relocations, one by one. So what a function tells of all uses is what it tells of the relocations of each
-- kind, one list behind the other, and of the names of the export lists. A list of optional values is a list of values of those
-- elements that have one.
use Rattle.std.proofs.Common.{◌≡◌, ℕ, ◌+◌, ◌*◌, ◌/◌, ◌==◌, ◌&&◌, ◌||◌, Bool, true, false, if◌then◌else◌, Option, Some, None, List, [], ◌∷◌, ◌++◌, map, refl, sym, ap, ◌∙◌, arith}
use Rattle.std.specs.Prelude.{filter}
use Rattle.std.specs.List.{flat_map, filter_map, cons_option, range_with_len}
use Rattle.std.specs.Str.{bytes_eq}
use Rattle.std.proofs.lemmas.Grind.{flat_map-append}
use Rattle.std.proofs.lemmas.List.{map-append, append-nil}
use Rattle.std.proofs.lemmas.List.Folds.{flat_map-map}
use Rattle.std.proofs.lemmas.List.Elements.{filter-append, filter_map-append}
use Rattle.macho_records.specs.Symbols.{is_global}
use Rattle.macho_records.specs.declared.constants.TheConstants.{ARM64_RELOC_BRANCH26, ARM64_RELOC_GOT_LOAD_PAGE21, ARM64_RELOC_GOT_LOAD_PAGEOFF12, ARM64_RELOC_POINTER_TO_GOT, ARM64_RELOC_TLVP_LOAD_PAGE21, ARM64_RELOC_TLVP_LOAD_PAGEOFF12}
use Rattle.macho_model.specs.declared.targets.Target.{Target}
use Rattle.macho_model.specs.ExportLists.{plain_entries}
use Rattle.macho_model.specs.Links.{Link, SectionId, header_at, carried_of}
use Rattle.macho_model.specs.Resolution.{SymbolId, entry_at, name_at}
use Rattle.macho_model.specs.Needs.{RelocationId, relocation_in, relocations_of, relocations_at, initializer_sections, unwind_sections, carried_relocations, initializer_relocations, personality_relocations, symbol_of_relocation, globals_used, is_imported, imports_of, distinct, POINTER_SIZE, UNWIND_ENTRY_SIZE, PERSONALITY_PLACE}
use Rattle.macho_model.specs.Targets.{target_of_relocation, is_import, same_target, needs_slot, slots_of, stubs_of}
use Rattle.macho_model.specs.Consumed.{EntryId, entries_of_link, entry_count, relocations_in_entry, personality_targets}
use Rattle.macho_model.specs.Made.{initializers_of}
use Rattle.macho_model.specs.Uses.{Use, ByRelocation, ByInitializer, ByPersonality, ByName, initializer_uses, personality_uses, uses_of, global_name, name_used, slot_of_use, stub_of_use}

pub map_flat : {X Y Z : Type 0} (h : Y → Z) (f : X → List Y) (xs : List X) → map h (flat_map f xs) ≡ flat_map (λ x. map h (f x)) xs
map_flat h f [] = refl
map_flat h f (x ∷ xs) = map-append h (f x) (flat_map f xs) ∙ ap (λ zs. map h (f x) ++ zs) (map_flat h f xs)

pub flat_alike : {X Y : Type 0} (f g : X → List Y) (xs : List X) → ((x : X) → f x ≡ g x) → flat_map f xs ≡ flat_map g xs
flat_alike f g [] same = refl
flat_alike f g (x ∷ xs) same = ap (λ ys. ys ++ flat_map f xs) (same x) ∙ ap (λ ys. g x ++ ys) (flat_alike f g xs same)

-- what is made of a section's relocations
made_of : {Y : Type 0} (c : SectionId → ℕ → Y) (s : SectionId) (rs : List ℕ)
    → map (λ (u : RelocationId). c u.0 u.1) (map (λ r. (s, r)) rs) ≡ map (c s) rs
made_of c s [] = refl
made_of c s (r ∷ rs) = ap (λ ys. c s r ∷ ys) (made_of c s rs)

made_of_all : {Y : Type 0} (c : SectionId → ℕ → Y) (each : SectionId → List ℕ) (ss : List SectionId)
    → map (λ (u : RelocationId). c u.0 u.1) (flat_map (λ s. map (λ r. (s, r)) (each s)) ss) ≡ flat_map (λ s. map (c s) (each s)) ss
made_of_all c each ss =
    map_flat (λ (u : RelocationId). c u.0 u.1) (λ s. map (λ r. (s, r)) (each s)) ss
    ∙ flat_alike (λ s. map (λ (u : RelocationId). c u.0 u.1) (map (λ r. (s, r)) (each s))) (λ s. map (c s) (each s)) ss
    (λ s. made_of c s (each s))

-- in records
made_in_records : {Y : Type 0} (c : SectionId → ℕ → Y) (numbers : SectionId → List ℕ) (each : SectionId → ℕ → List ℕ) (ss : List SectionId)
    → map (λ (u : RelocationId). c u.0 u.1) (flat_map (λ s. flat_map (λ k. map (λ r. (s, r)) (each s k)) (numbers s)) ss)
    ≡ flat_map (λ s. flat_map (λ k. map (c s) (each s k)) (numbers s)) ss
made_in_records {Y = Y} c numbers each ss =
    map_flat (λ (u : RelocationId). c u.0 u.1) (λ s. flat_map (λ k. map (λ r. (s, r)) (each s k)) (numbers s)) ss
    ∙ flat_alike (λ s. map (λ (u : RelocationId). c u.0 u.1) (flat_map (λ k. map (λ r. (s, r)) (each s k)) (numbers s)))
    (λ s. flat_map (λ k. map (c s) (each s k)) (numbers s)) ss one
  where
    one : (s : SectionId) → map (λ (u : RelocationId). c u.0 u.1) (flat_map (λ k. map (λ r. (s, r)) (each s k)) (numbers s))
        ≡ flat_map (λ k. map (c s) (each s k)) (numbers s)
    one s =
        map_flat (λ (u : RelocationId). c u.0 u.1) (λ k. map (λ r. (s, r)) (each s k)) (numbers s)
        ∙ flat_alike (λ k. map (λ (u : RelocationId). c u.0 u.1) (map (λ r. (s, r)) (each s k))) (λ k. map (c s) (each s k)) (numbers s)
        (λ k. made_of c s (each s k))

-- the places of records that are told by their first byte
first_bytes : {Y : Type 0} (c : SectionId → ℕ → Y) (l : Link) (s : SectionId) (ks : List ℕ)
    → flat_map (λ k. map (c s) (relocations_at l s (POINTER_SIZE * k + 0))) ks
    ≡ flat_map (λ k. map (c s) (relocations_at l s (POINTER_SIZE * k))) ks
first_bytes c l s ks =
    flat_alike (λ k. map (c s) (relocations_at l s (POINTER_SIZE * k + 0))) (λ k. map (c s) (relocations_at l s (POINTER_SIZE * k))) ks
    (λ k. ap (λ (place : ℕ). map (c s) (relocations_at l s place)) (omega arith))

-- what is made of the relocations of each kind
pub made_of_carried : {Y : Type 0} (c : SectionId → ℕ → Y) (l : Link)
    → map (λ (u : RelocationId). c u.0 u.1) (carried_relocations l) ≡ flat_map (λ s. map (c s) (relocations_of l s)) (carried_of l)
unfolding carried_relocations
made_of_carried c l = made_of_all c (relocations_of l) (carried_of l)

pub made_of_initializers : {Y : Type 0} (c : SectionId → ℕ → Y) (l : Link)
    → map (λ (u : RelocationId). c u.0 u.1) (initializer_relocations l)
    ≡ flat_map
    (λ s. flat_map (λ k. map (c s) (relocations_at l s (POINTER_SIZE * k))) (range_with_len 0 ((header_at l s).size / POINTER_SIZE)))
    (initializer_sections l)
unfolding initializer_relocations
made_of_initializers c l =
    made_in_records c (λ s. range_with_len 0 ((header_at l s).size / POINTER_SIZE)) (λ s k. relocations_at l s (POINTER_SIZE * k + 0))
    (initializer_sections l)
    ∙ flat_alike
    (λ s. flat_map (λ k. map (c s) (relocations_at l s (POINTER_SIZE * k + 0))) (range_with_len 0 ((header_at l s).size / POINTER_SIZE)))
    (λ s. flat_map (λ k. map (c s) (relocations_at l s (POINTER_SIZE * k))) (range_with_len 0 ((header_at l s).size / POINTER_SIZE)))
    (initializer_sections l) (λ s. first_bytes c l s (range_with_len 0 ((header_at l s).size / POINTER_SIZE)))

pub made_of_personalities : {Y : Type 0} (c : SectionId → ℕ → Y) (l : Link)
    → map (λ (u : RelocationId). c u.0 u.1) (personality_relocations l)
    ≡ flat_map (λ s. flat_map (λ k. map (c s) (relocations_at l s (UNWIND_ENTRY_SIZE * k + PERSONALITY_PLACE)))
    (range_with_len 0 ((header_at l s).size / UNWIND_ENTRY_SIZE))) (unwind_sections l)
unfolding personality_relocations
made_of_personalities c l =
    made_in_records c (λ s. range_with_len 0 ((header_at l s).size / UNWIND_ENTRY_SIZE))
    (λ s k. relocations_at l s (UNWIND_ENTRY_SIZE * k + PERSONALITY_PLACE)) (unwind_sections l)

abbrev pub by_relocation : RelocationId → Use
by_relocation u = ByRelocation u.0 u.1

abbrev pub by_initializer : RelocationId → Use
by_initializer u = ByInitializer u.0 u.1

abbrev pub by_personality : RelocationId → Use
by_personality u = ByPersonality u.0 u.1

abbrev pub names_listed : Link → List (List ℕ)
names_listed l = filter (is_imported l) (plain_entries l.export_lists)

-- THE uses, kind by kind
pub uses_are : (l : Link)
    → uses_of l ≡ map by_relocation (carried_relocations l) ++ map by_initializer (initializer_relocations l)
    ++ map by_personality (personality_relocations l) ++ map ByName (names_listed l)
unfolding uses_of
uses_are l =
    ap (λ us. us ++ flat_map (initializer_uses l) (initializer_sections l) ++ flat_map (personality_uses l) (unwind_sections l)
    ++ map ByName (names_listed l))
    (sym (made_of_carried ByRelocation l))
    ∙ ap (λ us. map by_relocation (carried_relocations l) ++ us ++ flat_map (personality_uses l) (unwind_sections l)
    ++ map ByName (names_listed l))
    (sym (made_of_initializers ByInitializer l))
    ∙ ap (λ us. map by_relocation (carried_relocations l) ++ map by_initializer (initializer_relocations l) ++ us
    ++ map ByName (names_listed l))
    (sym (made_of_personalities ByPersonality l))

-- what is asked of lists that are made of others
pub asked_map : {X Y Z : Type 0} (h : Y → Option Z) (g : X → Y) (xs : List X) → filter_map h (map g xs) ≡ filter_map (λ x. h (g x)) xs
asked_map h g [] = refl
asked_map h g (x ∷ xs) = ap (λ zs. cons_option (h (g x)) zs) (asked_map h g xs)

asked_none : {X Z : Type 0} (xs : List X) → filter_map {Y = Z} (λ (x : X). None) xs ≡ []
asked_none [] = refl
asked_none {Z = Z} (x ∷ xs) = asked_none {Z = Z} xs

asked_all : {X Z : Type 0} (g : X → Z) (xs : List X) → filter_map (λ x. Some (g x)) xs ≡ map g xs
asked_all g [] = refl
asked_all g (x ∷ xs) = ap (λ zs. g x ∷ zs) (asked_all g xs)

asked_if : {X Z : Type 0} (p : X → Bool) (g : X → Z) (xs : List X)
    → filter_map (λ x. if p x then Some (g x) else None) xs ≡ map g (filter p xs)
asked_if p g [] = refl
asked_if {X = X} {Z = Z} p g (x ∷ xs) = by (p x) (asked_if p g xs)
  where
    by : (b : Bool) → filter_map (λ (y : X). if p y then Some (g y) else None) xs ≡ map g (filter p xs)
        → cons_option (if b then Some (g x) else None) (filter_map (λ (y : X). if p y then Some (g y) else None) xs)
        ≡ map g (if b then x ∷ filter p xs else filter p xs)
    by true rest = ap (λ (zs : List Z). g x ∷ zs) rest
    by false rest = rest

asked_both : {X Z : Type 0} (p : X → Bool) (q : Z → Bool) (g : X → Z) (xs : List X)
    → filter_map (λ x. if p x && q (g x) then Some (g x) else None) xs ≡ filter q (map g (filter p xs))
asked_both p q g [] = refl
asked_both {X = X} {Z = Z} p q g (x ∷ xs) = by (p x) (q (g x)) refl (asked_both p q g xs)
  where
    told : List Z
    told = filter_map (λ (y : X). if p y && q (g y) then Some (g y) else None) xs

    by : (b c : Bool) → q (g x) ≡ c → told ≡ filter q (map g (filter p xs))
        → cons_option (if b && c then Some (g x) else None) told ≡ filter q (map g (if b then x ∷ filter p xs else filter p xs))
    by true true e rest = rw e (ap (λ (zs : List Z). g x ∷ zs) rest)
    by true false e rest = rw e rest
    by false c e rest = rest

asked_alike : {X Z : Type 0} (f g : X → Option Z) (xs : List X) → ((x : X) → f x ≡ g x) → filter_map f xs ≡ filter_map g xs
asked_alike f g [] same = refl
asked_alike f g (x ∷ xs) same = ap (λ o. cons_option o (filter_map f xs)) (same x)
    ∙ ap (λ zs. cons_option (g x) zs) (asked_alike f g xs same)

-- what is asked of all uses
asked : {Y : Type 0} (f : Use → Option Y) (l : Link)
    → filter_map f (uses_of l) ≡ filter_map (λ u. f (by_relocation u)) (carried_relocations l)
    ++ filter_map (λ u. f (by_initializer u)) (initializer_relocations l)
    ++ filter_map (λ u. f (by_personality u)) (personality_relocations l) ++ filter_map (λ n. f (ByName n)) (names_listed l)
asked {Y = Y} f l =
    ap (filter_map f) (uses_are l)
    ∙ filter_map-append f (first ++ second ++ third) last
    ∙ ap (λ (zs : List Y). zs ++ filter_map f last)
    (filter_map-append f (first ++ second) third ∙ ap (λ (zs : List Y). zs ++ filter_map f third) (filter_map-append f first second))
    ∙ ap (λ (zs : List Y). zs ++ filter_map f second ++ filter_map f third ++ filter_map f last)
    (asked_map f by_relocation (carried_relocations l))
    ∙ ap (λ (zs : List Y). asked_first ++ zs ++ filter_map f third ++ filter_map f last)
    (asked_map f by_initializer (initializer_relocations l))
    ∙ ap (λ (zs : List Y). asked_first ++ asked_second ++ zs ++ filter_map f last)
    (asked_map f by_personality (personality_relocations l))
    ∙ ap (λ (zs : List Y). asked_first ++ asked_second ++ asked_third ++ zs) (asked_map f ByName (names_listed l))
  where
    first : List Use
    first = map by_relocation (carried_relocations l)

    second : List Use
    second = map by_initializer (initializer_relocations l)

    third : List Use
    third = map by_personality (personality_relocations l)

    last : List Use
    last = map ByName (names_listed l)

    asked_first : List Y
    asked_first = filter_map (λ u. f (by_relocation u)) (carried_relocations l)

    asked_second : List Y
    asked_second = filter_map (λ u. f (by_initializer u)) (initializer_relocations l)

    asked_third : List Y
    asked_third = filter_map (λ u. f (by_personality u)) (personality_relocations l)

abbrev target_at : Link → RelocationId → Target
target_at l u = target_of_relocation l u.0 u.1

-- the test on a slot, by either form
same_test : (a b c d e : Bool) → (a || b || c || d || e) ≡ (a || (b || (c || (d || (e || false)))))
same_test true b c d e = refl
same_test false true c d e = refl
same_test false false true d e = refl
same_test false false false true e = refl
same_test false false false false true = refl
same_test false false false false false = refl

slot_alike : (l : Link) (u : RelocationId) → slot_of_use l (by_relocation u) ≡ (if needs_slot l u then Some (target_at l u) else None)
slot_alike l u =
    let type = (relocation_in l u.0 u.1).r_type in
    ap (λ (b : Bool). if (type == ARM64_RELOC_POINTER_TO_GOT) || (b && is_import (target_at l u)) then Some (target_at l u) else None)
    (same_test (type == ARM64_RELOC_BRANCH26) (type == ARM64_RELOC_GOT_LOAD_PAGE21) (type == ARM64_RELOC_GOT_LOAD_PAGEOFF12)
    (type == ARM64_RELOC_TLVP_LOAD_PAGE21) (type == ARM64_RELOC_TLVP_LOAD_PAGEOFF12))

-- THE slots
pub slots_are : (l : Link) → slots_of l ≡ distinct same_target (filter_map (slot_of_use l) (uses_of l))
unfolding slots_of
slots_are l =
    ap (distinct same_target) (map-append (target_at l) (filter (needs_slot l) (carried_relocations l)) (personality_relocations l)
    ∙ sym (asked (slot_of_use l) l
    ∙ ap (λ (zs : List Target). zs ++ filter_map (λ u. slot_of_use l (by_initializer u)) (initializer_relocations l) ++ third ++ fourth)
    (asked_alike (λ u. slot_of_use l (by_relocation u)) (λ u. if needs_slot l u then Some (target_at l u) else None)
    (carried_relocations l) (slot_alike l)
    ∙ asked_if (needs_slot l) (target_at l) (carried_relocations l))
    ∙ ap (λ (zs : List Target). first ++ zs ++ third ++ fourth) (asked_none {Z = Target} (initializer_relocations l))
    ∙ ap (λ (zs : List Target). zs ++ third ++ fourth) (append-nil first)
    ∙ ap (λ (zs : List Target). first ++ zs ++ fourth) (asked_all (target_at l) (personality_relocations l))
    ∙ ap (λ (zs : List Target). first ++ map (target_at l) (personality_relocations l) ++ zs) (asked_none {Z = Target} (names_listed l))
    ∙ append-nil (first ++ map (target_at l) (personality_relocations l))))
  where
    first : List Target
    first = map (target_at l) (filter (needs_slot l) (carried_relocations l))

    third : List Target
    third = filter_map (λ u. slot_of_use l (by_personality u)) (personality_relocations l)

    fourth : List Target
    fourth = filter_map (λ n. slot_of_use l (ByName n)) (names_listed l)

-- THE stubs
pub stubs_are : (l : Link) → stubs_of l ≡ distinct same_target (filter_map (stub_of_use l) (uses_of l))
unfolding stubs_of
stubs_are l =
    ap (distinct same_target) (sym (asked (stub_of_use l) l
    ∙ ap (λ (zs : List Target). zs ++ second ++ third ++ fourth) (asked_both is_call is_import (target_at l) (carried_relocations l))
    ∙ ap (λ (zs : List Target). first ++ zs ++ third ++ fourth) (asked_none {Z = Target} (initializer_relocations l))
    ∙ ap (λ (zs : List Target). zs ++ third ++ fourth) (append-nil first)
    ∙ ap (λ (zs : List Target). first ++ zs ++ fourth) (asked_none {Z = Target} (personality_relocations l))
    ∙ ap (λ (zs : List Target). zs ++ fourth) (append-nil first)
    ∙ ap (λ (zs : List Target). first ++ zs) (asked_none {Z = Target} (names_listed l))
    ∙ append-nil first))
  where
    is_call : RelocationId → Bool
    is_call u = (relocation_in l u.0 u.1).r_type == ARM64_RELOC_BRANCH26

    first : List Target
    first = filter is_import (map (target_at l) (filter is_call (carried_relocations l)))

    second : List Target
    second = filter_map (λ u. stub_of_use l (by_initializer u)) (initializer_relocations l)

    third : List Target
    third = filter_map (λ u. stub_of_use l (by_personality u)) (personality_relocations l)

    fourth : List Target
    fourth = filter_map (λ n. stub_of_use l (ByName n)) (names_listed l)

-- THE initializers, section by section
pub initializers_are : (l : Link)
    → initializers_of l
    ≡ flat_map (λ s. flat_map (λ slot. map (target_of_relocation l s) (relocations_at l s (POINTER_SIZE * slot)))
    (range_with_len 0 ((header_at l s).size / POINTER_SIZE))) (initializer_sections l)
unfolding initializers_of
initializers_are l = made_of_initializers (target_of_relocation l) l

pub flat_flat : {X Y Z : Type 0} (h : Y → List Z) (f : X → List Y) (xs : List X)
    → flat_map h (flat_map f xs) ≡ flat_map (λ x. flat_map h (f x)) xs
flat_flat h f [] = refl
flat_flat h f (x ∷ xs) = flat_map-append h (f x) (flat_map f xs) ∙ ap (λ zs. flat_map h (f x) ++ zs) (flat_flat h f xs)

-- THE personality functions, entry by entry
pub personalities_are : (l : Link)
    → personality_targets l
    ≡ distinct same_target
    (flat_map (λ d. map (target_of_relocation l d.of_section) (relocations_in_entry l d.of_section d.entry PERSONALITY_PLACE))
    (entries_of_link l))
unfolding personality_targets entries_of_link
personalities_are l =
    ap (distinct same_target) (made_of_personalities (target_of_relocation l) l
    ∙ sym (flat_flat of_entry entries (unwind_sections l)
    ∙ flat_alike (λ s. flat_map of_entry (entries s))
    (λ s. flat_map (λ k. map (target_of_relocation l s) (relocations_at l s (UNWIND_ENTRY_SIZE * k + PERSONALITY_PLACE)))
    (range_with_len 0 ((header_at l s).size / UNWIND_ENTRY_SIZE))) (unwind_sections l)
    (λ s. flat_map-map of_entry (λ (e : ℕ). record { of_section = s; entry = e }) (range_with_len 0 (entry_count l s)))))
  where
    of_entry : EntryId → List Target
    of_entry d = map (target_of_relocation l d.of_section) (relocations_in_entry l d.of_section d.entry PERSONALITY_PLACE)

    entries : SectionId → List EntryId
    entries s = map (λ e. record { of_section = s; entry = e }) (range_with_len 0 (entry_count l s))

-- names of global symbols
abbrev symbol_at_use : Link → RelocationId → Option SymbolId
symbol_at_use l u = symbol_of_relocation l u.0 u.1

names_asked : (l : Link) (us : List RelocationId)
    → filter_map (λ u. global_name l (symbol_at_use l u)) us ≡ map (name_at l) (globals_used l us)
names_asked l [] = refl
names_asked l (u ∷ us) = by (symbol_at_use l u) (names_asked l us)
  where
    symbols : List SymbolId
    symbols = filter_map (symbol_at_use l) us

    rest : List (List ℕ)
    rest = filter_map (λ v. global_name l (symbol_at_use l v)) us

    by : (o : Option SymbolId) → rest ≡ map (name_at l) (filter (λ s. is_global (entry_at l s)) symbols)
        → cons_option (global_name l o) rest ≡ map (name_at l) (filter (λ s. is_global (entry_at l s)) (cons_option o symbols))
    by None same = same
    by (Some s) same = case (is_global (entry_at l s))
      where
        case : (b : Bool) → cons_option (if b then Some (name_at l s) else None) rest
            ≡ map (name_at l)
            (if b then s ∷ filter (λ t. is_global (entry_at l t)) symbols else filter (λ t. is_global (entry_at l t)) symbols)
        case true = ap (λ (ns : List (List ℕ)). name_at l s ∷ ns) same
        case false = same

filtered_twice : {X : Type 0} (p : X → Bool) (xs : List X) → filter p (filter p xs) ≡ filter p xs
filtered_twice p [] = refl
filtered_twice {X = X} p (x ∷ xs) = by (p x) refl (filtered_twice p xs)
  where
    by : (b : Bool) → p x ≡ b → filter p (filter p xs) ≡ filter p xs
        → filter p (if b then x ∷ filter p xs else filter p xs) ≡ (if b then x ∷ filter p xs else filter p xs)
    by true e rest = rw e (ap (λ (ys : List X). x ∷ ys) rest)
    by false e rest = rest

-- THE imports
pub imports_are : (l : Link) → imports_of l ≡ distinct bytes_eq (filter (is_imported l) (filter_map (name_used l) (uses_of l)))
unfolding imports_of
imports_are l =
    ap (distinct bytes_eq) (filter-append (is_imported l) used (plain_entries l.export_lists)
    ∙ ap (λ (ns : List (List ℕ)). filter (is_imported l) used ++ ns) (sym (filtered_twice (is_imported l) (plain_entries l.export_lists)))
    ∙ sym (ap (filter (is_imported l)) (asked (name_used l) l ∙ names_first ∙ names_last)
    ∙ filter-append (is_imported l) used (names_listed l)))
  where
    name : RelocationId → Option (List ℕ)
    name u = global_name l (symbol_at_use l u)

    used : List (List ℕ)
    used = map (name_at l) (globals_used l (carried_relocations l ++ initializer_relocations l ++ personality_relocations l))

    last : List (List ℕ)
    last = filter_map (λ n. name_used l (ByName n)) (names_listed l)

    names_first : filter_map name (carried_relocations l) ++ filter_map name (initializer_relocations l)
        ++ filter_map name (personality_relocations l) ++ last ≡ used ++ last
    names_first =
        ap (λ (ns : List (List ℕ)). ns ++ last)
        (sym (filter_map-append name (carried_relocations l ++ initializer_relocations l) (personality_relocations l)
        ∙ ap (λ (ns : List (List ℕ)). ns ++ filter_map name (personality_relocations l))
        (filter_map-append name (carried_relocations l) (initializer_relocations l)))
        ∙ names_asked l (carried_relocations l ++ initializer_relocations l ++ personality_relocations l))

    same_names : (ns : List (List ℕ)) → filter_map (λ (n : List ℕ). Some n) ns ≡ ns
    same_names [] = refl
    same_names (n ∷ ns) = ap (λ (ms : List (List ℕ)). n ∷ ms) (same_names ns)

    names_last : used ++ last ≡ used ++ names_listed l
    names_last = ap (λ (ns : List (List ℕ)). used ++ ns) (same_names (names_listed l))
