-- Sections and names of objects of a link: what being in a list of them says.
use Rattle.std.proofs.Common.{◌≡◌, Bool, true, [], ◌∷◌, Contains, ℕ, List, ap, ◌∙◌, filter, sym, arith, ◌&&◌, not, inl, inr, refl, ◌==◌, Decides, length, slice_index, false, replicate, zero, suc, ◌+◌, ◌-◌, cond, take, ◌⊎◌, ◌^◌, ◌<◌, map}
use Rattle.macho_model.specs.Segments.{list_if, OutputKey, same_key, segment_rank}
use Rattle.macho_bytes.proofs.Members.{contains_first, map_contains, filter_contains, contains_cases, contains_later, nil_contains, contains_map, contains_flat_map, contains_range}
use Rattle.std.proofs.lemmas.List.{get_or_default, get_or-take, take_at}
use Rattle.macho_model.specs.Lists.{IsNumber, of_first, EachNext}
use Rattle.macho_model.specs.Links.{Link, Object, object_bytes, no_input, object_of, SectionId, header_at, carried_of, sections_of, is_carried, Input, Dylib, Stub, sections_of_file, is_initializers}
use Rattle.std.proofs.lemmas.List.Elements.{All-contains, filter_passes, Contains-append_left, All-map}
use Rattle.std.specs.Prelude.{Contains, filter}
use Rattle.std.specs.List.{range_with_len, prefix_len}
use Rattle.macho_model.specs.Objects.{num_sections}
use Rattle.macho_records.specs.Sections.{should_exclude_of}
use Rattle.macho_model.specs.Needs.{initializer_sections}
use Rattle.macho_model.specs.Zeros.{Span}
use Rattle.macho_model.specs.Spans.{AreApart}
use Rattle.std.proofs.lemmas.Bool.{eq-eqb, eqb-true}
use Rattle.std.proofs.lemmas.Slice.Eq.{bytes_eq-Decides}
use Rattle.macho_model.specs.Fixups.{EntryOfImport, same_entry}
use Rattle.macho_bytes.proofs.Bools.{and_left, and_right, and_both, is_equal, equal_is, and_both as both}
use Rattle.std.proofs.lemmas.List.FromFn.{length-map-range_with_len}
use Rattle.macho_model.specs.Signature.{uuid_written}
use Rattle.macho_model.specs.steps.Signature.{uuid_byte}
use Rattle.macho_wire.specs.declared.relocations.RelocationInfo.{RelocationInfo}
use Rattle.macho_records.specs.declared.constants.TheConstants.{ARM64_RELOC_ADDEND, ARM64_RELOC_UNSIGNED}
use Rattle.macho_model.specs.Consumed.{is_plain_pointer}
use Rattle.std.proofs.lemmas.List.Folds.{length-prefix_len, prefix_len-append}
use Rattle.std.proofs.lemmas.List.Sums.{prefix_len_is, prefix_len_passes}
use Rattle.macho_bytes.specs.Texts.{name_of}
use Rattle.macho_records.specs.Segments.{name_field, text_of}
use Rattle.macho_model.specs.Values.{less}
use Rattle.macho_model.specs.declared.placed.PlacedSegment.{PlacedSegment}
use Rattle.macho_model.specs.Placement.{is_segment_named, Follows}
use Rattle.macho_model.specs.Uses.{ByRelocation, uses_of, carried_uses}
use Rattle.macho_bytes.proofs.Orders.{one_element, EachLater, each_later}

pub list_if_contains : {X : Type 0} (b : Bool) (x : X) → b ≡ true → Contains (list_if b (x ∷ [])) x
list_if_contains b x e = rw e (contains_first x [])

pub object_at : (l : Link) (file : ℕ) (b : List ℕ) → IsNumber l.inputs file (Object b) → object_of l file ≡ b
object_at l file b number = ap object_bytes (get_or_default l.inputs file no_input (Object b) number.0 ∙ number.1)

pub carried_is : (l : Link) (s : SectionId) → Contains (carried_of l) s → is_carried (header_at l s) ≡ true
unfolding carried_of
carried_is l s there =
    All-contains (λ (s : SectionId). is_carried (header_at l s) ≡ true) (filter (λ s. is_carried (header_at l s)) (sections_of l)) s
    (filter_passes (λ s. is_carried (header_at l s)) (sections_of l)) there

pub file_of_section : (file : ℕ) (x : Input) (s : SectionId) → Contains (sections_of_file file x) s → s.file ≡ file
file_of_section file (Object b) s has =
    let made = map_contains (λ (k : ℕ). record { file = file; section = k }) (range_with_len 0 (num_sections b)) s has in
    ap (λ (t : SectionId). t.file) (sym made.2)
file_of_section file (Dylib b) s has = absurd (omega (arith, has.1))
file_of_section file (Stub text says) s has = absurd (omega (arith, has.1))

-- a section of initializers is one of the link
pub initializer_section : (l : Link) (s : SectionId) → Contains (initializer_sections l) s → Contains (sections_of l) s
unfolding initializer_sections
initializer_section l s has = (filter_contains (λ t. not (should_exclude_of (header_at l t)) && is_initializers (header_at l t))
    (sections_of l) s has).0

pub apart_back : (a b : Span) → AreApart a b → AreApart b a
apart_back a b (inl none) = inr (inl none)
apart_back a b (inr (inl none)) = inl none
apart_back a b (inr (inr (inl before))) = inr (inr (inr before))
apart_back a b (inr (inr (inr behind))) = inr (inr (inl behind))

pub same_key_itself : (a : OutputKey) → same_key a a ≡ true
same_key_itself a = rw ((bytes_eq-Decides a.segment a.segment).1 refl, (bytes_eq-Decides a.name a.name).1 refl) (eq-eqb a.type a.type refl)

-- entries are equal by both numbers
pub entry-Decides : (a b : EntryOfImport) → Decides (same_entry a b) (a ≡ b)
entry-Decides a b = (
  λ h.
      let imports : a.import ≡ b.import = is_equal a.import b.import (and_left (a.import == b.import) (a.addend == b.addend) h) in
      let addends : a.addend ≡ b.addend = is_equal a.addend b.addend (and_right (a.import == b.import) (a.addend == b.addend) h) in
      ap (λ (n : ℕ). let e : EntryOfImport = record { import = n; addend = a.addend } in e) imports
      ∙ ap (λ (n : ℕ). let e : EntryOfImport = record { import = b.import; addend = n } in e) addends,
  λ e.
      and_both (a.import == b.import) (a.addend == b.addend) (equal_is a.import b.import (ap (λ (x : EntryOfImport). x.import) e))
      (equal_is a.addend b.addend (ap (λ (x : EntryOfImport). x.addend) e)),
)

pub length-uuid : (uuid : List ℕ) → length (uuid_written uuid) ≡ 16
unfolding uuid_written
length-uuid uuid = length-map-range_with_len (λ k. uuid_byte k (slice_index uuid k)) 0 16

-- a plain pointer is no addend
pub no_addend : (rel : RelocationInfo) → is_plain_pointer rel ≡ true → (rel.r_type == ARM64_RELOC_ADDEND) ≡ false
no_addend rel plain =
    ap (λ n. n == ARM64_RELOC_ADDEND)
    (eqb-true rel.r_type ARM64_RELOC_UNSIGNED (first (rel.r_type == ARM64_RELOC_UNSIGNED) (rel.r_length == 3) (not rel.r_pcrel) plain))
  where
    first : (a b c : Bool) → (a && b && c) ≡ true → a ≡ true
    first true b c t = refl
    first false b c t = t

-- a name ends where it was cut
pub cut_whole : (bytes : List ℕ) → prefix_len (λ (b : ℕ). not (b == 0)) (name_of bytes) ≡ length (name_of bytes)
cut_whole bytes =
    let q : ℕ → Bool = λ b. not (b == 0) in
    let long : length (name_of bytes) ≡ prefix_len (λ (b : ℕ). not (b == 0)) bytes = length-prefix_len (λ (b : ℕ). not (b == 0)) bytes in
    prefix_len_is (λ (b : ℕ). not (b == 0)) (name_of bytes) (length (name_of bytes)) 0 (omega arith)
    (λ k low.
    ap (λ (b : ℕ). not (b == 0)) (get_or-take (prefix_len (λ (b : ℕ). not (b == 0)) bytes) bytes k 0 (omega arith))
    ∙ prefix_len_passes (λ (b : ℕ). not (b == 0)) bytes k 0 (omega arith))
    (λ low. absurd (omega arith))

-- zeros have no name in front
pub no_name : (n : ℕ) → prefix_len (λ (b : ℕ). not (b == 0)) (replicate n 0) ≡ 0
no_name zero = refl
no_name (suc n) = refl

-- a name in a field is read back
pub name_in_field : (bytes : List ℕ) → name_of (name_field bytes) ≡ name_of bytes
name_in_field bytes =
    let n : List ℕ = name_of bytes in
    let z : List ℕ = replicate (16 - length (name_of bytes)) 0 in
    let cut : prefix_len (λ (b : ℕ). not (b == 0)) (name_field bytes) ≡ length (name_of bytes)
    = prefix_len-append (λ (b : ℕ). not (b == 0)) n z
    ∙ ap (λ (t : Bool). cond t (length (name_of bytes) + prefix_len (λ (b : ℕ). not (b == 0)) (replicate (16 - length (name_of bytes)) 0))
    (prefix_len (λ (b : ℕ). not (b == 0)) (name_of bytes)))
    (eq-eqb (prefix_len (λ (b : ℕ). not (b == 0)) (name_of bytes)) (length (name_of bytes)) (cut_whole bytes))
    ∙ omega (arith, no_name (16 - length (name_of bytes))) in
    ap (λ (k : ℕ). take k (name_field bytes)) cut ∙ take_at (name_of bytes) (replicate (16 - length (name_of bytes)) 0)
    (length (name_of bytes)) refl

-- the first that passes is one of the list, and passes
pub first_passes : {X : Type 0} (p : X → Bool) (f : X → ℕ) (xs : List X) (x : X) → Contains xs x → p x ≡ true
    → (y : X) × Contains xs y × (p y ≡ true) × (of_first 0 f (filter p xs) ≡ f y)
first_passes p f [] x has passes = absurd (nil_contains x has)
first_passes {X = X} p f (z ∷ xs) x has passes = by (λ later. first_passes p f xs x later passes) (p z) refl (contains_cases z xs x has)
  where
    by : (Contains xs x → (y : X) × Contains xs y × (p y ≡ true) × (of_first 0 f (filter p xs) ≡ f y)) → (b : Bool) → p z ≡ b
        → (z ≡ x) ⊎ Contains xs x
        → (y : X) × Contains (z ∷ xs) y × (p y ≡ true) × (of_first 0 f (filter p (z ∷ xs)) ≡ f y)
    by rest true e at = (z, contains_first z xs, e, rw e refl)
    by rest false e (inl same) =
        let both : true ≡ false = sym passes ∙ sym (ap p same) ∙ e in
        cc
    by rest false e (inr later) =
        let found = rest later in
        (found.0, contains_later z xs found.0 found.1, found.2, rw e found.3)

pub less_below : (x y : ℕ) → less x y < 2 ^ 64
less_below x y = omega arith

-- a relocation of a carried section is a use
pub carried_use : (l : Link) (s : SectionId) (r : ℕ) → Contains (carried_of l) s → r < (header_at l s).nreloc → Contains (uses_of l)
    (ByRelocation s r)
unfolding uses_of
carried_use l s r carried among =
    let of_section : Contains (carried_uses l s) (ByRelocation s r) = contains_map (ByRelocation s)
    (range_with_len 0 (header_at l s).nreloc) r
    (contains_range (header_at l s).nreloc r among) in
    let first = contains_flat_map (carried_uses l) (carried_of l) s (ByRelocation s r) carried of_section in
    Contains-append_left _ _ _ (Contains-append_left _ _ _ (Contains-append_left _ _ _ first))

-- segments that stand one behind the other have names that differ
abbrev pub name_told : PlacedSegment → List ℕ
name_told s = text_of s.name

abbrev pub Below : Link → PlacedSegment → PlacedSegment → Type 0
Below l s t = segment_rank l (name_told s) < segment_rank l (name_told t)

-- ranks of their names rise
pub ranks_rise : (l : Link) (segments : List PlacedSegment) → EachNext (Follows l) segments
    → EachLater (λ n m. segment_rank l n < segment_rank l m) (map name_told segments)
ranks_rise l segments follow =
    mapped segments
    (each_later (Below l) (λ s t u one two. omega (arith, one, two)) segments (λ k x y at_k at_next. (follow k x y at_k at_next).rank))
  where
    mapped : (ss : List PlacedSegment) → EachLater (Below l) ss → EachLater (λ n m. segment_rank l n < segment_rank l m) (map name_told ss)
    mapped [] later = tt
    mapped (s ∷ ss) later =
        (All-map (λ m. segment_rank l (name_told s) < segment_rank l m) name_told ss later.0, mapped ss later.1)

-- two segments of one name are one
pub one_named : (l : Link) (segments : List PlacedSegment) (name : List ℕ) (s t : PlacedSegment) → EachNext (Follows l) segments
    → Contains segments s
    → Contains segments t → is_segment_named name s ≡ true → is_segment_named name t ≡ true → s ≡ t
one_named l segments name s t follow has there s_named t_named =
    let same : text_of s.name ≡ text_of t.name =
    (bytes_eq-Decides (text_of s.name) name).0 s_named ∙ sym ((bytes_eq-Decides (text_of t.name) name).0 t_named) in
    one_element (λ n m. segment_rank l n < segment_rank l m) (λ (u : PlacedSegment). text_of u.name) segments
    (λ n m e lt. omega (arith, ap (segment_rank l) e, lt)) (ranks_rise l segments follow) s t has there same
