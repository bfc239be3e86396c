-- All words that are gathered are those that the loader has to write for a link.
--
-- A word of the list is that of a slot by its number, or that of a pointer of a placed section, which is one of the section's fields that
-- need a fixup. The other way round each slot and each such field has its word there. In another order they are the same words. A place
-- that needs a fixup is that of a slot or of such a field, so it is the address of its word; and a word stands at such a place.
use Rattle.std.proofs.Common.{◌≡◌, ℕ, ◌<◌, List, ◌++◌, map, length, get_or, refl, ap, subst, ◌∙◌, inl, inr}
use Rattle.std.specs.Prelude.{Contains, IsPermutation}
use Rattle.std.specs.List.{flat_map, range_with_len}
use Rattle.std.proofs.lemmas.List.Sorted.{Contains-permutation, IsPermutation-sym}
use Rattle.std.proofs.lemmas.List.Elements.{Contains-append_left, Contains-append_right, Contains-append_cases}
use Rattle.macho_bytes.proofs.Comparing.{read_alike}
use Rattle.macho_bytes.proofs.Members.{contains_map, map_contains, contains_filter, filter_contains, contains_flat_map, flat_map_contains, contains_all, contains_range, range_contains}
use Rattle.macho_model.specs.declared.placed.PlacedSection.{PlacedSection}
use Rattle.macho_model.specs.declared.placed.Slot.{Slot}
use Rattle.macho_model.specs.Lists.{IsNumber}
use Rattle.macho_model.specs.Links.{Link}
use Rattle.macho_model.specs.Fields.{Field, fields_of}
use Rattle.macho_model.specs.Fixups.{IsFixupPlace}
use Rattle.macho_model.specs.Fixups as place
use Rattle.macho_model.specs.Values.{needs_fixup}
use Rattle.macho_model.specs.Placement.{Placed, id_of}
use Rattle.macho_fields.specs.declared.pointers.Pointer.{Pointer}
use Rattle.macho_fields.specs.Pointers.{pointer_of, pointers_in}
use Rattle.macho_image_rules.specs.declared.chain.Needed.{Needed}
use Rattle.macho_image_rules.specs.Chain.{IsNeeded}
use Rattle.macho_image_rules.specs.Needing.{slot_word, field_word, IsPointer, IsNeededBy, AreNeededBy}
use Rattle.macho_image_rules.specs.steps.Gathered.{word_of, no_slot, word_at, slot_words}

-- the words of all pointers of sections
abbrev pointer_words : Link → List PlacedSection → List Needed
pointer_words l qs = map word_of (flat_map (pointers_in l) qs)

-- the words, before they are put into order
abbrev pub words_in : Link → Placed → List Needed
words_in l p = slot_words p.slots (length p.slots) ++ pointer_words l p.sections

-- each slot has its word, and each such word is that of a slot
slot_among : (slots : List Slot) (n k : ℕ) → k < n → Contains (slot_words slots n) (word_at slots k)
unfolding slot_words
slot_among slots n k lt = contains_map (word_at slots) (range_with_len 0 n) k (contains_range n k lt)

slot_of_word : (slots : List Slot) (n : ℕ) (w : Needed) → Contains (slot_words slots n) w → (k : ℕ) × (k < n) × (word_at slots k ≡ w)
unfolding slot_words
slot_of_word slots n w has =
    let at = map_contains (word_at slots) (range_with_len 0 n) w has in
    (at.0, range_contains n at.0 at.1, at.2)

-- so has each pointer
pointer_among : (l : Link) (p : Placed) (q : PlacedSection) (f : Field) → IsPointer l p q f
    → Contains (pointer_words l p.sections) (field_word q f)
unfolding pointers_in
pointer_among l p q f pointer =
    contains_map word_of (flat_map (pointers_in l) p.sections) (pointer_of q f)
    (contains_flat_map (pointers_in l) p.sections q (pointer_of q f) pointer.placed
    (contains_map (pointer_of q) _ f (contains_filter (needs_fixup l (id_of q)) (fields_of l (id_of q)) f pointer.among pointer.needs)))

pointer_told : (l : Link) (p : Placed) (q : PlacedSection) (t : Pointer) → Contains p.sections q → Contains (pointers_in l q) t
    → (f : Field) × IsPointer l p q f × (pointer_of q f ≡ t)
unfolding pointers_in
pointer_told l p q t here has =
    let at = map_contains (pointer_of q) _ t has in
    let one = filter_contains (needs_fixup l (id_of q)) (fields_of l (id_of q)) at.0 at.1 in
    (at.0, record { placed = here; among = one.0; needs = one.1 }, at.2)

pointer_of_word : (l : Link) (p : Placed) (w : Needed) → Contains (pointer_words l p.sections) w
    → (q : PlacedSection) × (f : Field) × IsPointer l p q f × (field_word q f ≡ w)
pointer_of_word l p w has =
    let at = map_contains word_of (flat_map (pointers_in l) p.sections) w has in
    let of = flat_map_contains (pointers_in l) p.sections at.0 at.1 in
    let one = pointer_told l p of.0 at.0 of.1 of.2 in
    (of.0, one.0, one.1, ap word_of one.2 ∙ at.2)

-- what is so of each slot's word and each pointer's is so of each word
each_word : (P : Needed → Type 0) (l : Link) (p : Placed) (w : Needed)
    → ((k : ℕ) (s : Slot) → IsNumber p.slots k s → P (slot_word k s))
    → ((q : PlacedSection) (f : Field) → IsPointer l p q f → P (field_word q f)) → Contains (words_in l p) w → P w
each_word P l p w slots pointers has =
    elim (Contains-append_cases (slot_words p.slots (length p.slots)) (pointer_words l p.sections) w has) [
      | inl slot ↦
          let at = slot_of_word p.slots (length p.slots) w slot in
          subst P at.2 (slots at.0 (get_or p.slots at.0 no_slot) (at.1, read_alike p.slots at.0 (get_or p.slots at.0 no_slot) no_slot at.1))
      | inr pointer ↦ let of = pointer_of_word l p w pointer in subst P of.3 (pointers of.0 of.1 of.2)
    ]

has_slot : (l : Link) (p : Placed) (k : ℕ) (s : Slot) → IsNumber p.slots k s → Contains (words_in l p) (slot_word k s)
has_slot l p k s numbered =
    let same : get_or p.slots k no_slot ≡ s = read_alike p.slots k no_slot s numbered.0 ∙ numbered.1 in
    Contains-append_left (slot_words p.slots (length p.slots)) (pointer_words l p.sections) (slot_word k s)
    (subst (λ (t : Slot). Contains (slot_words p.slots (length p.slots)) (slot_word k t)) same
    (slot_among p.slots (length p.slots) k numbered.0))

has_pointer : (l : Link) (p : Placed) (q : PlacedSection) (f : Field) → IsPointer l p q f → Contains (words_in l p) (field_word q f)
has_pointer l p q f pointer =
    Contains-append_right (slot_words p.slots (length p.slots)) (pointer_words l p.sections) (field_word q f)
    (pointer_among l p q f pointer)

-- THE words, in any order.
pub needed_by : (l : Link) (p : Placed) (words : List Needed) → IsPermutation (words_in l p) words → AreNeededBy l p words
needed_by l p words moved = record {
  each = contains_all (IsNeededBy l p) words (λ w has. each_word (IsNeededBy l p) l p w
      (λ k s numbered. record { slot = s; numbered = numbered; is = refl })
      (λ q f pointer. record {
        place = q;
        field = f;
        pointer = pointer;
        file_is = refl;
        section_is = refl;
        relocation_is = refl;
        is = refl;
      }) (back w has));
  slots = λ k s numbered. slot_in k s numbered;
  pointers = λ q f pointer. pointer_in q f pointer;
  places = λ a. (of_word a, at_place a);
}
  where
    back : (w : Needed) → Contains words w → Contains (words_in l p) w
    back w has = Contains-permutation words (words_in l p) w (IsPermutation-sym (words_in l p) words moved) has

    slot_in : (k : ℕ) (s : Slot) → IsNumber p.slots k s → Contains words (slot_word k s)
    slot_in k s numbered = Contains-permutation (words_in l p) words (slot_word k s) moved (has_slot l p k s numbered)

    pointer_in : (q : PlacedSection) (f : Field) → IsPointer l p q f → Contains words (field_word q f)
    pointer_in q f pointer = Contains-permutation (words_in l p) words (field_word q f) moved (has_pointer l p q f pointer)

    address : Needed → ℕ
    address n = n.address

    of_word : (a : ℕ) → IsNeeded words a → IsFixupPlace l p a
    of_word a has =
        let at = map_contains (λ (n : Needed). n.address) words a has in
        subst (IsFixupPlace l p) at.2 (each_word (λ w. IsFixupPlace l p w.address) l p at.0
        (λ k s numbered. place.IsFixupPlace.slot s (k, numbered.0, numbered.1))
        (λ q f pointer. place.IsFixupPlace.pointer q f pointer.placed pointer.among pointer.needs) (back at.0 at.1))

    at_place : (a : ℕ) → IsFixupPlace l p a → IsNeeded words a
    at_place _ (place.IsFixupPlace.slot s one) =
        contains_map (λ (n : Needed). n.address) words (slot_word one.0 s) (slot_in one.0 s (one.1, one.2))
    at_place _ (place.IsFixupPlace.pointer q f one has needs) =
        contains_map (λ (n : Needed). n.address) words (field_word q f)
        (pointer_in q f (record { placed = one; among = has; needs = needs }))

-- as they are gathered
pub gathered_by : (l : Link) (p : Placed) (sections : List PlacedSection) (slots : List Slot) (pointers told : List Pointer)
    (words sorted : List Needed)
    → sections ≡ p.sections → slots ≡ p.slots → pointers ≡ flat_map (pointers_in l) sections → told ≡ pointers
    → words ≡ slot_words slots (length slots) ++ map word_of told → IsPermutation words sorted → AreNeededBy l p sorted
gathered_by l p sections slots pointers told words sorted placed all asked same gathered moved =
    needed_by l p sorted
    (subst (λ (ws : List Needed). IsPermutation ws sorted)
    (gathered ∙ ap (λ (ss : List Slot). slot_words ss (length ss) ++ map word_of told) all
    ∙ ap (λ (ps : List Pointer). slot_words p.slots (length p.slots) ++ map word_of ps)
    (same ∙ asked ∙ ap (flat_map (pointers_in l)) placed)) moved)
