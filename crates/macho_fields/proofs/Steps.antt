-- A section while it is filled: one relocation more, and all of them.
--
-- The bytes outside the fields so far are the input's, and each of these fields says what it is asked to. The next field shares
-- no byte with them, so its bytes are still the input's, and what is written to it leaves them. A relocation that is a part of
-- the next one's field changes nothing. Behind the last one the section is filled.
use Rattle.std.proofs.Common.{◌≡◌, ℕ, ◌+◌, ◌^◌, ◌<◌, ◌≤◌, ◌==◌, ◌&&◌, ◌||◌, not, true, false, Bool, List, [], ◌∷◌, ◌++◌, map, filter, Contains, slice_index, refl, sym, ap, subst, ◌∙◌, arith, inl, inr, ◌⊎◌, length, append_assoc, append-nil, cond}
use Rattle.std.specs.Prelude.{nat_lt, is_some}
use Rattle.std.proofs.lemmas.Bool.{cases_lt}
use Rattle.std.proofs.lemmas.Bool.Decides.{nat_tests}
use Rattle.std.proofs.lemmas.List.{map-append}
use Rattle.std.proofs.lemmas.List.Elements.{filter-append}
use Rattle.std.specs.FinMap.{empty}
use Rattle.macho_bytes.specs.Numbers.{le_at}
use Rattle.macho_wire.specs.declared.relocations.RelocationInfo.{RelocationInfo}
use Rattle.macho_model.specs.declared.placed.PlacedSection.{PlacedSection}
use Rattle.macho_model.specs.Objects.{section_bytes}
use Rattle.macho_model.specs.Links.{Link, SectionId, object_of, header_at, carried_of}
use Rattle.macho_model.specs.Needs.{relocation_in}
use Rattle.macho_model.specs.Fields.{Field, field_of, content_of, is_prefix_type, is_pair, is_difference, is_with_addend, takes_addend}
use Rattle.macho_model.specs.Placement.{Placed, id_of}
use Rattle.macho_model.specs.Stands.{kind_of}
use Rattle.macho_model.specs.steps.Stands.{SaysOf}
use Rattle.macho_model.specs.Values.{needs_fixup}
use Rattle.macho_model.specs.Supported.{RelocationsAreSupported}
use Rattle.macho_fixups.specs.declared.run.Fixup.{Fixup}
use Rattle.macho_promise.specs.Filled.{FieldIsSet}
use Rattle.macho_promise.specs.Asked.{field_fixup}
use Rattle.macho_fields.specs.Looks.{Look}
use Rattle.macho_fields.specs.steps.Filled.{IsDone}
use Rattle.macho_fields.specs.steps.Writes.{ChangesOnly}
use Rattle.macho_fields.specs.steps.Sections.{is_field, fields_to, FieldIsFine, IsFilledTo, IsNext}
use Rattle.macho_fields.proofs.Puts.{same_bytes, number_stands}
use Rattle.macho_fields.proofs.Numbered.{one_if, chosen, chosen_more}
use Rattle.macho_fields.proofs.One.{one_set, one_fine, one_changes, one_asks}
use Rattle.macho_model.specs.Spans.{IsOutsideField}
use Rattle.macho_bytes.proofs.Bools.{true_or_false, and_left, and_right, either}
use Rattle.macho_bytes.proofs.Comparing.{below_more}

-- two fields of a section share no byte
abbrev pub AreApart : Field → Field → Type 0
AreApart f g = (f.offset + f.width ≤ g.offset) ⊎ (g.offset + g.width ≤ f.offset)

unshared : (a v b w : ℕ) → (nat_lt a (b + w) && nat_lt b (a + v)) ≡ false → (a + v ≤ b) ⊎ (b + w ≤ a)
unshared a v b w h = elim (cases_lt a (b + w)) [
  | inr behind ↦ inr behind
  | inl before ↦ elim (cases_lt b (a + v)) [
    | inr front ↦ inl front
    | inl both ↦
        let one : nat_lt a (b + w) ≡ true = grind (arith, nat_tests) in
        let two : nat_lt b (a + v) ≡ true = grind (arith, nat_tests) in
        absurd (true_or_false true refl (rw (one, two) at h))
  ]
]

-- the first one of a pair is a part of the other's field
first_of_pair : (q r : RelocationInfo) → is_pair q r ≡ true → is_prefix_type q.r_type ≡ true
first_of_pair q r h = elim (either (is_difference q r) (is_with_addend q r) h) [
  | inl difference ↦
      let is = and_left (q.r_type == 1) (r.r_type == 0) (and_left ((q.r_type == 1) && (r.r_type == 0)) (q.r_address == r.r_address)
      (and_left ((q.r_type == 1) && (r.r_type == 0) && (q.r_address == r.r_address)) (q.r_length == r.r_length) difference)) in
      rw is refl
  | inr with_addend ↦
      let is = and_left (q.r_type == 10) (takes_addend r.r_type)
      (and_left ((q.r_type == 10) && takes_addend r.r_type) (q.r_address == r.r_address) with_addend) in
      last (q.r_type == 1) (q.r_type == 10) is
]
  where
    last : (a b : Bool) → b ≡ true → (a || b) ≡ true
    last true b is = refl
    last false b is = is

pub fields_apart : (l : Link) (s : SectionId) (k n : ℕ) → RelocationsAreSupported l → Contains (carried_of l) s → k < n
    → n < (header_at l s).nreloc
    → is_field l s k ≡ true → AreApart (field_of l s k) (field_of l s n)
fields_apart l s k n sound carried before among field = elim (sound.apart s k n carried before among) [
  | inl unshared_bytes ↦
      unshared (relocation_in l s k).r_address (2 ^ (relocation_in l s k).r_length) (relocation_in l s n).r_address
      (2 ^ (relocation_in l s n).r_length) unshared_bytes
  | inr pair ↦
      let prefix = first_of_pair (relocation_in l s k) (relocation_in l s n)
      (and_right (n == k + 1) (is_pair (relocation_in l s k) (relocation_in l s n)) pair) in
      absurd (true_or_false false (sym (ap not prefix) ∙ field) refl)
]

-- a byte of a field is outside another one that is apart
outside_apart : (f g : Field) (i : ℕ) → AreApart f g → g.offset ≤ i → i < g.offset + g.width → IsOutsideField i f
outside_apart f g i (inl before) from to = inr (omega arith)
outside_apart f g i (inr after) from to = inl (omega arith)

-- the bytes of the next field are still the input's
pub still_input : (l : Link) (p : Placed) (q : PlacedSection) (n : ℕ) (asked : List Fixup) (text : List ℕ) (run : List Fixup)
    → RelocationsAreSupported l
    → Contains (carried_of l) (id_of q) → n < (header_at l (id_of q)).nreloc → IsFilledTo l p q n asked text run
    → (field_of l (id_of q) n).offset + (field_of l (id_of q) n).width ≤ (header_at l (id_of q)).size
    → length (section_bytes (object_of l q.file) q.section) ≡ (header_at l (id_of q)).size
    → le_at (field_of l (id_of q) n).width text (field_of l (id_of q) n).offset ≡ content_of l (id_of q) n
still_input l p q n asked text run sound carried among filled inside long =
    let f = field_of l (id_of q) n in
    same_bytes f.width f.offset text (section_bytes (object_of l q.file) q.section) (omega (arith, filled.long, inside))
    (omega (arith, long, inside))
    (λ i from to. filled.rest i (omega (arith, to, inside))
    (λ k lt field. outside_apart (field_of l (id_of q) k) f i (fields_apart l (id_of q) k n sound carried lt among field) from to))

-- a field that says what it is asked to goes on to say it, where other bytes change
set_stays : (l : Link) (p : Placed) (q : PlacedSection) (f g : Field) (old new : List ℕ) → ChangesOnly g.offset g.width old new
    → AreApart f g
    → f.offset + f.width ≤ length old → FieldIsSet l p q old f → FieldIsSet l p q new f
set_stays l p q f g old new changes apart inside set plain =
    subst (λ (word : ℕ). SaysOf l p 0 empty (id_of q) f (q.address + f.offset + 0) word (content_of l (id_of q) f.relocation)
    (kind_of f.type (is_some f.subtrahend)))
    (sym (number_stands f.offset f.width g.offset g.width old new changes apart inside)) (set plain)

-- what is made of the fields so far that need a fixup
filtered_single : {X : Type 0} (g : Field → X) (l : Link) (s : SectionId) (f : Field)
    → map g (filter (needs_fixup l s) (f ∷ [])) ≡ one_if (needs_fixup l s f) (g f)
filtered_single g l s f =
    elim (needs_fixup l s f) as (λ (b : Bool). map g (cond b (f ∷ []) []) ≡ one_if b (g f)) [ true ↦ refl | false ↦ refl ]

asks_added : {X : Type 0} (g : Field → X) (l : Link) (s : SectionId) (n : ℕ)
    → map g (filter (needs_fixup l s) (fields_to l s (n + 1)))
    ≡ map g (filter (needs_fixup l s) (fields_to l s n)) ++ map g (filter (needs_fixup l s) (one_if (is_field l s n) (field_of l s n)))
unfolding fields_to
asks_added g l s n =
    let nf = needs_fixup l s in
    let xs = chosen (field_of l s) (is_field l s) n in
    let ys = one_if (is_field l s n) (field_of l s n) in
    ap (λ (t : List Field). map g (filter nf t)) (chosen_more (field_of l s) (is_field l s) n)
    ∙ ap (map g) (filter-append nf xs ys) ∙ map-append g (filter nf xs) (filter nf ys)

-- of one field more, and of a relocation that is none
pub asks_field : {X : Type 0} (g : Field → X) (l : Link) (s : SectionId) (n : ℕ) → is_field l s n ≡ true
    → map g (filter (needs_fixup l s) (fields_to l s (n + 1)))
    ≡ map g (filter (needs_fixup l s) (fields_to l s n)) ++ one_if (needs_fixup l s (field_of l s n)) (g (field_of l s n))
asks_field {X} g l s n field =
    let f = field_of l s n in
    let front = map g (filter (needs_fixup l s) (fields_to l s n)) in
    asks_added g l s n ∙ ap (λ (b : Bool). front ++ map g (filter (needs_fixup l s) (one_if b f))) field
    ∙ ap (λ (t : List X). front ++ t) (filtered_single g l s f)

pub asks_none : {X : Type 0} (g : Field → X) (l : Link) (s : SectionId) (n : ℕ) → is_field l s n ≡ false
    → map g (filter (needs_fixup l s) (fields_to l s (n + 1))) ≡ map g (filter (needs_fixup l s) (fields_to l s n))
asks_none g l s n none =
    let front = map g (filter (needs_fixup l s) (fields_to l s n)) in
    asks_added g l s n ∙ ap (λ (b : Bool). front ++ map g (filter (needs_fixup l s) (one_if b (field_of l s n)))) none
    ∙ append-nil front

-- nothing is filled yet
pub filled_none : (l : Link) (p : Placed) (q : PlacedSection) (text : List ℕ) (run : List Fixup)
    → text ≡ section_bytes (object_of l q.file) q.section
    → length text ≡ (header_at l (id_of q)).size → IsFilledTo l p q 0 run text run
unfolding fields_to
filled_none l p q text run is long = record {
  long = long;
  rest = λ i lt outside. ap (λ (t : List ℕ). slice_index t i) is;
  set = λ r lt field. absurd (omega arith);
  fine = λ r lt field. absurd (omega arith);
  asks = sym (append-nil run);
}

-- a relocation that is a part of the field behind it
pub filled_prefix : (l : Link) (p : Placed) (q : PlacedSection) (n : ℕ) (asked : List Fixup) (text : List ℕ) (run : List Fixup)
    → IsFilledTo l p q n asked text run → is_field l (id_of q) n ≡ false → IsFilledTo l p q (n + 1) asked text run
filled_prefix l p q n asked text run filled none = record {
  long = filled.long;
  rest = λ i lt outside. filled.rest i lt (λ r less field. outside r (omega arith) field);
  set = λ r lt field. elim (below_more r n lt) [ inl less ↦ filled.set r less field | inr last ↦ absurd (other r last field) ];
  fine = λ r lt field. elim (below_more r n lt) [ inl less ↦ filled.fine r less field | inr last ↦ absurd (other r last field) ];
  asks = filled.asks ∙ ap (λ (t : List Fixup). asked ++ t) (sym (asks_none (field_fixup l p q) l (id_of q) n none));
}
  where
    other : (r : ℕ) → r ≡ n → is_field l (id_of q) r ≡ true → ⊥
    other r last field = true_or_false (is_field l (id_of q) n) (sym (ap (is_field l (id_of q)) last) ∙ field) none

-- a field
pub filled_field : (l : Link) (p : Placed) (q : PlacedSection) (look : Look) (descriptors : Bool) (n : ℕ) (asked : List Fixup)
    (old new : List ℕ) (run more : List Fixup)
    → RelocationsAreSupported l → ((r : ℕ) → r < (header_at l (id_of q)).nreloc
    → (field_of l (id_of q) r).offset + (field_of l (id_of q) r).width ≤ (header_at l (id_of q)).size)
    → IsFilledTo l p q n asked old run → IsNext l p q look descriptors n old
    → IsDone look descriptors q (field_of l (id_of q) n) old new run more
    → IsFilledTo l p q (n + 1) asked new more
filled_field l p q look descriptors n asked old new run more sound inside filled next done = record {
  long = changes.long ∙ filled.long;
  rest = λ i lt outside. changes.rest i (outside n (omega arith) next.field)
      ∙ filled.rest i lt (λ r less field. outside r (omega arith) field);
  set = λ r lt field. elim (below_more r n lt) [
    | inl less ↦
        set_stays l p q (field_of l s r) f old new changes (fields_apart l s r n sound next.fill.carried less next.among field)
        (omega (arith, inside r (omega (arith, less, next.among)), filled.long)) (filled.set r less field)
    | inr last ↦ subst (λ (k : ℕ). FieldIsSet l p q new (field_of l s k)) (sym last)
        (one_set l p q look descriptors n old new run more next done)
  ];
  fine = λ r lt field. elim (below_more r n lt) [
    | inl less ↦ filled.fine r less field
    | inr last ↦ subst (λ (k : ℕ). FieldIsFine l p q (field_of l s k)) (sym last)
        (one_fine l p q look descriptors n old new run more next done)
  ];
  asks =
      one_asks l p q look descriptors n old new run more next done
      ∙ ap (λ (t : List Fixup). t ++ one_if (needs_fixup l s f) (field_fixup l p q f)) filled.asks
      ∙ append_assoc asked front (one_if (needs_fixup l s f) (field_fixup l p q f))
      ∙ ap (λ (t : List Fixup). asked ++ t) (sym (asks_field (field_fixup l p q) l s n next.field));
}
  where
    s : SectionId
    s = id_of q

    f : Field
    f = field_of l s n

    front : List Fixup
    front = map (field_fixup l p q) (filter (needs_fixup l s) (fields_to l s n))

    changes : ChangesOnly f.offset f.width old new
    changes = one_changes l p q look descriptors n old new run more next done
