-- The pointers that the loader writes stand where a chain reaches them.
--
-- A section without bytes has no fields, and a field lies in its section. Fields of one section share no byte, as their
-- relocations don't, and no relocation gives two fields. Where no place is bad, each word stands at a multiple of four and in
-- one page.
use Rattle.std.proofs.Common.{◌≡◌, ℕ, ◌+◌, ◌%◌, ◌<◌, ◌≤◌, ◌⊎◌, inl, inr, ◌&&◌, ◌==◌, not, true, false, List, [], ◌∷◌, map, filter, length, get_or, refl, ap, subst, arith}
use Rattle.std.specs.Prelude.{Contains}
use Rattle.std.proofs.lemmas.Bool.{cases_lt, cases_Bool, and_parts, eqb-true}
use Rattle.std.proofs.lemmas.List.Elements.{All-map, Contains-get_or}
use Rattle.macho_bytes.proofs.Members.{filter_contains}
use Rattle.macho_bytes.proofs.Orders.{EachLater, later_filter, later_at}
use Rattle.macho_records.specs.Sections.{is_zerofill}
use Rattle.macho_model.specs.declared.placed.Counts.{Counts}
use Rattle.macho_model.specs.Links.{Link, SectionId, header_at, carried_of}
use Rattle.macho_model.specs.Needs.{relocation_in, relocations_of}
use Rattle.macho_model.specs.Fields.{Field, field_of, fields_of, is_prefix_type}
use Rattle.macho_model.specs.Segments.{SEGMENT_PAGE}
use Rattle.macho_model.specs.Placement.{Placed}
use Rattle.macho_model.specs.Values.{is_pointer, is_absolute_target, needs_fixup}
use Rattle.macho_model.specs.Stands.{is_template_offset}
use Rattle.macho_placed_laws.proofs.Once.{numbers_rise}
use Rattle.macho_image_laws.specs.Leads.{TargetsLead}
use Rattle.macho_image_laws.proofs.Leading.{link_leads}
use Rattle.macho_image_laws.proofs.Fits.{fields_apart}
use Rattle.macho_image_laws.proofs.Apart.{placed_is_carried}
use Rattle.macho_linkedit.specs.Runs.{WordsApart, IsWordPlace}
use Rattle.macho_writing_laws.specs.Premises.{IsSoundlyPlaced}
use Rattle.macho_writing_laws.specs.Rooms.{PointersStand}

-- THE targets of the link lead somewhere
pub leads : (l : Link) (counts : Counts) (p : Placed) → IsSoundlyPlaced l counts p → TargetsLead l
leads l counts p sound = link_leads l sound.objects sound.sound.relocations sound.personalities

-- a pointer has eight bytes
pub pointer_wide : (l : Link) (s : SectionId) (f : Field) → needs_fixup l s f ≡ true → f.width ≡ 8
pointer_wide l s f needs =
    let first = (and_parts (is_pointer f && not (is_absolute_target f.target)) (not (is_template_offset l s f)) needs).0 in
    let pointer = (and_parts (is_pointer f) (not (is_absolute_target f.target)) first).0 in
    eqb-true f.width 8 (and_parts (f.width == 8) _ pointer).0

-- and stands in a section with bytes
pub with_bytes : (l : Link) (s : SectionId) (f : Field) → TargetsLead l → Contains (carried_of l) s → Contains (fields_of l s) f
    → is_zerofill (header_at l s) ≡ false
with_bytes l s f lead carried has = elim (cases_Bool (is_zerofill (header_at l s))) [
  | inl zeros ↦ absurd (nowhere (subst (λ (fs : List Field). Contains fs f) (lead.zeros s carried zeros) has))
  | inr bytes ↦ bytes
]
  where
    nowhere : Contains [] f → ⊥
    nowhere h = absurd (omega (arith, h.1))

-- the relocations of a section's fields rise
later_map : {X Y : Type 0} (R : Y → Y → Type 0) (f : X → Y) (xs : List X) → EachLater (λ x y. R (f x) (f y)) xs → EachLater R (map f xs)
later_map R f [] later = tt
later_map R f (x ∷ xs) later = (All-map (R (f x)) f xs later.0, later_map R f xs later.1)

fields_rise : (l : Link) (s : SectionId) → EachLater (λ (f g : Field). f.relocation < g.relocation) (fields_of l s)
unfolding fields_of
fields_rise l s =
    later_map (λ (f g : Field). f.relocation < g.relocation) (field_of l s)
    (filter (λ r. not (is_prefix_type (relocation_in l s r).r_type)) (relocations_of l s))
    (later_filter (λ (x y : ℕ). x < y) (λ r. not (is_prefix_type (relocation_in l s r).r_type)) (relocations_of l s)
    (numbers_rise 0 (header_at l s).nreloc))

-- so two of them share no byte
pointers_apart : (l : Link) (counts : Counts) (p : Placed) (s : SectionId) → IsSoundlyPlaced l counts p → Contains (carried_of l) s
    → (i j : ℕ) (d : Field) → i < j → j < length (filter (needs_fixup l s) (fields_of l s))
    → WordsApart (get_or (filter (needs_fixup l s) (fields_of l s)) i d) (get_or (filter (needs_fixup l s) (fields_of l s)) j d)
pointers_apart l counts p s sound carried i j d lt below =
    let fs : List Field = filter (needs_fixup l s) (fields_of l s) in
    let f : Field = get_or fs i d in
    let g : Field = get_or fs j d in
    let of_f = filter_contains (needs_fixup l s) (fields_of l s) f (Contains-get_or fs i d (omega (arith, lt, below))) in
    let of_g = filter_contains (needs_fixup l s) (fields_of l s) g (Contains-get_or fs j d below) in
    let rise : f.relocation < g.relocation =
    later_at (λ (x y : Field). x.relocation < y.relocation) fs d i j
    (later_filter (λ (x y : Field). x.relocation < y.relocation) (needs_fixup l s) (fields_of l s) (fields_rise l s)) lt below in
    let wide_f = pointer_wide l s f of_f.1 in
    let wide_g = pointer_wide l s g of_g.1 in
    elim (fields_apart l s f g sound.sound.relocations carried of_f.0 of_g.0) [
      | inl same ↦ absurd (omega (arith, rise, ap (λ (x : Field). x.relocation) same))
      | inr (inl before) ↦ inl (omega (arith, before, wide_f))
      | inr (inr behind) ↦ inr (omega (arith, behind, wide_g))
    ]

-- a place that isn't bad is one for a word
word_place : (n : ℕ) → ((SEGMENT_PAGE < n % SEGMENT_PAGE + 8) ⊎ (1 ≤ n % 4) → ⊥) → IsWordPlace n
word_place n good = (
  elim (cases_lt 0 (n % 4)) [ inl some ↦ absurd (good (inr (omega (arith, some)))) | inr none ↦ omega (arith, none) ],
  elim (cases_lt SEGMENT_PAGE (n % SEGMENT_PAGE + 8)) [ inl far ↦ absurd (good (inl far)) | inr near ↦ omega (arith, near) ],
)

pub pointers_stand : PointersStand
pointers_stand l counts p sound good few =
    let lead = leads l counts p sound in
    record {
      inside = λ s f carried has needs.
          (omega (arith, lead.inside s f carried has, pointer_wide l s f needs), with_bytes l s f lead carried has);
      apart = λ s carried. pointers_apart l counts p s sound carried;
      places = λ q f here has needs.
          let carried = placed_is_carried l p q sound.placed.placed.whole_list here in
          word_place (q.address + f.offset)
          (λ bad. good q f.relocation here (f, (carried, has, refl), needs, (q.address, (q, here, refl, refl, refl), bad)));
      entries = omega (arith, few);
    }
