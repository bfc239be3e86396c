-- The words that the loader has to write, while they are gathered: first those of slots, then those of pointers.
--
-- One slot more adds its word at the end, and one section more its pointers. The object of a section is seen through a view: a view that is
-- there is one of the link's input of that number, so its bytes are the link's, and the header that it answers is the section's. A placed
-- section is a carried one. So what is asked of one section follows from what is known of all. A section of zeros adds nothing, and has no
-- pointers, since it has no fields. What is sorted in place has the length that it had, so it is written over the whole list.
use Rattle.std.proofs.Common.{◌≡◌, ℕ, ◌+◌, ◌<◌, true, List, [], ◌∷◌, ◌++◌, map, filter, length, get_or, take, take_all, drop, sym, ap, subst, ◌∙◌, arith, append-nil, append_assoc, Option, Some, None}
use Rattle.std.specs.Prelude.{Contains}
use Rattle.std.specs.List.{flat_map, range_with_len}
use Rattle.std.proofs.lemmas.Grind.{flat_map-append}
use Rattle.std.proofs.lemmas.List.{take_more, drop_all}
use Rattle.std.proofs.lemmas.List.FromFn.{map-range_with_len_more}
use Rattle.macho_bytes.proofs.Comparing.{read_alike}
use Rattle.macho_bytes.proofs.Members.{contains_map}
use Rattle.macho_records.specs.Sections.{is_zerofill}
use Rattle.macho_model.specs.declared.placed.PlacedSection.{PlacedSection}
use Rattle.macho_model.specs.declared.placed.Slot.{Slot}
use Rattle.macho_model.specs.Objects.{section_at}
use Rattle.macho_model.specs.Links.{Link, SectionId, carried_of}
use Rattle.macho_model.specs.Fields.{Field}
use Rattle.macho_model.specs.Values.{needs_fixup}
use Rattle.macho_model.specs.Placement.{Placed, id_of}
use Rattle.macho_object.specs.Views.{FileBytes}
use Rattle.macho_fields.specs.declared.pointers.Pointer.{Pointer}
use Rattle.macho_fields.specs.Filling.{IsToFill}
use Rattle.macho_fields.specs.Looks.{Look}
use Rattle.macho_fields.specs.Pointers.{pointer_of, pointers_in}
use Rattle.macho_contents.proofs.Viewing.{view_is}
use Rattle.macho_image_rules.specs.declared.chain.Needed.{Needed}
use Rattle.macho_image_rules.specs.Viewed.{IsViewed}
use Rattle.macho_image_rules.specs.Needing.{slot_word}
use Rattle.macho_image_rules.specs.steps.Gathered.{no_slot, word_at, slot_words}

-- the word of one slot more
pub slots_more : (slots : List Slot) (n : ℕ) (d : Slot) (w : Needed) (old mid new : List Needed) → n < length slots
    → mid ≡ old ++ slot_words slots n
    → w ≡ slot_word n (get_or slots n d) → new ≡ mid ++ w ∷ [] → new ≡ old ++ slot_words slots (n + 1)
unfolding slot_words
slots_more slots n d w old mid new lt before is more =
    more ∙ ap (λ (t : Needed). mid ++ t ∷ []) (is ∙ ap (slot_word n) (read_alike slots n d no_slot lt))
    ∙ ap (λ (ws : List Needed). ws ++ word_at slots n ∷ []) before
    ∙ append_assoc old (map (word_at slots) (range_with_len 0 n)) (word_at slots n ∷ [])
    ∙ ap (λ (ws : List Needed). old ++ ws) (sym (map-range_with_len_more (word_at slots) 0 n n (omega arith)))

pub no_slots : (slots : List Slot) (old : List Needed) → old ≡ old ++ slot_words slots 0
unfolding slot_words
no_slots slots old = sym (append-nil old)

-- the pointers of one section more
pub pointers_more : (l : Link) (qs : List PlacedSection) (n : ℕ) (d : PlacedSection) (run more : List Pointer) → n < length qs
    → run ≡ flat_map (pointers_in l) (take n qs) → more ≡ run ++ pointers_in l (get_or qs n d)
    → more ≡ flat_map (pointers_in l) (take (n + 1) qs)
pointers_more l qs n d run more lt before told =
    let q = get_or qs n d in
    told ∙ ap (λ (ps : List Pointer). ps ++ pointers_in l q) before
    ∙ ap (λ (ps : List Pointer). flat_map (pointers_in l) (take n qs) ++ ps) (sym (append-nil (pointers_in l q)))
    ∙ sym (flat_map-append (pointers_in l) (take n qs) (q ∷ []))
    ∙ ap (λ (ps : List PlacedSection). flat_map (pointers_in l) ps) (sym (take_more qs n d lt))

carried_here : (l : Link) (p : Placed) (views : List (Option FileBytes)) (look : Look) (q : PlacedSection) → IsViewed l p views look
    → Contains p.sections q → Contains (carried_of l) (id_of q)
carried_here l p views look q viewed here =
    subst (λ (ss : List SectionId). Contains ss (id_of q)) viewed.listed (contains_map id_of p.sections q here)

-- what is asked of one section
pub one_viewed : (l : Link) (p : Placed) (views : List (Option FileBytes)) (look : Look) (q : PlacedSection) (f : FileBytes)
    → IsViewed l p views look → Contains p.sections q → get_or views q.file None ≡ Some f → IsToFill l p q look f.bytes
one_viewed l p views look q f viewed here seen = record {
  sound = viewed.sound;
  found = viewed.found;
  tells = viewed.tells;
  carried = carried_here l p views look q viewed here;
  here = here;
  object = view_is l views q.file f viewed.objects seen;
}

-- zeros have no pointers
pub zeros_none : (l : Link) (p : Placed) (views : List (Option FileBytes)) (look : Look) (q : PlacedSection) (f : FileBytes)
    (run : List Pointer)
    → IsViewed l p views look → Contains p.sections q → get_or views q.file None ≡ Some f
    → is_zerofill (section_at f.bytes q.section) ≡ true → run ≡ run ++ pointers_in l q
unfolding pointers_in
zeros_none l p views look q f run viewed here seen zeros =
    let bytes = view_is l views q.file f viewed.objects seen in
    let header = ap (λ (b : List ℕ). is_zerofill (section_at b q.section)) bytes ∙ zeros in
    let none = viewed.zeros (id_of q) (carried_here l p views look q viewed here) header in
    sym (append-nil run)
    ∙ ap (λ (fs : List Field). run ++ map (pointer_of q) (filter (needs_fixup l (id_of q)) fs)) (sym none)

-- an item of a list, by its place
pub section_here : (qs ps : List PlacedSection) (n : ℕ) (d : PlacedSection) → qs ≡ ps → n < length qs → Contains ps (get_or qs n d)
section_here qs ps n d same lt =
    subst (λ (ss : List PlacedSection). Contains ss (get_or qs n d)) same (n, lt, read_alike qs n (get_or qs n d) d lt)

-- what is written over a whole list
pub written_over : {X : Type 0} (n : ℕ) (old new : List X) → n ≡ length old → length new ≡ length old
    → take n (new ++ drop (length new) old) ≡ new
written_over n old new long same =
    ap (λ xs. take n (new ++ xs)) (drop_all (length new) old (omega arith)) ∙ ap (take n) (append-nil new) ∙ take_all n new (omega arith)
