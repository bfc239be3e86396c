-- No two functions start at one address, and one personality has one slot.
--
-- Two entries of a link differ by their section or by their number, and by the rules they begin at two places. Were these at one address,
-- the sections that they start in would share it, as each start lies before its section's end; so both would be one section, and the
-- places one. A personality is numbered by its slot, and the placement lists the slots by number.
use Rattle.std.proofs.Common.{◌≡◌, ℕ, suc, ◌+◌, ◌<◌, ◌≤◌, ◌⊎◌, inl, inr, ◌==◌, ◌&&◌, ◌||◌, eq-eqb, not, true, List, [], ◌∷◌, ◌++◌, length, map, get_or, refl, sym, ap, ◌∙◌, arith}
use Rattle.std.specs.Prelude.{All, Contains, flat_map, AllPairs, ◌≢◌}
use Rattle.std.specs.List.{range_with_len, enumerate_from}
use Rattle.std.proofs.lemmas.Bool.{eqb-true}
use Rattle.std.proofs.lemmas.List.{get_or-map, length-map}
use Rattle.std.proofs.lemmas.List.Elements.{All-nil, All-cons}
use Rattle.macho_records.specs.Sections.{should_exclude_of}
use Rattle.macho_bytes.proofs.Members.{map_contains, one_passes}
use Rattle.macho_model.specs.declared.placed.Counts.{Counts}
use Rattle.macho_model.specs.declared.placed.PlacedSection.{PlacedSection}
use Rattle.macho_model.specs.declared.rules.UnwindRule.TheVariants.{U6}
use Rattle.macho_model.specs.Objects.{num_sections}
use Rattle.macho_model.specs.Links.{Link, Input, Object, Dylib, Stub, SectionId, header_at, is_unwind_entries, sections_of_file, sections_of}
use Rattle.macho_model.specs.Needs.{section_named, unwind_sections}
use Rattle.macho_model.specs.Consumed.{EntryId, entries_of_link, entry_count, unwind_entry, starts_in, same_section, same_start}
use Rattle.macho_model.specs.Placement.{Placed, id_of}
use Rattle.macho_model.specs.Zeros.{Span}
use Rattle.macho_model.specs.Spans.{AreApart, section_span, common_span, slot_span, stub_span, head_span, spans_with}
use Rattle.macho_unwind_pages.specs.declared.entries.ResolvedUnwindInfo.{ResolvedUnwindInfo}
use Rattle.macho_promise.specs.UnwindSays.{resolved, resolved_entries}
use Rattle.macho_consumed.proofs.BoundInputs.{in_section}
use Rattle.macho_consumed.proofs.Pairs.{Pairs, pairs_joined, pairs_range, pairs_filter, pairs_map, at_pairs}
use Rattle.macho_image_laws.proofs.Members.{one_or_pair}
use Rattle.macho_synthetic.specs.Made.{IsToMake}
use Rattle.macho_synthetic.proofs.EntryFacts.{HasStart, lies_from}
use Rattle.macho_synthetic.proofs.EntryPlaces.{function_stands}
use Rattle.macho_model.proofs.Parts.{apart_of}
use Rattle.macho_bytes.proofs.Bools.{and_left, and_right}
use Rattle.macho_model.proofs.Sections.{file_of_section}
use Rattle.macho_bytes.proofs.Comparing.{read_alike}
use Rattle.macho_bytes.proofs.Pairs.{pairs_front, pairs_unmap}

-- sections of a link differ
pub record AreOthers (s t : SectionId) : Type 0 where
  pub apart : s.file ≡ t.file → s.section ≡ t.section → ⊥

from_number : (n : ℕ) (xs : List Input) → All (λ i. n ≤ i.0) (enumerate_from n xs)
from_number n [] = All-nil (λ (i : ℕ × Input). n ≤ i.0)
from_number n (x ∷ xs) =
    All-cons (λ (i : ℕ × Input). n ≤ i.0) (n, x) (enumerate_from (n + 1) xs) (omega arith)
    (λ k d lt. omega (arith, from_number (n + 1) xs k d lt))

files_rise : (n : ℕ) (xs : List Input) → Pairs (λ i j. i.0 < j.0) (enumerate_from n xs)
files_rise n [] = tt
files_rise n (x ∷ xs) = (λ k d lt. omega (arith, from_number (n + 1) xs k d lt), files_rise (n + 1) xs)

in_file : (file : ℕ) (x : Input) → Pairs AreOthers (sections_of_file file x)
in_file file (Object b) =
    pairs_map (λ j k. j < k) AreOthers (λ k. record { file = file; section = k }) (range_with_len 0 (num_sections b))
    (λ j k lt. record { apart = λ same other. omega (arith, lt, other) }) (pairs_range 0 (num_sections b))
in_file file (Dylib b) = tt
in_file file (Stub text says) = tt

unwind_sections_differ : (l : Link) → Pairs AreOthers (unwind_sections l)
unfolding unwind_sections sections_of
unwind_sections_differ l =
    pairs_filter AreOthers (λ s. not (should_exclude_of (header_at l s)) && is_unwind_entries (header_at l s))
    (flat_map (λ i. sections_of_file i.0 i.1) (enumerate_from 0 l.inputs))
    (pairs_joined (λ i j. i.0 < j.0) AreOthers (λ (i : ℕ × Input). sections_of_file i.0 i.1) (enumerate_from 0 l.inputs)
    (files_rise 0 l.inputs)
    (λ i has. in_file i.0 i.1)
    (λ i j s t lt here there. record {
      apart = λ same other. omega
          (arith, lt, same, file_of_section i.0 i.1 s here, file_of_section j.0 j.1 t there);
    }))

-- and so do its entries
pub record AreOtherEntries (d e : EntryId) : Type 0 where
  pub apart : d.of_section.file ≡ e.of_section.file → d.of_section.section ≡ e.of_section.section → d.entry ≡ e.entry → ⊥

section_of : (s : SectionId) (n : ℕ) (d : EntryId) → Contains (map (λ e. record { of_section = s; entry = e }) (range_with_len 0 n)) d
    → d.of_section ≡ s
section_of s n d has = ap (λ (e : EntryId). e.of_section) (sym
    (map_contains (λ (e : ℕ). record { of_section = s; entry = e }) (range_with_len 0 n) d has).2)

pub entries_differ : (l : Link) → Pairs AreOtherEntries (entries_of_link l)
unfolding entries_of_link
entries_differ l =
    pairs_joined AreOthers AreOtherEntries (λ s. map (λ e. record { of_section = s; entry = e }) (range_with_len 0 (entry_count l s)))
    (unwind_sections l) (unwind_sections_differ l)
    (λ s has.
    pairs_map (λ j k. j < k) AreOtherEntries (λ e. record { of_section = s; entry = e }) (range_with_len 0 (entry_count l s))
    (λ j k lt. record { apart = λ file section same. omega (arith, lt, same) }) (pairs_range 0 (entry_count l s)))
    (λ s t d e other here there. record {
      apart = λ file section entry.
          let first = section_of s (entry_count l s) d here in
          let second = section_of t (entry_count l t) e there in
          other.apart (ap (λ (u : SectionId). u.file) (sym first) ∙ file ∙ ap (λ (u : SectionId). u.file) second)
          (ap (λ (u : SectionId). u.section) (sym first) ∙ section ∙ ap (λ (u : SectionId). u.section) second);
    })

-- the ranges of sections are apart
pub sections_apart : (l : Link) (counts : Counts) (p : Placed) → IsToMake l counts p
    → AllPairs (λ q r. AreApart (section_span l q) (section_span l r)) p.sections
unfolding spans_with
sections_apart l counts p make =
    let parts_1 : List Span = head_span counts p ∷ map (section_span l) p.sections ++ map (common_span l) p.commons in
    let parts_2 : List Span = parts_1 ++ map slot_span p.slots in
    let parts_3 : List Span = parts_2 ++ map stub_span p.stubs in
    let all = pairs_front AreApart (head_span counts p ∷ map (section_span l) p.sections) (map (common_span l) p.commons)
    (pairs_front AreApart parts_1 (map slot_span p.slots) (pairs_front AreApart parts_2 (map stub_span p.stubs)
    (pairs_front AreApart parts_3 _ (apart_of make.placed.placed)))) in
    pairs_unmap AreApart (section_span l) p.sections
    (λ i j d before within. all (suc i) (suc j) d (omega (arith, before)) (omega (arith, within)))

-- an address before the end of two sections is in one
shared : (l : Link) (q r : PlacedSection) (a : ℕ) → AreApart (section_span l q) (section_span l r) → q.address ≤ a
    → a < q.address + (header_at l (id_of q)).size
    → r.address ≤ a → a < r.address + (header_at l (id_of r)).size → ⊥
shared l q r a (inl none) q_from q_to r_from r_to = absurd (omega (arith, none, q_from, q_to))
shared l q r a (inr (inl none)) q_from q_to r_from r_to = absurd (omega (arith, none, r_from, r_to))
shared l q r a (inr (inr (inl before))) q_from q_to r_from r_to = absurd (omega (arith, before, q_to, r_from))
shared l q r a (inr (inr (inr behind))) q_from q_to r_from r_to = absurd (omega (arith, behind, r_to, q_from))

pub one_section : (l : Link) (counts : Counts) (p : Placed) (q r : PlacedSection) (a : ℕ) → IsToMake l counts p → Contains p.sections q
    → Contains p.sections r
    → q.address ≤ a → a < q.address + (header_at l (id_of q)).size → r.address ≤ a → a < r.address + (header_at l (id_of r)).size → q ≡ r
one_section l counts p q r a make in_q in_r q_from q_to r_from r_to =
    by (one_or_pair (λ x y. AreApart (section_span l x) (section_span l y)) p.sections q r (sections_apart l counts p make) in_q in_r)
  where
    by : (q ≡ r) ⊎ (AreApart (section_span l q) (section_span l r) ⊎ AreApart (section_span l r) (section_span l q)) → q ≡ r
    by (inl same) = same
    by (inr (inl apart)) = absurd (shared l q r a apart q_from q_to r_from r_to)
    by (inr (inr apart)) = absurd (shared l r q a apart r_from r_to q_from q_to)

-- the start's relocation names a section
one_start : (l : Link) (d : EntryId) (r : ℕ) → HasStart l d r → starts_in l d.of_section d.entry ≡ r ∷ []
one_start l d r start = rw start.one (rw start.by_number refl)

-- THE starts differ
pub starts_differ : (l : Link) (counts : Counts) (p : Placed) (d e : EntryId) → IsToMake l counts p → Contains (entries_of_link l) d
    → Contains (entries_of_link l) e → AreOtherEntries d e → (resolved l p d).start ≢ (resolved l p e).start
starts_differ l counts p d e make in_d in_e other same =
    let f = function_stands l counts p d make in_d in
    let g = function_stands l counts p e make in_e in
    let one : f.q ≡ g.q = one_section l counts p f.q g.q (resolved l p d).start make f.has g.has f.from f.before
    (omega (arith, same, g.from)) (omega (arith, same, g.before)) in
    let named : section_named l d.of_section f.r ≡ section_named l e.of_section g.r = sym f.id ∙ ap id_of one ∙ g.id in
    let file : d.of_section.file ≡ e.of_section.file = ap (λ (s : SectionId). s.file) named in
    let section : (section_named l d.of_section f.r).section ≡ (section_named l e.of_section g.r).section = ap
    (λ (s : SectionId). s.section) named in
    let addr : (header_at l (section_named l d.of_section f.r)).addr ≡ (header_at l (section_named l e.of_section g.r)).addr =
    ap (λ (s : SectionId). (header_at l s).addr) named in
    let at : f.q.address ≡ g.q.address = ap (λ (q : PlacedSection). q.address) one in
    let low = lies_from l (section_named l d.of_section f.r) (unwind_entry l d.of_section d.entry).start
    (unwind_entry l d.of_section d.entry).length f.start.inside in
    let high = lies_from l (section_named l e.of_section g.r) (unwind_entry l e.of_section e.entry).start
    (unwind_entry l e.of_section e.entry).length g.start.inside in
    let start : (unwind_entry l d.of_section d.entry).start ≡ (unwind_entry l e.of_section e.entry).start =
    omega (arith, same, f.is, g.is, addr, at, low, high) in
    let names : same_section (section_named l d.of_section f.r) (section_named l e.of_section g.r) ≡ true =
    rw (eq-eqb d.of_section.file e.of_section.file file, eq-eqb _ _ section) refl in
    let met : same_start l d e ≡ true = rw (one_start l d f.r f.start, one_start l e g.r g.start, names, eq-eqb _ _ start) refl in
    let it = in_section l e in_e in
    let alone = one_passes (λ x. not (same_start l x e) || (same_section x.of_section e.of_section && (x.entry == e.entry)))
    (entries_of_link l) d
    (make.entries.unwind e.of_section e.entry U6 it.there it.within) in_d in
    let twin : (same_section d.of_section e.of_section && (d.entry == e.entry)) ≡ true = rw met at alone in
    let sections = and_left _ _ twin in
    other.apart (eqb-true _ _ (and_left _ _ sections)) (eqb-true _ _ (and_right (d.of_section.file == e.of_section.file) _ sections))
    (eqb-true _ _ (and_right (same_section d.of_section e.of_section) _ twin))

pub starts_distinct : (l : Link) (counts : Counts) (p : Placed) → IsToMake l counts p
    → AllPairs (λ x y. x.start ≢ y.start) (resolved_entries l p)
unfolding resolved_entries
starts_distinct l counts p make i j x before within =
    let ds : List EntryId = entries_of_link l in
    let long : length (map (resolved l p) ds) ≡ length ds = length-map ds (resolved l p) in
    let no : EntryId = record { of_section = record { file = 0; section = 0 }; entry = 0 } in
    let low : j < length ds = omega (arith, within, long) in
    let d : EntryId = get_or ds i no in
    let e : EntryId = get_or ds j no in
    let first = get_or-map (resolved l p) ds i no x (omega (arith, before, low)) in
    let second = get_or-map (resolved l p) ds j no x low in
    let differ = starts_differ l counts p d e make (i, omega (arith, before, low), read_alike ds i d no (omega (arith, before, low)))
    (j, low, read_alike ds j e no low) (at_pairs AreOtherEntries ds i j no no (entries_differ l) before low) in
    λ same. differ (ap (λ (y : ResolvedUnwindInfo). y.start) (sym first) ∙ same ∙ ap (λ (y : ResolvedUnwindInfo). y.start) second)
