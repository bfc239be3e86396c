-- Where functions start, and that rows are distinct.
--
-- An entry that keeps its rules by the bytes has one relocation of its start, by the number of a section that the start lies in: so
-- two entries have one start exactly where their rows tell one place. Rows of one section differ by the entry, those of two
-- sections by the section or the file.
use Rattle.std.proofs.Common.{◌≡◌, ℕ, ◌-◌, ◌/◌, ◌<◌, ◌≤◌, Bool, true, false, ◌&&◌, not, nat_le, nat_lt, List, [], ◌∷◌, length, filter, get_or, Option, Some, None, refl, sym, ap, ◌∙◌, subst, arith}
use Rattle.std.proofs.lemmas.Bool.Decides.{nat_tests}
use Rattle.std.specs.List.{range_with_len, flat_map, list_all, Contains}
use Rattle.macho_object.specs.Views.{FileBytes}
use Rattle.macho_model.specs.Objects.{section_at, relocation_at, num_sections}
use Rattle.macho_model.specs.Consumed.{holds_functions, START_PLACE}
use Rattle.macho_consumed.specs.declared.listing.Kind.{Kind}
use Rattle.macho_consumed.specs.declared.listing.Kind.TheVariants.{Entries}
use Rattle.macho_consumed.specs.declared.listing.SectionRef.{SectionRef}
use Rattle.macho_consumed.specs.declared.rows.UnwindEntry.{UnwindEntry}
use Rattle.macho_consumed.specs.Rows.{entry_row}
use Rattle.macho_consumed.specs.steps.Alone.{alone, own}
use Rattle.macho_consumed.specs.steps.Entries.{named, at_place, read_entry, EntryFits, lies_from, rows_in, row_in}
use Rattle.macho_consumed.specs.steps.Listed.{ref, refs_in, refs_of_file, refs_of, bytes_in}
use Rattle.macho_consumed.specs.Kinds.{is_of_kind}
use Rattle.macho_consumed.specs.steps.Gathered.{all_of, entries_at}
use Rattle.macho_consumed.proofs.Members.{in_map}
use Rattle.macho_consumed.proofs.Pairs.{Pairs, pairs_joined, pairs_range, pairs_filter, pairs_map}
use Rattle.macho_bytes.proofs.Bools.{and_left, and_right}

-- THE start of an entry.
pub record HasStart (b : List ℕ) (k e r : ℕ) : Type 0 where
  pub one : at_place b k e START_PLACE ≡ r ∷ []
  pub by_number : (relocation_at b k r).r_extern ≡ false
  pub above : (section_at b (named (relocation_at b k r))).addr ≤ (read_entry b k e).start

low : (a s n z : ℕ) → (nat_le a s && nat_lt s z && nat_le n z) ≡ true → a ≤ s
low a s n z inside = grind (arith, nat_tests, inside)

one_start : (b : List ℕ) (k e : ℕ) (xs : List ℕ) → at_place b k e START_PLACE ≡ xs → EntryFits b k e → (r : ℕ) × HasStart b k e r
one_start b k e [] is fits = let clash : false ≡ true = sym (rw is refl) ∙ fits.start in cc
one_start b k e (r ∷ q ∷ rs) is fits =
    let few : nat_le (length (at_place b k e START_PLACE)) 1 ≡ true =
    and_left (nat_le (length (at_place b k e START_PLACE)) 1) _ fits.single in
    let lt : length (at_place b k e START_PLACE) ≤ 1 = grind (arith, nat_tests, few) in
    absurd (omega (arith, lt, ap length is))
one_start b k e (r ∷ []) is fits =
    let all : list_all (λ q. not (relocation_at b k q).r_extern && holds_functions (alone b) (own (named (relocation_at b k q))))
    (r ∷ []) ≡ true =
    subst (λ (xs : List ℕ). list_all (λ q. not (relocation_at b k q).r_extern && holds_functions (alone b) (own (named
    (relocation_at b k q)))) xs ≡ true) is (and_right _ _ fits.start) in
    let number : (relocation_at b k r).r_extern ≡ false = not_it _ (and_left _ _ (and_left _ _ all)) in
    let inside : lies_from (section_at b (named (relocation_at b k r))) (read_entry b k e).start (read_entry b k e).length ≡ true =
    lies b k e r number (subst (λ (xs : List ℕ). list_all (λ q. lies_from (section_at b (named (relocation_at b k q)))
    (read_entry b k e).start (read_entry b k e).length) (filter (λ q. not (relocation_at b k q).r_extern) xs) ≡ true) is fits.inside) in
    (r, record { one = is; by_number = number; above = low _ _ _ _ inside })
  where
    not_it : (t : Bool) → not t ≡ true → t ≡ false
    not_it true e = cc
    not_it false e = refl

    lies : (b : List ℕ) (k e r : ℕ) → (relocation_at b k r).r_extern ≡ false
        → list_all (λ q. lies_from (section_at b (named (relocation_at b k q))) (read_entry b k e).start (read_entry b k e).length)
        (filter (λ q. not (relocation_at b k q).r_extern) (r ∷ [])) ≡ true
        → lies_from (section_at b (named (relocation_at b k r))) (read_entry b k e).start (read_entry b k e).length ≡ true
    lies b k e r number all = and_left _ _ (rw number at all)

pub has_start : (b : List ℕ) (k e : ℕ) → EntryFits b k e → (r : ℕ) × HasStart b k e r
has_start b k e fits = one_start b k e (at_place b k e START_PLACE) refl fits

-- its row tells it
pub row_start : (b : List ℕ) (file k e r : ℕ) → HasStart b k e r
    → (row_in b file k e).start ≡ record {
      section = named (relocation_at b k r);
      offset = (read_entry b k e).start - (section_at b
          (named (relocation_at b k r))).addr;
    }
unfolding entry_row
row_start b file k e r has = rw has.one refl

-- rows are distinct
pub record AreOthers (d e : UnwindEntry) : Type 0 where
  pub apart : d.file ≡ e.file → d.section ≡ e.section → d.entry ≡ e.entry → ⊥

pub record AreOtherRefs (s t : SectionRef) : Type 0 where
  pub apart : s.file ≡ t.file → s.section ≡ t.section → ⊥

refs_differ : (kind : Kind) (files : List (Option FileBytes)) → Pairs AreOtherRefs (all_of kind files)
unfolding refs_of refs_in
refs_differ kind files =
    pairs_joined (λ i j. i < j) AreOtherRefs (λ i. refs_of_file kind i (get_or files i None)) (range_with_len 0 (length files))
    (pairs_range 0 (length files))
    (λ i c. in_file i (get_or files i None))
    (λ i j s t lt c d. record {
      apart = λ same other. omega (
        arith,
        lt,
        same,
        file_of i (get_or files i None) s c,
        file_of j
            (get_or files j None) t d,
      );
    })
  where
    in_file : (i : ℕ) (view : Option FileBytes) → Pairs AreOtherRefs (refs_of_file kind i view)
    in_file i None = tt
    in_file i (Some f) =
        pairs_map (λ j k. j < k) AreOtherRefs (ref i) (filter (λ k. is_of_kind kind (section_at f.bytes k)) (range_with_len 0
        (num_sections f.bytes)))
        (λ j k lt. record { apart = λ same other. omega (arith, lt, other) })
        (pairs_filter (λ j k. j < k) (λ k. is_of_kind kind (section_at f.bytes k)) (range_with_len 0 (num_sections f.bytes))
        (pairs_range 0 (num_sections f.bytes)))

    file_of : (i : ℕ) (view : Option FileBytes) (s : SectionRef) → Contains (refs_of_file kind i view) s → s.file ≡ i
    file_of i None s (k, lt, is) = absurd (omega arith)
    file_of i (Some f) s c =
        let m = in_map (ref i) (filter (λ k. is_of_kind kind (section_at f.bytes k)) (range_with_len 0
        (num_sections f.bytes))) s c in ap (λ (t : SectionRef). t.file) m.is

pub rows_differ : (files : List (Option FileBytes)) → Pairs AreOthers (flat_map (entries_at files) (all_of Entries files))
unfolding rows_in entry_row
rows_differ files =
    pairs_joined AreOtherRefs AreOthers (entries_at files) (all_of Entries files) (refs_differ Entries files)
    (λ s c.
    pairs_map (λ j k. j < k) AreOthers (row_in (bytes_in files s.file) s.file s.section) (range_with_len 0 ((section_at
    (bytes_in files s.file) s.section).size / 32))
    (λ j k lt. record { apart = λ x y same. omega (arith, lt, same) }) (pairs_range 0 ((section_at
    (bytes_in files s.file) s.section).size / 32)))
    (λ s t d e other c f.
    let m = in_map (row_in (bytes_in files s.file) s.file s.section) (range_with_len 0 ((section_at
    (bytes_in files s.file) s.section).size / 32)) d c in
    let n = in_map (row_in (bytes_in files t.file) t.file t.section) (range_with_len 0 ((section_at
    (bytes_in files t.file) t.section).size / 32)) e f in
    record {
      apart = λ file section entry. other.apart (sym (ap (λ (x : UnwindEntry). x.file) m.is) ∙ file ∙ ap (λ (x : UnwindEntry). x.file) n.is)
          (sym (ap (λ (x : UnwindEntry). x.section) m.is) ∙ section ∙ ap (λ (x : UnwindEntry). x.section) n.is);
    })
