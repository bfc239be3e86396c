-- What the rules of an object give: a relocation's field is inside its section's bytes, and what it names is there.
use Rattle.std.proofs.Common.{◌≡◌, ℕ, ◌+◌, ◌-◌, ◌^◌, ◌<◌, ◌≤◌, Bool, true, false, ◌&&◌, ◌||◌, not, ◌==◌, nat_le, nat_lt, List, [], length, slice_range, get_or, is_none, refl, sym, ap, ◌∙◌, subst, arith, if◌then◌else◌}
use Rattle.std.proofs.lemmas.Bool.Decides.{nat_tests}
use Rattle.std.proofs.lemmas.Bool.{eqb-true}
use Rattle.std.proofs.lemmas.List.{length-map, get_or-map, length-take, length-drop}
use Rattle.std.proofs.lemmas.List.FromFn.{length-map-range_with_len}
use Rattle.macho_wire.specs.declared.relocations.RelocationInfo.{RelocationInfo}
use Rattle.macho_records.specs.declared.constants.TheConstants.{ARM64_RELOC_ADDEND, ARM64_RELOC_UNSIGNED}
use Rattle.macho_records.specs.Sections.{is_zerofill}
use Rattle.macho_model.specs.Objects.{num_sections, num_symbols, section_at, section_bytes, relocation_at}
use Rattle.macho_model.specs.Grammar.{IsObject}
use Rattle.macho_model.proofs.ObjectLaws.{object_keeps}
use Rattle.macho_model.specs.Links.{no_input}
use Rattle.macho_symbol_names.specs.Kept.{FileRows, kept_of, kept_object, row_of_symbol, rows_of_object, no_file}
use Rattle.macho_symbols.specs.Kept.{ResolvedRows}
use Rattle.macho_needs.specs.Noted.{HasReferent, names_symbol}
use Rattle.macho_relocation_scan.specs.declared.pairs.Seen.{Seen}
use Rattle.macho_relocation_scan.specs.steps.Windows.{window_in}
use Rattle.macho_relocation_scan.specs.steps.Sections.{HasRows}

within : (zero : Bool) (b : List ℕ) (offset size nreloc end r : ℕ) → (not zero || (nreloc == 0)) ≡ true
    → (zero || nat_le (offset + size) (length b)) ≡ true → nat_le end size ≡ true
    → r < nreloc → end ≤ length (if zero then [] else slice_range b offset (offset + size))
within true b offset size nreloc end r none inside low some = let e : nreloc ≡ 0 = eqb-true nreloc 0 none in absurd (omega (arith, e, some))
within false b offset size nreloc end r none inside low some =
    let there : offset + size ≤ length b = grind (arith, nat_tests) in
    let enough : end ≤ size = grind (arith, nat_tests) in
    let long : length (slice_range b offset (offset + size)) ≡ size = simp (length-take, length-drop) (omega (arith, there)) in omega
    (arith, enough, long)

pub field_within : (b : List ℕ) (k r : ℕ) → IsObject b → k < num_sections b → r < (section_at b k).nreloc
    → (relocation_at b k r).r_address + 2 ^ (relocation_at b k r).r_length ≤ length (section_bytes b k)
unfolding section_bytes
field_within b k r is among there =
    let h = section_at b k in
    within (is_zerofill h) b h.offset h.size h.nreloc ((relocation_at b k r).r_address + 2 ^ (relocation_at b k r).r_length) r
    ((object_keeps is).o12 k among)
    (left (is_zerofill h || nat_le (h.offset + h.size) (length b)) (nat_le (h.addr + h.size) (2 ^ 64)) ((object_keeps is).o6 k among))
    ((object_keeps is).o10.1 k r among there) there
  where
    left : (a c : Bool) → (a && c) ≡ true → a ≡ true
    left true c t = refl
    left false c t = t

-- what a relocation names
number_test : RelocationInfo → ℕ → ℕ → Bool
number_test q symbols sections =
    if q.r_extern then nat_lt q.r_symbolnum symbols else (q.r_type == ARM64_RELOC_ADDEND) ||
    (nat_le 1 q.r_symbolnum && nat_le q.r_symbolnum sections)

numbered : (b : List ℕ) (k r : ℕ) → IsObject b → k < num_sections b → r < (section_at b k).nreloc
    → number_test (relocation_at b k r) (num_symbols b) (num_sections b) ≡ true
unfolding number_test
numbered b k r is among there = (object_keeps is).o5.1 k r among there

pub section_there : (b : List ℕ) (k r : ℕ) → IsObject b → k < num_sections b → r < (section_at b k).nreloc
    → ((relocation_at b k r).r_type == ARM64_RELOC_ADDEND) ≡ false
    → (relocation_at b k r).r_extern ≡ false → (relocation_at b k r).r_symbolnum - 1 < num_sections b
unfolding number_test
section_there b k r is among there other local = by (relocation_at b k r).r_extern ((relocation_at b k r).r_type == ARM64_RELOC_ADDEND) _
    _ _ (numbered b k r is among there) local other
  where
    by : (e a known : Bool) (n sections : ℕ) → (if e then known else a || (nat_le 1 n && nat_le n sections)) ≡ true → e ≡ false
        → a ≡ false → n - 1 < sections
    by true a known n sections t e f = cc
    by false true known n sections t e f = cc
    by false false known n sections t e f = grind (arith, nat_tests)

symbol_there : (b : List ℕ) (k r : ℕ) → IsObject b → k < num_sections b → r < (section_at b k).nreloc
    → names_symbol (relocation_at b k r) ≡ true
    → (relocation_at b k r).r_symbolnum < num_symbols b
unfolding number_test
symbol_there b k r is among there named =
    by (relocation_at b k r).r_extern (not ((relocation_at b k r).r_type == ARM64_RELOC_ADDEND)) _ _ _ (numbered b k r is among there) named
  where
    by : (e a other : Bool) (n symbols : ℕ) → (if e then nat_lt n symbols else other) ≡ true → (e && a) ≡ true → n < symbols
    by true a other n symbols t u = grind (arith, nat_tests)
    by false a other n symbols t u = cc

rows_long : (b : List ℕ) → length (kept_object b).rows ≡ num_symbols b
unfolding rows_of_object
rows_long b = length-map-range_with_len (row_of_symbol b) 0 (num_symbols b)

pub has_referent : (rows : ResolvedRows) (file : ℕ) (b : List ℕ) (k r : ℕ) → HasRows rows.files file b → IsObject b → k < num_sections b
    → r < (section_at b k).nreloc
    → HasReferent rows file (relocation_at b k r)
has_referent rows file b k r has is among there named =
    let kept : get_or rows.files file no_file ≡ kept_object b
    = ap (λ fs. get_or fs file no_file) has.keeps.are ∙ get_or-map kept_of has.inputs file no_input no_file has.there ∙ ap kept_of has.is in
    let long : length (kept_object b).rows ≡ num_symbols b = rows_long b in (
      omega (arith, has.there, ap length has.keeps.are, length-map has.inputs kept_of),
      ap (λ (f : FileRows). is_none f.library) kept,
      omega (arith, symbol_there b k r is among there named, long, ap (λ (f : FileRows). length f.rows) kept),
    )

-- of a relocation that is seen with its neighbours
pub seen_within : (b : List ℕ) (k r n : ℕ) (bytes : List ℕ) (seen : Seen) → IsObject b → k < num_sections b → r < (section_at b k).nreloc
    → bytes ≡ section_bytes b k
    → seen ≡ window_in b k r → seen.this.r_length ≡ n → seen.this.r_address + 2 ^ n ≤ length bytes
seen_within b k r n bytes seen is among there bytes_are seen_is long =
    let long_is : (relocation_at b k r).r_length ≡ n = ap (λ (s : Seen). s.this.r_length) (sym seen_is) ∙ long in
    let inside : (relocation_at b k r).r_address + 2 ^ n ≤ length (section_bytes b k)
    = subst (λ m. (relocation_at b k r).r_address + 2 ^ m ≤ length (section_bytes b k)) long_is (field_within b k r is among there) in
    let placed : seen.this.r_address + 2 ^ n ≤ length (section_bytes b k)
    = subst (λ m. m + 2 ^ n ≤ length (section_bytes b k)) (ap (λ (s : Seen). s.this.r_address) (sym seen_is)) inside in
    subst (λ (bs : List ℕ). seen.this.r_address + 2 ^ n ≤ length bs) (sym bytes_are) placed

pub seen_section : (b : List ℕ) (k r : ℕ) (seen : Seen) → IsObject b → k < num_sections b → r < (section_at b k).nreloc
    → seen ≡ window_in b k r
    → (seen.this.r_type == ARM64_RELOC_UNSIGNED) ≡ true → seen.this.r_extern ≡ false → seen.this.r_symbolnum - 1 < num_sections b
seen_section b k r seen is among there seen_is plain local =
    let same : relocation_at b k r ≡ seen.this = ap (λ (s : Seen). s.this) (sym seen_is) in
    let other : ((relocation_at b k r).r_type == ARM64_RELOC_ADDEND) ≡ false
    = ap (λ (q : RelocationInfo). q.r_type == ARM64_RELOC_ADDEND) same
    ∙ ap (λ n. n == ARM64_RELOC_ADDEND) (eqb-true seen.this.r_type ARM64_RELOC_UNSIGNED plain) in
    subst (λ (q : RelocationInfo). q.r_symbolnum - 1 < num_sections b) same
    (section_there b k r is among there other (ap (λ (q : RelocationInfo). q.r_extern) same ∙ local))

pub seen_referent : (rows : ResolvedRows) (file : ℕ) (b : List ℕ) (k r : ℕ) (seen : Seen) → HasRows rows.files file b → IsObject b
    → k < num_sections b → r < (section_at b k).nreloc
    → seen ≡ window_in b k r → HasReferent rows file seen.this
seen_referent rows file b k r seen has is among there seen_is =
    subst (HasReferent rows file) (ap (λ (s : Seen). s.this) (sym seen_is)) (has_referent rows file b k r has is among there)
