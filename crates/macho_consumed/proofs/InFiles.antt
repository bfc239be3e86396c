-- The list of consumed sections, section by section and file by file.
use Rattle.std.proofs.Common.{◌≡◌, ℕ, ◌+◌, Bool, true, false, cond, List, [], ◌∷◌, ◌++◌, map, filter, get_or, nat_lt, if◌then◌else◌, Option, Some, None, refl, sym, ap, ◌∙◌, append_assoc}
use Rattle.std.proofs.lemmas.List.{append-nil, map-append}
use Rattle.std.specs.List.{range_with_len, flat_map}
use Rattle.macho_object.specs.Views.{FileBytes, of_section, section_count}
use Rattle.macho_model.specs.Objects.{section_at}
use Rattle.macho_consumed.specs.declared.listing.Kind.{Kind}
use Rattle.macho_consumed.specs.declared.listing.SectionRef.{SectionRef}
use Rattle.macho_consumed.specs.Kinds.{is_of_kind}
use Rattle.macho_consumed.specs.steps.Listed.{ref, refs_in, refs_of_file, refs_of}
use Rattle.macho_consumed.proofs.Ranges.{filter_range_more, flat_map_range_more}

-- no section yet, one that is passed over, and one that is listed
pub refs_none : (kind : Kind) (file : ℕ) (b : List ℕ) (refs : List SectionRef) → refs ≡ refs ++ refs_in kind file b 0
unfolding refs_in
refs_none kind file b refs = sym (append-nil refs)

pub refs_passed : (kind : Kind) (file n : ℕ) (b : List ℕ) → is_of_kind kind (section_at b n) ≡ false
    → refs_in kind file b n ≡ refs_in kind file b (n + 1)
unfolding refs_in
refs_passed kind file n b other =
    let test : ℕ → Bool = λ k. is_of_kind kind (section_at b k) in
    ap (map (ref file)) (sym (filter_range_more test n ∙ ap (λ (t : Bool). filter test (range_with_len 0 n) ++ cond t
    (n ∷ []) []) other ∙ append-nil (filter test (range_with_len 0 n))))

pub refs_more : (kind : Kind) (file n : ℕ) (b : List ℕ) (refs : List SectionRef) → is_of_kind kind (section_at b n) ≡ true
    → (refs ++ refs_in kind file b n) ++ ref file n ∷ [] ≡ refs ++ refs_in kind file b (n + 1)
unfolding refs_in
refs_more kind file n b refs is =
    let test : ℕ → Bool = λ k. is_of_kind kind (section_at b k) in
    let more = filter_range_more test n ∙ ap (λ (t : Bool). filter test (range_with_len 0 n) ++ cond t (n ∷ []) []) is in
    append_assoc refs (map (ref file) (filter test (range_with_len 0 n))) (ref file n ∷ [])
    ∙ ap (λ (xs : List SectionRef). refs ++ xs) (sym (ap (map (ref file)) more
    ∙ map-append (ref file) (filter test (range_with_len 0 n)) (n ∷ [])))

-- no file yet, and one more
pub files_none : (kind : Kind) (files : List (Option FileBytes)) → [] ≡ refs_of kind files 0
unfolding refs_of
files_none kind files = refl

pub files_more : (kind : Kind) (files : List (Option FileBytes)) (n : ℕ) (file : Option FileBytes) → get_or files n None ≡ file
    → refs_of kind files n ++ refs_of_file kind n file ≡ refs_of kind files (n + 1)
unfolding refs_of
files_more kind files n file is =
    sym (flat_map_range_more (λ i. refs_of_file kind i (get_or files i None)) n
    ∙ ap (λ (f : Option FileBytes). flat_map (λ i. refs_of_file kind i (get_or files i None))
    (range_with_len 0 n) ++ refs_of_file kind n f) is)

-- a header that is got
pub told_section : {X : Type 0} (f : FileBytes) (k : ℕ) (x answer : X) → Some x ≡ of_section f k answer → x ≡ answer
told_section {X = X} f k x answer e = by (nat_lt k (section_count f.is_dynamic f.bytes)) e
  where
    by : (t : Bool) → Some x ≡ (if t then Some answer else None) → x ≡ answer
    by true e = cc
    by false e = cc
