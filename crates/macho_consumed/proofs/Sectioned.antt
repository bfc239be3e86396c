-- The consumed sections that are listed are those of the link.
--
-- Both lists go file by file. Of an object both keep the numbers of the sections of the kind, by the same headers; of another file
-- both have none.
use Rattle.std.proofs.Common.{◌≡◌, ℕ, ◌<◌, Bool, List, [], ◌∷◌, length, map, filter, get_or, Option, None, refl, sym, ap, ◌∙◌, arith}
use Rattle.std.specs.List.{range_with_len, flat_map, enumerate_from}
use Rattle.std.proofs.lemmas.List.{get_or-map, length-map}
use Rattle.macho_object.specs.Views.{FileBytes}
use Rattle.macho_model.specs.Objects.{num_sections, section_at}
use Rattle.macho_model.specs.Links.{Input, Object, Dylib, Stub, Link, SectionId, object_bytes, object_of, header_at, no_input, sections_of_file, sections_of}
use Rattle.macho_model.specs.Needs.{initializer_sections, unwind_sections}
use Rattle.macho_consumed.specs.declared.listing.Kind.{Kind}
use Rattle.macho_consumed.specs.declared.listing.Kind.TheVariants.{Initializers, Entries}
use Rattle.macho_promise.specs.Views.{object_view, views_of}
use Rattle.macho_consumed.specs.Kinds.{is_of_kind}
use Rattle.macho_consumed.specs.steps.Listed.{ref, id_of_ref, refs_in, refs_of_file, refs_of}
use Rattle.macho_consumed.specs.steps.Gathered.{all_of}
use Rattle.macho_consumed.proofs.Joined.{joined_agree}
use Rattle.macho_bytes.proofs.Maps.{flat_map-map, filter-map, filter-flat_map, filter_same_test, enumerated}
use Rattle.macho_bytes.proofs.Members.{range_contains}
use Rattle.macho_model.proofs.Uses.{map_flat}

abbrev pub is_here : Link → Kind → SectionId → Bool
is_here l kind s = is_of_kind kind (header_at l s)

of_input : (l : Link) (kind : Kind) (i : ℕ) (input : Input) → object_of l i ≡ object_bytes input
    → map id_of_ref (refs_of_file kind i (object_view input)) ≡ filter (is_here l kind) (sections_of_file i input)
unfolding refs_in
of_input l kind i (Object b) is =
    let g : ℕ → SectionId = λ k. record { file = i; section = k } in
    let numbers = range_with_len 0 (num_sections b) in
    mapped_twice (filter (λ k. is_of_kind kind (section_at b k)) numbers)
    ∙ ap (map g) (filter_same_test (λ k. is_of_kind kind (section_at b k)) (λ k. is_here l kind (g k)) numbers (λ k. ap (λ
    (c : List ℕ). is_of_kind kind (section_at c k)) (sym is)))
    ∙ sym (filter-map (is_here l kind) g numbers)
  where
    mapped_twice : (ks : List ℕ) → map id_of_ref (map (ref i) ks) ≡ map (λ k. record { file = i; section = k }) ks
    mapped_twice [] = refl
    mapped_twice (k ∷ ks) = ap (λ (xs : List SectionId). record { file = i; section = k } ∷ xs) (mapped_twice ks)
of_input l kind i (Dylib b) is = refl
of_input l kind i (Stub text says) is = refl

pub all_are : (l : Link) (files : List (Option FileBytes)) (kind : Kind) → files ≡ views_of l
    → map id_of_ref (all_of kind files) ≡ filter (is_here l kind) (sections_of l)
unfolding refs_of sections_of
all_are l files kind views =
    let many : length files ≡ length l.inputs = ap length views ∙ length-map l.inputs object_view in
    let inputs : ℕ → Input = λ i. get_or l.inputs i no_input in
    map_flat id_of_ref (λ i. refs_of_file kind i (get_or files i None)) (range_with_len 0 (length files))
    ∙ joined_agree (λ i. map id_of_ref (refs_of_file kind i (get_or files i None))) (λ i. filter (is_here l kind) (sections_of_file i
    (inputs i))) (range_with_len 0 (length files))
    (λ i c.
    let lt : i < length l.inputs = omega (arith, range_contains (length files) i c, many) in
    ap (λ (f : Option FileBytes). map id_of_ref (refs_of_file kind i f))
    (ap (λ (fs : List (Option FileBytes)). get_or fs i None) views ∙ get_or-map object_view l.inputs i no_input None lt)
    ∙ of_input l kind i (inputs i) refl)
    ∙ ap (λ (n : ℕ). flat_map (λ i. filter (is_here l kind) (sections_of_file i (inputs i))) (range_with_len 0 n)) many
    ∙ sym (flat_map-map (λ (p : ℕ × Input). filter (is_here l kind) (sections_of_file p.0 p.1)) (λ i. (i, inputs i)) (range_with_len 0
    (length l.inputs)))
    ∙ ap (flat_map (λ (p : ℕ × Input). filter (is_here l kind) (sections_of_file p.0 p.1))) (sym (enumerated l.inputs no_input))
    ∙ sym (filter-flat_map (is_here l kind) (λ (p : ℕ × Input). sections_of_file p.0 p.1) (enumerate_from 0 l.inputs))

pub initializers_are : (l : Link) (files : List (Option FileBytes)) → files ≡ views_of l
    → map id_of_ref (all_of Initializers files) ≡ initializer_sections l
unfolding initializer_sections
initializers_are l files views = all_are l files Initializers views

pub unwind_are : (l : Link) (files : List (Option FileBytes)) → files ≡ views_of l
    → map id_of_ref (all_of Entries files) ≡ unwind_sections l
unfolding unwind_sections
unwind_are l files views = all_are l files Entries views
