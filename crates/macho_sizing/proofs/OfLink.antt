-- The sections of a link's views are those of the link's plan.
--
-- The carried sections of a link are those of its objects, file by file, and the header of each is that of its object. So a
-- plan of them is what
-- the views give, file by file.
use Rattle.std.proofs.Common.{◌≡◌, ℕ, suc, ◌+◌, ◌<◌, Bool, true, false, List, [], ◌∷◌, ◌++◌, map, length, get_or, refl, sym, ap, ◌∙◌, arith}
use Rattle.std.specs.Prelude.{filter, None}
use Rattle.std.specs.List.{flat_map, range_with_len, enumerate_from}
use Rattle.std.proofs.lemmas.List.{map-append, get_or_default, get_or-map, length-map}
use Rattle.std.proofs.lemmas.List.Elements.{filter-append}
use Rattle.std.proofs.lemmas.List.Concat.{flat_map-cons}
use Rattle.macho_model.specs.Objects.{num_sections, section_at}
use Rattle.macho_model.specs.Links.{Link, Input, Object, Dylib, Stub, SectionId, object_bytes, object_of, no_input, header_at, sections_of_file, sections_of, is_carried, carried_of}
use Rattle.macho_layout.specs.declared.spec.SectionSpec.{SectionSpec}
use Rattle.macho_layout.specs.Plans.{spec_of}
use Rattle.macho_promise.specs.Views.{object_view, views_of}
use Rattle.macho_sizing.specs.Sections.{spec_for, specs_of_view, specs_of_views}

made_each : {X Y : Type 0} (g : Y → SectionSpec) (p : Y → Bool) (f : X → List Y) (xs : List X)
    → map g (filter p (flat_map f xs)) ≡ flat_map (λ x. map g (filter p (f x))) xs
made_each g p f [] = refl
made_each {Y = Y} g p f (x ∷ xs) =
    ap (λ (ys : List Y). map g (filter p ys)) (flat_map-cons f x xs) ∙ ap (map g) (filter-append p (f x) (flat_map f xs))
    ∙ map-append g (filter p (f x)) (filter p (flat_map f xs))
    ∙ ap (λ (ss : List SectionSpec). map g (filter p (f x)) ++ ss) (made_each g p f xs)
    ∙ sym (flat_map-cons (λ z. map g (filter p (f z))) x xs)

-- the sections of one object
in_object : (l : Link) (file : ℕ) (b : List ℕ) (ks : List ℕ) → object_of l file ≡ b
    → map (spec_of l) (filter (λ s. is_carried (header_at l s)) (map (λ k. record { file = file; section = k }) ks))
    ≡ map (λ k. spec_for file k (section_at b k)) (filter (λ k. is_carried (section_at b k)) ks)
in_object l file b [] is = refl
in_object l file b (k ∷ ks) is = by (in_object l file b ks is) (is_carried (section_at b k)) refl
  where
    id : SectionId
    id = record { file = file; section = k }

    header : header_at l id ≡ section_at b k
    header = ap (λ (c : List ℕ). section_at c k) is

    by : map (spec_of l) (filter (λ s. is_carried (header_at l s)) (map (λ n. record { file = file; section = n }) ks))
        ≡ map (λ n. spec_for file n (section_at b n)) (filter (λ n. is_carried (section_at b n)) ks) → (x : Bool)
        → is_carried (section_at b k) ≡ x
        → map (spec_of l) (filter (λ s. is_carried (header_at l s)) (map (λ n. record { file = file; section = n }) (k ∷ ks)))
        ≡ map (λ n. spec_for file n (section_at b n)) (filter (λ n. is_carried (section_at b n)) (k ∷ ks))
    by rest true e =
        let test : is_carried (header_at l id) ≡ true = ap is_carried header ∙ e in
        let one : spec_of l id ≡ spec_for file k (section_at b k) = ap (spec_for file k) header in
        rw (test, e) cc
    by rest false e =
        let test : is_carried (header_at l id) ≡ false = ap is_carried header ∙ e in
        rw (test, e) rest

in_input : (l : Link) (file : ℕ) (x : Input) → object_of l file ≡ object_bytes x
    → map (spec_of l) (filter (λ s. is_carried (header_at l s)) (sections_of_file file x)) ≡ specs_of_view file (object_view x)
in_input l file (Object b) is = in_object l file b (range_with_len 0 (num_sections b)) is
in_input l file (Dylib b) is = refl
in_input l file (Stub text says) is = refl

-- lists made alike place by place, one of numbered elements and one of numbers
numbered_alike : {X : Type 0} (f : ℕ → X → List SectionSpec) (g : ℕ → List SectionSpec) (n : ℕ) (xs : List X)
    → ((k : ℕ) (d : X) → k < length xs → f (n + k) (get_or xs k d) ≡ g (n + k))
    → flat_map (λ i. f i.0 i.1) (enumerate_from n xs) ≡ flat_map g (range_with_len n (length xs))
numbered_alike f g n [] same = refl
numbered_alike {X = X} f g n (x ∷ xs) same =
    let zero_more : n + 0 ≡ n = omega arith in
    let first : f n x ≡ g n = ap (λ (k : ℕ). f k x) (sym zero_more) ∙ same 0 x (omega arith) ∙ ap g zero_more in
    let rest : flat_map (λ i. f i.0 i.1) (enumerate_from (n + 1) xs) ≡ flat_map g (range_with_len (n + 1) (length xs)) =
    numbered_alike f g (n + 1) xs (λ k d lt.
    let number : n + suc k ≡ n + 1 + k = omega arith in
    ap (λ (m : ℕ). f m (get_or xs k d)) (sym number) ∙ same (suc k) d (omega arith) ∙ ap g number) in
    flat_map-cons (λ (i : ℕ × X). f i.0 i.1) (n, x) (enumerate_from (n + 1) xs)
    ∙ rw (first, rest) (sym (flat_map-cons g n (range_with_len (n + 1) (length xs))))

-- THE sections of the link's plan
pub specs_are : (l : Link) → specs_of_views (views_of l) ≡ map (spec_of l) (carried_of l)
unfolding specs_of_views carried_of sections_of
specs_are l =
    sym (made_each (spec_of l) (λ s. is_carried (header_at l s)) (λ (i : ℕ × Input). sections_of_file i.0 i.1) (enumerate_from 0 l.inputs)
    ∙ numbered_alike (λ file x. map (spec_of l) (filter (λ s. is_carried (header_at l s)) (sections_of_file file x)))
    (λ i. specs_of_view i (get_or (views_of l) i None)) 0 l.inputs one
    ∙ ap (λ (n : ℕ). flat_map (λ i. specs_of_view i (get_or (views_of l) i None)) (range_with_len 0 n))
    (sym (length-map l.inputs object_view)))
  where
    one : (k : ℕ) (d : Input) → k < length l.inputs
        → map (spec_of l) (filter (λ s. is_carried (header_at l s)) (sections_of_file (0 + k) (get_or l.inputs k d))) ≡ specs_of_view
        (0 + k) (get_or (views_of l) (0 + k) None)
    one k d lt =
        let number : 0 + k ≡ k = omega arith in
        let view : get_or (views_of l) k None ≡ object_view (get_or l.inputs k d) = get_or-map object_view l.inputs k d None lt in
        let object : object_of l k ≡ object_bytes (get_or l.inputs k d) = ap object_bytes (get_or_default l.inputs k no_input d lt) in
        rw number (in_input l k (get_or l.inputs k d) object ∙ ap (specs_of_view k) (sym view))
