-- The section headers of a file are the placement's output sections, in order.
--
-- A segment's command has the headers of its name. Output sections stand segment by segment, each in the segment of its key, and no two
-- segments have one name, since their ranks rise. So the headers of each name, segment by segment, are all of them again.
use Rattle.std.proofs.Common.{◌≡◌, ℕ, ◌<◌, ◌&&◌, Bool, true, false, List, [], ◌∷◌, map, get_or, refl, sym, ap, ◌∙◌, arith, All}
use Rattle.std.specs.Prelude.{filter}
use Rattle.std.specs.List.{flat_map}
use Rattle.std.specs.Str.{bytes_eq}
use Rattle.std.proofs.lemmas.List.Elements.{All-map, All-append, filter_passes, All-nil, All-cons}
use Rattle.std.proofs.lemmas.Slice.Eq.{bytes_eq-Decides}
use Rattle.macho_bytes.specs.Texts.{name_of}
use Rattle.macho_records.specs.Segments.{text_of}
use Rattle.macho_records.specs.declared.header.SectionHeader.{SectionHeader}
use Rattle.macho_model.specs.declared.placed.Counts.{Counts}
use Rattle.macho_model.specs.declared.placed.PlacedSegment.{PlacedSegment}
use Rattle.macho_model.specs.Links.{Link}
use Rattle.macho_model.specs.Segments.{TEXT, DATA, DATA_CONST, segment_rank, segment_names_of, list_if, OutputKey, output_keys_of}
use Rattle.macho_model.specs.Placement.{Placed, Follows}
use Rattle.macho_model.specs.steps.Outputs.{OutputSection, Merged, InitOffsets, UnwindInfo, Stubs, Slots, merged_in, sections_of_text, sections_of_data, sections_of_other, output_sections_in, output_sections_of, output_sections_for, output_header, key_of_output}
use Rattle.macho_model.specs.Head.{headers_in}
use Rattle.macho_model.specs.Lists.{EachNext}
use Rattle.macho_bytes.proofs.Orders.{EachLater, each_later}
use Rattle.macho_placed_laws.proofs.Names.{name_of-name}
use Rattle.macho_placed_laws.proofs.Classes.{AllDiffer, IsOfClass, split_again}
use Rattle.macho_bytes.proofs.Maps.{flat_map-map}
use Rattle.macho_model.proofs.Uses.{map_flat}
use Rattle.macho_model.proofs.Sections.{name_in_field, name_told, Below}

differ : (l : Link) (n m : List ℕ) → segment_rank l n < segment_rank l m → bytes_eq n m ≡ false
differ l n m below = by (bytes_eq n m) refl
  where
    by : (x : Bool) → bytes_eq n m ≡ x → bytes_eq n m ≡ false
    by true e = absurd (omega (arith, ap (segment_rank l) ((bytes_eq-Decides n m).0 e)))
    by false e = e

differ_back : (l : Link) (n m : List ℕ) → segment_rank l n < segment_rank l m → bytes_eq m n ≡ false
differ_back l n m below = by (bytes_eq m n) refl
  where
    by : (x : Bool) → bytes_eq m n ≡ x → bytes_eq m n ≡ false
    by true e = absurd (omega (arith, ap (segment_rank l) ((bytes_eq-Decides m n).0 e)))
    by false e = e

names_differ : (l : Link) (segments : List PlacedSegment) → EachLater (Below l) segments → AllDiffer (map name_told segments)
names_differ l [] later = tt
names_differ l (s ∷ segments) later = (
  All-map (λ m. (bytes_eq m (name_told s) ≡ false) × (bytes_eq (name_told s) m ≡ false)) name_told segments
      (λ k d lt. (
        differ_back l (name_told s) (name_told (get_or segments k d)) (later.0 k d lt),
        differ l (name_told s)
            (name_told (get_or segments k d)) (later.0 k d lt),
      )),
  names_differ l segments later.1,
)

pub all_differ : (l : Link) (segments : List PlacedSegment) → EachNext (Follows l) segments → AllDiffer (map name_told segments)
all_differ l segments follow =
    names_differ l segments
    (each_later (Below l) (λ s t u one two. omega (arith, one, two)) segments (λ k x y at_k at_next. (follow k x y at_k at_next).rank))

-- merged sections of a segment are in it
merged_class : (l : Link) (n : List ℕ) (test : OutputKey → Bool) → All (λ o. (key_of_output o).segment ≡ n) (merged_in l n test)
merged_class l n test =
    let keys : List OutputKey = filter (λ key. bytes_eq key.segment n && test key) (output_keys_of l) in
    let pass = filter_passes (λ (key : OutputKey). bytes_eq key.segment n && test key) (output_keys_of l) in
    All-map (λ o. (key_of_output o).segment ≡ n) Merged keys
    (λ k d lt. (bytes_eq-Decides (get_or keys k d).segment n).0
    (both (bytes_eq (get_or keys k d).segment n) (test (get_or keys k d)) (pass k d lt)))
  where
    both : (a b : Bool) → (a && b) ≡ true → a ≡ true
    both true b e = refl
    both false b e = e

-- and so is what the linker makes
made_class : (b : Bool) (n : List ℕ) (o : OutputSection) → (b ≡ true → (key_of_output o).segment ≡ n)
    → All (λ x. (key_of_output x).segment ≡ n) (list_if b (o ∷ []))
made_class true n o is = All-cons (λ x. (key_of_output x).segment ≡ n) o [] (is refl) (All-nil (λ x. (key_of_output x).segment ≡ n))
made_class false n o is = All-nil (λ x. (key_of_output x).segment ≡ n)

text_class : (l : Link) (counts : Counts) → All (λ o. (key_of_output o).segment ≡ TEXT) (sections_of_text l counts)
text_class l counts =
    let P : OutputSection → Type 0 = λ o. (key_of_output o).segment ≡ TEXT in
    All-append P _ _
    (All-append P _ _
    (All-append P _ _ (All-append P _ _ (All-append P _ _ (merged_class l TEXT _) (made_class _ TEXT InitOffsets (λ e. refl)))
    (made_class _ TEXT UnwindInfo (λ e. refl))) (made_class _ TEXT Stubs (λ e. refl))) (merged_class l TEXT _)) (merged_class l TEXT _)

data_class : (l : Link) → All (λ o. (key_of_output o).segment ≡ DATA) (sections_of_data l)
data_class l =
    let P : OutputSection → Type 0 = λ o. (key_of_output o).segment ≡ DATA in
    All-append P _ _
    (All-append P _ _ (All-append P _ _ (All-append P _ _ (merged_class l DATA _) (merged_class l DATA _)) (merged_class l DATA _))
    (merged_class l DATA _))
    (merged_class l DATA _)

other_class : (l : Link) (n : List ℕ) → All (λ o. (key_of_output o).segment ≡ n) (sections_of_other l n)
other_class l n =
    let P : OutputSection → Type 0 = λ o. (key_of_output o).segment ≡ n in
    All-append P _ _
    (All-append P _ _ (made_class _ n Slots (λ e. sym ((bytes_eq-Decides n DATA_CONST).0 (both _ _ e)))) (merged_class l n _))
    (merged_class l n _)
  where
    both : (a b : Bool) → (a && b) ≡ true → a ≡ true
    both true b e = refl
    both false b e = e

output_class : (l : Link) (counts : Counts) (n : List ℕ) → All (λ o. (key_of_output o).segment ≡ n) (output_sections_in l counts n)
output_class l counts n = by (bytes_eq n TEXT) (bytes_eq n DATA) refl refl
  where
    by : (x y : Bool) → bytes_eq n TEXT ≡ x → bytes_eq n DATA ≡ y → All (λ o. (key_of_output o).segment ≡ n) (output_sections_in l counts n)
    by true y e g = rw e (rw ((bytes_eq-Decides n TEXT).0 e) (text_class l counts))
    by false true e g = rw (e, g) (rw ((bytes_eq-Decides n DATA).0 g) (data_class l))
    by false false e g = rw (e, g) (other_class l n)

-- the headers of a segment are of its name
abbrev headers_for : Link → Counts → Placed → List ℕ → List SectionHeader
headers_for l counts p n = map (output_header l p) (output_sections_in l counts n)

abbrev segment_of_header : SectionHeader → List ℕ
segment_of_header h = name_of h.segname

header_class : (l : Link) (counts : Counts) (p : Placed) (n : List ℕ) → name_of n ≡ n
    → IsOfClass segment_of_header (headers_for l counts p) n
header_class l counts p n whole =
    All-map (λ h. segment_of_header h ≡ n) (output_header l p) (output_sections_in l counts n)
    (λ k d lt. name_in_field (key_of_output (get_or (output_sections_in l counts n) k d)).segment
    ∙ ap name_of (output_class l counts n k d lt) ∙ whole)

-- THE headers of all segments' names are the output sections
pub headers-are : (l : Link) (counts : Counts) (p : Placed) → map (λ s. text_of s.name) p.segments ≡ segment_names_of l
    → EachNext (Follows l) p.segments
    → p.output_sections ≡ output_sections_for l counts p → flat_map (headers_in p) p.segments ≡ p.output_sections
unfolding output_sections_for output_sections_of
headers-are l counts p texts follow are =
    let names : List (List ℕ) = map name_told p.segments in
    let all : p.output_sections ≡ flat_map (headers_for l counts p) names =
    are ∙ map_flat (output_header l p) (output_sections_in l counts) (segment_names_of l)
    ∙ ap (flat_map (headers_for l counts p)) (sym texts) in
    let whole : All (IsOfClass segment_of_header (headers_for l counts p)) names =
    All-map (IsOfClass segment_of_header (headers_for l counts p)) name_told p.segments
    (λ k d lt. header_class l counts p (name_told (get_or p.segments k d)) (name_of-name (get_or p.segments k d).name.0)) in
    sym (flat_map-map (λ n. filter (λ h. bytes_eq (segment_of_header h) n) p.output_sections) name_told p.segments)
    ∙ ap (λ (hs : List SectionHeader). flat_map (λ n. filter (λ h. bytes_eq (segment_of_header h) n) hs) names) all
    ∙ split_again segment_of_header (headers_for l counts p) names (all_differ l p.segments follow) whole ∙ sym all
