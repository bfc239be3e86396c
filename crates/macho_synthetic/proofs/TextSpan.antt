-- Functions start no further apart than the room that is counted for what stands in `__TEXT` with bytes in the file.
--
-- The output sections with instructions stand first in `__TEXT`, behind the head. A function's section has instructions, so it is merged
-- into
-- one of these. They stand in a row, and each is a row of its members; so all of them end, from the head's end on, within the sum of what
-- their members may cost. Members of two are not the same, and all are sections of `__TEXT` with bytes in the file.
use Rattle.std.proofs.Common.{◌≡◌, ℕ, ◌+◌, ◌≤◌, ◌==◌, ◌&&◌, not, nat_lt, Bool, true, false, List, [], ◌∷◌, ◌++◌, length, map, filter, get_or, refl, sym, ap, subst, ◌∙◌, arith}
use Rattle.std.specs.Prelude.{Contains, All, sum_by, codes}
use Rattle.std.specs.Str.{bytes_eq}
use Rattle.std.proofs.lemmas.Slice.Eq.{bytes_eq-Decides}
use Rattle.std.proofs.lemmas.List.{append-nil}
use Rattle.std.proofs.lemmas.List.Elements.{Contains-append_left}
use Rattle.std.proofs.lemmas.List.Sums.{sum_by-cons}
use Rattle.macho_bytes.proofs.Members.{all_contains, contains_first, contains_later, contains_map, contains_filter, filter_contains, contains_flat_map}
use Rattle.macho_bytes.proofs.Orders.{EachLater, later_filter, later_pairs}
use Rattle.macho_records.specs.Sections.{is_zerofill, has_instructions, segment_name_of}
use Rattle.macho_records.specs.Segments.{text_of}
use Rattle.macho_model.specs.declared.placed.Counts.{Counts}
use Rattle.macho_model.specs.declared.placed.PlacedSection.{PlacedSection}
use Rattle.macho_model.specs.declared.placed.PlacedSegment.{PlacedSegment}
use Rattle.macho_model.specs.Lists.{EachNext}
use Rattle.macho_model.specs.Links.{Link, SectionId, header_at, carried_of, placed_exponent}
use Rattle.macho_model.specs.Targets.{stubs_of}
use Rattle.macho_model.specs.Consumed.{holds_functions}
use Rattle.macho_model.specs.Segments.{TEXT, DATA, OutputKey, same_key, key_of, common_key, output_keys_of, list_if, segment_names_of}
use Rattle.macho_model.specs.WrittenSum.{section_cost}
use Rattle.macho_model.specs.Placement.{Placed, id_of, is_segment_named, Piece, end_of_piece}
use Rattle.macho_model.specs.Spans.{section_span, piece}
use Rattle.macho_model.specs.OutputSections.{flags_of_key, is_zeros, is_code}
use Rattle.macho_model.specs.steps.Outputs.{OutputSection, Merged, InitOffsets, UnwindInfo, Stubs, merged_in, sections_of_text, output_sections_in, output_sections_of, placed_members, pieces_of, extent_of}
use Rattle.macho_model.specs.Order.{BeginsLeast}
use Rattle.macho_model.specs.steps.Least.{front_of, sections_in, row_of}
use Rattle.macho_promise.specs.Sizes.{text_span}
use Rattle.macho_unwind_pages.specs.Entries.{SpansAtMost}
use Rattle.macho_promise.specs.UnwindSays.{resolved, resolved_entries}
use Rattle.macho_layout.proofs.CostLaw.{key-decides}
use Rattle.macho_layout_laws.proofs.Keys.{keys_apart}
use Rattle.macho_synthetic.specs.Made.{IsToMake}
use Rattle.macho_synthetic.proofs.EntryPlaces.{function_stands}
use Rattle.macho_synthetic.proofs.Sound.{each_resolved}
use Rattle.macho_synthetic.proofs.Instructions.{key_is_code, key_in_text, key_listed}
use Rattle.macho_synthetic.proofs.PartSums.{sum_map, parts_sum}
use Rattle.macho_synthetic.proofs.PieceRows.{cost_of, full_cost, Row, row_by_next, mapped_front, row_bounds, around_cost, inside_around}
use Rattle.macho_model.proofs.Outputs.{least_of}
use Rattle.macho_bytes.proofs.Bools.{and_left, and_right, and_both}
use Rattle.macho_bytes.proofs.Maps.{filter-map}

-- the keys of output sections with instructions
abbrev code_keys : Link → List OutputKey
code_keys l = filter (λ key. bytes_eq key.segment TEXT && is_code l key) (output_keys_of l)

-- THE row of them, behind the head
code_row : (l : Link) (counts : Counts) (p : Placed) (s : PlacedSegment) → IsToMake l counts p → Contains p.segments s
    → is_segment_named TEXT s ≡ true
    → Row (front_of counts p s) (map (extent_of l p) (map Merged (code_keys l)))
unfolding row_of
code_row l counts p s make has named =
    let whole : EachNext BeginsLeast (row_of l counts p s (sections_in l counts s)) =
    all_contains (λ (t : PlacedSegment). EachNext BeginsLeast (row_of l counts p t (sections_in l counts t))) p.segments s
    (least_of make.placed.least).rows has in
    let text : sections_in l counts s ≡ sections_of_text l counts = rw named refl in
    let f : OutputSection → Piece = extent_of l p in
    let c : Piece = front_of counts p s in
    let a : List OutputSection = merged_in l TEXT (is_code l) in
    let offsets : List OutputSection = list_if (nat_lt 0 counts.initializers) (InitOffsets ∷ []) in
    let unwind : List OutputSection = list_if (nat_lt 0 counts.unwind) (UnwindInfo ∷ []) in
    let stubs : List OutputSection = list_if (not (length (stubs_of l) == 0)) (Stubs ∷ []) in
    let others : List OutputSection = merged_in l TEXT (λ key. not (is_zeros key) && not (is_code l key)) in
    let zeros : List OutputSection = merged_in l TEXT is_zeros in
    let row = subst (λ (os : List OutputSection). EachNext BeginsLeast (c ∷ map f os)) text whole in
    row_by_next c (map f a)
    (mapped_front c f a offsets (mapped_front c f (a ++ offsets) unwind (mapped_front c f (a ++ offsets ++ unwind) stubs
    (mapped_front c f (a ++ offsets ++ unwind ++ stubs) others (mapped_front c f (a ++ offsets ++ unwind ++ stubs ++ others) zeros row)))))

-- a key with instructions is one of the image's output sections
code_listed : (l : Link) (counts : Counts) (p : Placed) (s : PlacedSegment) (key : OutputKey) → IsToMake l counts p → Contains p.segments s
    → is_segment_named TEXT s ≡ true → Contains (code_keys l) key → Contains (output_sections_of l counts) (Merged key)
unfolding output_sections_of
code_listed l counts p s key make has named there =
    let text : text_of s.name ≡ TEXT = (bytes_eq-Decides (text_of s.name) TEXT).0 named in
    let among : Contains (segment_names_of l) TEXT =
    subst (λ (names : List (List ℕ)). Contains names TEXT) make.placed.order.segments
    (subst (Contains (map (λ (t : PlacedSegment). text_of t.name) p.segments)) text
    (contains_map (λ (t : PlacedSegment). text_of t.name) p.segments s has)) in
    let a : List OutputSection = merged_in l TEXT (is_code l) in
    let offsets : List OutputSection = list_if (nat_lt 0 counts.initializers) (InitOffsets ∷ []) in
    let unwind : List OutputSection = list_if (nat_lt 0 counts.unwind) (UnwindInfo ∷ []) in
    let stubs : List OutputSection = list_if (not (length (stubs_of l) == 0)) (Stubs ∷ []) in
    let others : List OutputSection = merged_in l TEXT (λ k. not (is_zeros k) && not (is_code l k)) in
    let zeros : List OutputSection = merged_in l TEXT is_zeros in
    let first : Contains a (Merged key) = contains_map Merged (code_keys l) key there in
    contains_flat_map (output_sections_in l counts) (segment_names_of l) TEXT (Merged key) among
    (Contains-append_left (a ++ offsets ++ unwind ++ stubs ++ others) zeros (Merged key)
    (Contains-append_left (a ++ offsets ++ unwind ++ stubs) others (Merged key)
    (Contains-append_left (a ++ offsets ++ unwind) stubs (Merged key)
    (Contains-append_left (a ++ offsets) unwind (Merged key) (Contains-append_left a offsets (Merged key) first)))))

-- its pieces are its members
abbrev piece_of : Link → PlacedSection → Piece
piece_of l q = piece (placed_exponent l (id_of q)) (section_span l q)

no_common : (key : OutputKey) → key.segment ≡ TEXT → same_key common_key key ≡ false
no_common key text = ap (λ (name : List ℕ). bytes_eq DATA name && bytes_eq (codes "__common") key.name
    && (common_key.type == key.type)) text

code_pieces : (l : Link) (p : Placed) (key : OutputKey) → Contains (code_keys l) key
    → pieces_of l p (Merged key) ≡ map (piece_of l) (placed_members l p key)
unfolding pieces_of
code_pieces l p key there =
    let passed = (filter_contains (λ k. bytes_eq k.segment TEXT && is_code l k) (output_keys_of l) key there).1 in
    let text : key.segment ≡ TEXT = (bytes_eq-Decides key.segment TEXT).0 (and_left _ _ passed) in
    rw (no_common key text) (append-nil (map (piece_of l) (placed_members l p key)))

code_next : (l : Link) (counts : Counts) (p : Placed) (s : PlacedSegment) (key : OutputKey) → IsToMake l counts p → Contains p.segments s
    → is_segment_named TEXT s ≡ true → Contains (code_keys l) key → EachNext BeginsLeast (pieces_of l p (Merged key))
code_next l counts p s key make has named there =
    all_contains (λ (o : OutputSection). EachNext BeginsLeast (pieces_of l p o)) (output_sections_of l counts) (Merged key)
    (least_of make.placed.least).pieces
    (code_listed l counts p s key make has named there)

-- what an output section costs, its members do
abbrev cost_in : Link → PlacedSection → ℕ
cost_in l q = section_cost l (id_of q)

code_cost : (l : Link) (counts : Counts) (p : Placed) (s : PlacedSegment) (key : OutputKey) → IsToMake l counts p → Contains p.segments s
    → is_segment_named TEXT s ≡ true → Contains (code_keys l) key
    → cost_of (extent_of l p (Merged key)) ≤ sum_by (cost_in l) (placed_members l p key)
code_cost l counts p s key make has named there =
    let cost = around_cost (pieces_of l p (Merged key)) (code_next l counts p s key make has named there) in
    let sum : sum_by full_cost (pieces_of l p (Merged key)) ≡ sum_by (cost_in l) (placed_members l p key) =
    ap (sum_by full_cost) (code_pieces l p key there) ∙ sum_map full_cost (piece_of l) (placed_members l p key) in
    omega (arith, cost, sum)

code_costs : (l : Link) (p : Placed) (keys : List OutputKey)
    → ((key : OutputKey) → Contains keys key → cost_of (extent_of l p (Merged key)) ≤ sum_by (cost_in l) (placed_members l p key))
    → sum_by cost_of (map (extent_of l p) (map Merged keys)) ≤ sum_by (λ key. sum_by (cost_in l) (placed_members l p key)) keys
code_costs l p [] each = omega arith
code_costs l p (key ∷ keys) each =
    let rest = code_costs l p keys (λ k has. each k (contains_later key keys k has)) in
    omega (
      arith,
      rest,
      each key (contains_first key keys),
      sum_by-cons cost_of (extent_of l p (Merged key)) (map (extent_of l p) (map Merged keys)),
      sum_by-cons (λ k. sum_by (cost_in l) (placed_members l p k)) key keys,
    )

-- keys tell members apart
keys_exclude : (l : Link) (j k : OutputKey) → same_key j k ≡ false → (q : PlacedSection)
    → same_key (key_of (header_at l (id_of q))) j ≡ true
    → same_key (key_of (header_at l (id_of q))) k ≡ true → ⊥
keys_exclude l j k differ q first second =
    let one : j ≡ k = sym ((key-decides (key_of (header_at l (id_of q))) j).0 first) ∙ (key-decides (key_of (header_at l (id_of q))) k).0
    second in
    let same : same_key j k ≡ true = (key-decides j k).1 one in
    let clash : true ≡ false = sym same ∙ differ in
    cc

later_weaker : {X : Type 0} (R S : X → X → Type 0) → ((x y : X) → R x y → S x y) → (xs : List X) → EachLater R xs → EachLater S xs
later_weaker R S weaker [] later = tt
later_weaker R S weaker (x ∷ xs) later = (λ k d lt. weaker x (get_or xs k d) (later.0 k d lt), later_weaker R S weaker xs later.1)

-- a member of one stands in `__TEXT` with bytes in the file
abbrev in_text : Link → SectionId → Bool
in_text l s = bytes_eq (segment_name_of (header_at l s)) TEXT && not (is_zerofill (header_at l s))

member_in_text : (l : Link) (key : OutputKey) (q : PlacedSection) → Contains (code_keys l) key
    → same_key (key_of (header_at l (id_of q))) key ≡ true
    → in_text l (id_of q) ≡ true
member_in_text l key q there same =
    let passed = (filter_contains (λ k. bytes_eq k.segment TEXT && is_code l k) (output_keys_of l) key there).1 in
    let one : key_of (header_at l (id_of q)) ≡ key = (key-decides (key_of (header_at l (id_of q))) key).0 same in
    let text : bytes_eq key.segment TEXT ≡ true = and_left (bytes_eq key.segment TEXT) (is_code l key) passed in
    let code : is_code l key ≡ true = and_right (bytes_eq key.segment TEXT) (is_code l key) passed in
    let filled : not (is_zeros key) ≡ true = and_left (not (is_zeros key)) (has_instructions (flags_of_key l key)) code in
    subst (λ (k : OutputKey). (bytes_eq k.segment TEXT && not (is_zeros k)) ≡ true) (sym one)
    (and_both (bytes_eq key.segment TEXT) (not (is_zeros key)) text filled)

-- THE sum
code_sum : (l : Link) (counts : Counts) (p : Placed) → IsToMake l counts p
    → sum_by (λ key. sum_by (cost_in l) (placed_members l p key)) (code_keys l) ≤ text_span l
code_sum l counts p make =
    let apart = later_weaker (λ a b. same_key a b ≡ false)
    (λ j k. (q : PlacedSection) → same_key (key_of (header_at l (id_of q))) j ≡ true → same_key (key_of (header_at l (id_of q))) k ≡ true
    → ⊥)
    (λ j k differ. keys_exclude l j k differ) (code_keys l)
    (later_filter (λ a b. same_key a b ≡ false) (λ key. bytes_eq key.segment TEXT && is_code l key) (output_keys_of l)
    (later_pairs (λ a b. same_key a b ≡ false) (output_keys_of l) (keys_apart l))) in
    let all = parts_sum (cost_in l) (λ q key. same_key (key_of (header_at l (id_of q))) key) (code_keys l) p.sections
    (λ q. in_text l (id_of q)) apart
    (λ key q there same. member_in_text l key q there same) in
    let ids : sum_by (cost_in l) (filter (λ q. in_text l (id_of q)) p.sections) ≡ text_span l =
    sym (sum_map (section_cost l) id_of (filter (λ q. in_text l (id_of q)) p.sections))
    ∙ ap (sum_by (section_cost l)) (sym (filter-map (in_text l) id_of p.sections) ∙ ap (filter (in_text l))
    make.placed.order.sections) in
    omega (arith, all, ids)

-- a placed section is carried
placed_carried : (l : Link) (counts : Counts) (p : Placed) (q : PlacedSection) → IsToMake l counts p → Contains p.sections q
    → Contains (carried_of l) (id_of q)
placed_carried l counts p q make has = subst (λ (ids : List SectionId). Contains ids (id_of q)) make.placed.order.sections
    (contains_map id_of p.sections q has)

-- where a function's section is
within_code : (l : Link) (counts : Counts) (p : Placed) (s : PlacedSegment) (q : PlacedSection) → IsToMake l counts p
    → Contains p.segments s
    → is_segment_named TEXT s ≡ true → Contains p.sections q → holds_functions l (id_of q) ≡ true
    → (end_of_piece (front_of counts p s) ≤ q.address) × (q.address + (header_at l (id_of q)).size ≤ end_of_piece (front_of counts p s) +
    text_span l)
within_code l counts p s q make has named there holds =
    let carried = placed_carried l counts p q make there in
    let key : OutputKey = key_of (header_at l (id_of q)) in
    let coded : Contains (code_keys l) key =
    contains_filter (λ k. bytes_eq k.segment TEXT && is_code l k) (output_keys_of l) key (key_listed l (id_of q) carried)
    (and_both _ _ (key_in_text l (id_of q) holds) (key_is_code l (id_of q) carried holds)) in
    let member : Contains (placed_members l p key) q =
    contains_filter (λ x. same_key (key_of (header_at l (id_of x))) key) p.sections q there ((key-decides key key).1 refl) in
    let part : Contains (pieces_of l p (Merged key)) (piece_of l q) =
    subst (λ (ps : List Piece). Contains ps (piece_of l q)) (sym (code_pieces l p key coded))
    (contains_map (piece_of l) (placed_members l p key) q member) in
    let inside = inside_around (pieces_of l p (Merged key)) (piece_of l q) part in
    let bounds = row_bounds (front_of counts p s) (map (extent_of l p) (map Merged (code_keys l))) (extent_of l p (Merged key))
    (code_row l counts p s make has named)
    (contains_map (extent_of l p) (map Merged (code_keys l)) (Merged key) (contains_map Merged (code_keys l) key coded)) in
    let costs = code_costs l p (code_keys l) (λ k in_keys. code_cost l counts p s k make has named in_keys) in
    let sum = code_sum l counts p make in
    (omega (arith, inside.0, bounds.0), omega (arith, inside.1, bounds.1, costs, sum))

-- THE span of functions' starts
pub starts_span : (l : Link) (counts : Counts) (p : Placed) → IsToMake l counts p → SpansAtMost (text_span l) (resolved_entries l p)
starts_span l counts p make =
    let text = make.placed.placed.begins in
    each_resolved (λ e. All (λ f. f.start ≤ e.start + text_span l) (resolved_entries l p)) l p (λ d has.
    let low = function_stands l counts p d make has in
    let from = within_code l counts p text.0 low.q make text.1 text.2 low.has low.holds in
    each_resolved (λ f. f.start ≤ (resolved l p d).start + text_span l) l p (λ e there.
    let high = function_stands l counts p e make there in
    let to = within_code l counts p text.0 high.q make text.1 text.2 high.has high.holds in
    omega (arith, low.from, from.0, high.before, to.1)))
