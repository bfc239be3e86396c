-- Lists that say the same, number by number.
use Rattle.std.proofs.Common.{◌≡◌, ℕ, ◌<◌, List, [], ◌∷◌, map, length, get_or, refl, sym, ap, ◌∙◌, arith}
use Rattle.std.specs.List.{range_with_len}
use Rattle.std.proofs.lemmas.List.{ext_get_or, get_or-map, length-map}
use Rattle.std.proofs.lemmas.List.FromFn.{get_or-range_with_len, length-range_with_len}
use Rattle.macho_bytes.proofs.Maps.{map_map}
use Rattle.macho_model.specs.declared.placed.PlacedCommon.{PlacedCommon}
use Rattle.macho_model.specs.Links.{Link, SectionId, carried_of}
use Rattle.macho_layout.specs.declared.spec.SectionSpec.{SectionSpec}
use Rattle.macho_layout.specs.Plans.{spec_of}
use Rattle.macho_placement_rules.specs.steps.Lists.{spec_id}

-- two lists of one length that say the same of each number say the same
pub maps_same : {X Y Z : Type 0} (f : X → Z) (g : Y → Z) (xs : List X) (ys : List Y) (d : X) (e : Y) → length xs ≡ length ys
    → ((k : ℕ) → k < length xs → f (get_or xs k d) ≡ g (get_or ys k e)) → map f xs ≡ map g ys
maps_same f g xs ys d e long each =
    ext_get_or (f d) (map f xs) (map g ys) (length-map xs f ∙ long ∙ sym (length-map ys g))
    (λ k low.
    let within : k < length xs = omega (arith, low, length-map xs f) in
    get_or-map f xs k d (f d) within ∙ each k within ∙ sym (get_or-map g ys k e (f d) (omega arith)))

-- and the other way
pub same_lengths : {X Y Z : Type 0} (f : X → Z) (g : Y → Z) (xs : List X) (ys : List Y) → map f xs ≡ map g ys → length xs ≡ length ys
same_lengths f g xs ys same = sym (length-map xs f) ∙ ap length same ∙ length-map ys g

pub same_at : {X Y Z : Type 0} (f : X → Z) (g : Y → Z) (xs : List X) (ys : List Y) (d : X) (e : Y) (k : ℕ) → map f xs ≡ map g ys
    → k < length xs → f (get_or xs k d) ≡ g (get_or ys k e)
same_at {X} {Y} {Z} f g xs ys d e k same low =
    let long : length xs ≡ length ys = same_lengths f g xs ys same in
    sym (get_or-map f xs k d (f d) low) ∙ ap (λ (zs : List Z). get_or zs k (f d)) same ∙ get_or-map g ys k e (f d) (omega arith)

-- the sections that a plan speaks of
pub planned_ids : (l : Link) (specs : List SectionSpec) → specs ≡ map (spec_of l) (carried_of l) → map spec_id specs ≡ carried_of l
planned_ids l specs told = ap (map spec_id) told ∙ map_map spec_id (spec_of l) (carried_of l) ∙ themselves (carried_of l)
  where
    themselves : (ids : List SectionId) → map (λ s. spec_id (spec_of l s)) ids ≡ ids
    themselves [] = refl
    themselves (s ∷ ids) = ap (λ (rest : List SectionId). s ∷ rest) (themselves ids)

-- commons by number
pub numbered : (commons : List PlacedCommon) (count : ℕ) (d : PlacedCommon) → length commons ≡ count
    → ((k : ℕ) → k < count → (get_or commons k d).id ≡ k) → map (λ c. c.id) commons ≡ range_with_len 0 count
numbered commons count d long each =
    ext_get_or 0 (map (λ (c : PlacedCommon). c.id) commons) (range_with_len 0 count)
    (length-map commons (λ (c : PlacedCommon). c.id) ∙ long ∙ sym (length-range_with_len 0 count))
    (λ k low.
    let within : k < length commons = omega (arith, low, length-map commons (λ (c : PlacedCommon). c.id)) in
    get_or-map (λ (c : PlacedCommon). c.id) commons k d 0 within ∙ each k (omega arith)
    ∙ sym (get_or-range_with_len 0 count k 0 (omega arith) ∙ omega arith))

pub numbered_long : (commons : List PlacedCommon) (count : ℕ) → map (λ c. c.id) commons ≡ range_with_len 0 count → length commons ≡ count
numbered_long commons count same =
    sym (length-map commons (λ (c : PlacedCommon). c.id)) ∙ ap length same ∙ length-range_with_len 0 count

pub numbered_at : (commons : List PlacedCommon) (count : ℕ) (d : PlacedCommon) (k : ℕ) → map (λ c. c.id) commons ≡ range_with_len 0 count
    → k < length commons → (get_or commons k d).id ≡ k
numbered_at commons count d k same low =
    sym (get_or-map (λ (c : PlacedCommon). c.id) commons k d 0 low) ∙ ap (λ (ids : List ℕ). get_or ids k 0) same
    ∙ get_or-range_with_len 0 count k 0 (omega (arith, numbered_long commons count same)) ∙ omega arith
