-- What lies in some segment of a name lies in some of the segments that have it.
--
-- A segment is among those that have a name exactly where it is among all and has the name. So an item has room in one of these exactly
-- where it has room in one of all, and what holds of each item of a list carries over. The size of a common is what the plan says of its
-- number.
use Rattle.std.proofs.Common.{◌≡◌, ℕ, ◌<◌, Bool, true, false, List, All, filter, length, get_or, sym, ap, subst}
use Rattle.std.specs.Bool.{OnTrue}
use Rattle.macho_bytes.proofs.Members.{contains_filter, filter_contains}
use Rattle.macho_model.specs.declared.placed.PlacedSegment.{PlacedSegment}
use Rattle.macho_model.specs.declared.placed.PlacedCommon.{PlacedCommon}
use Rattle.macho_model.specs.Links.{Link}
use Rattle.macho_model.specs.Segments.{DATA}
use Rattle.macho_model.specs.Placement.{Placed, Piece, IsInNamed, IsWholeList, LiesIn, is_segment_named, common_piece}
use Rattle.macho_layout.specs.declared.spec.CommonSpec.{CommonSpec}
use Rattle.macho_layout.specs.Plans.{Planning, IsPlanOf}
use Rattle.macho_placement_rules.specs.steps.Lying.{HasRoom}
use Rattle.macho_placement_rules.specs.steps.Pieces.{common_part}
use Rattle.macho_placement_rules.proofs.AllPieces.{common_same}

-- what a true answer says, weakened
pub on_weaker : {P Q : Type 0} (b : Bool) → (P → Q) → OnTrue b P → OnTrue b Q
on_weaker true f p = f p
on_weaker false f p = p

-- room in one of the segments of a name, and in one of all
pub room_of_all : (f : Bool) (gs : List PlacedSegment) (name : List ℕ) (start size : ℕ)
    → HasRoom f (filter (is_segment_named name) gs) name start size → HasRoom f gs name start size
room_of_all f gs name start size room =
    (room.0, (filter_contains (is_segment_named name) gs room.0 room.1).0, room.2, room.3)

pub room_of_named : (f : Bool) (gs : List PlacedSegment) (name : List ℕ) (start size : ℕ)
    → HasRoom f gs name start size → HasRoom f (filter (is_segment_named name) gs) name start size
room_of_named f gs name start size room =
    (room.0, contains_filter (is_segment_named name) gs room.0 room.1 room.2, room.2, room.3)

-- each item of a list has room in one of the segments of a name where it has room in one of all, and the other way
module _ {X : Type 0} (f : Bool) (name : List ℕ) (at size : X → ℕ) (gs some named others : List PlacedSegment) (xs items : List X)
    (all : some ≡ gs) (listed : named ≡ filter (is_segment_named name) some) (these : others ≡ named) (same : items ≡ xs) where
  where_named : others ≡ filter (is_segment_named name) gs
  where_named = subst (λ (zs : List PlacedSegment). others ≡ filter (is_segment_named name) zs) all
      (subst (λ (zs : List PlacedSegment). others ≡ zs) listed these)

  pub rooms_of_all : All (λ x. HasRoom f others name (at x) (size x)) items → All (λ x. HasRoom f gs name (at x) (size x)) xs
  rooms_of_all rooms = subst (λ (ys : List X). All (λ x. HasRoom f gs name (at x) (size x)) ys) same
      (λ k d low. room_of_all f gs name (at (get_or items k d)) (size (get_or items k d))
      (subst (λ (zs : List PlacedSegment). HasRoom f zs name (at (get_or items k d)) (size (get_or items k d))) where_named
      (rooms k d low)))

  pub rooms_of_named : All (λ x. HasRoom f gs name (at x) (size x)) xs → All (λ x. HasRoom f others name (at x) (size x)) items
  rooms_of_named rooms =
      let mine : All (λ x. HasRoom f gs name (at x) (size x)) items
      = subst (λ (ys : List X). All (λ x. HasRoom f gs name (at x) (size x)) ys) (sym same) rooms in
      λ k d low. subst (λ (zs : List PlacedSegment). HasRoom f zs name (at (get_or items k d)) (size (get_or items k d))) (sym where_named)
      (room_of_named f gs name (at (get_or items k d)) (size (get_or items k d)) (mine k d low))

-- a common has room for its bytes
module _ (l : Link) (p : Planning) (plan : IsPlanOf l p) (q : Placed) (whole : IsWholeList l q)
    (specs : List CommonSpec) (planned : p.commons ≡ specs) where
  size_told : (k : ℕ) (d : PlacedCommon) → k < length q.commons
      → (common_part specs (get_or q.commons k d)).size ≡ (common_piece l (get_or q.commons k d)).size
  size_told k d low = subst (λ (ss : List CommonSpec). (common_part ss (get_or q.commons k d)).size
      ≡ (common_piece l (get_or q.commons k d)).size) planned
      (ap (λ (c : Piece). c.size) (common_same l p plan q whole k d low))

  pub commons_held : All (λ c. HasRoom false q.segments DATA c.address (common_part specs c).size) q.commons
      → All (λ c. IsInNamed q DATA (LiesIn false (common_piece l c))) q.commons
  commons_held rooms = λ k d low. subst (λ (n : ℕ). HasRoom false q.segments DATA (get_or q.commons k d).address n) (size_told k d low)
      (rooms k d low)

  pub held_commons : All (λ c. IsInNamed q DATA (LiesIn false (common_piece l c))) q.commons
      → All (λ c. HasRoom false q.segments DATA c.address (common_part specs c).size) q.commons
  held_commons rooms = λ k d low. subst (λ (n : ℕ). HasRoom false q.segments DATA (get_or q.commons k d).address n)
      (sym (size_told k d low)) (rooms k d low)
