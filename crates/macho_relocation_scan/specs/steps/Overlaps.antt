-- Fields of a section that share bytes.
use Rattle.std.specs.Prelude.{◌≡◌, ℕ, ◌+◌, ◌^◌, ◌<◌, ◌≤◌, ◌⊎◌, ◌==◌, nat_le, nat_lt, ◌&&◌, ◌||◌, Bool, true, false, List, Option, Some, None, min, max}
use Rattle.macho_wire.specs.declared.relocations.RelocationInfo.{RelocationInfo}
use Rattle.macho_model.specs.Objects.{section_at, relocation_at}
use Rattle.macho_model.specs.Fields.{is_pair}
use Rattle.macho_relocation_scan.specs.declared.overlap.Hull.{Hull}
use Rattle.macho_relocation_scan.specs.declared.overlap.Order.{Order}

-- the end of a relocation's field
abbrev pub field_end : RelocationInfo → ℕ
field_end rel = rel.r_address + 2 ^ rel.r_length

-- two fields share a byte
abbrev pub shares : RelocationInfo → RelocationInfo → Bool
shares q r = nat_lt q.r_address (field_end r) && nat_lt r.r_address (field_end q)

-- two relocations of section k are a pair
abbrev pub are_one : List ℕ → ℕ → ℕ → ℕ → Bool
are_one b k q r = (r == q + 1) && is_pair (relocation_at b k q) (relocation_at b k r)

-- two relocations of section k are apart, or a pair
abbrev pub GoTogether : List ℕ → ℕ → ℕ → ℕ → Type 0
GoTogether b k q r = (shares (relocation_at b k q) (relocation_at b k r) ≡ false) ⊎ (are_one b k q r ≡ true)

-- two of the first n share a byte only as a pair
pub record AreApart (b : List ℕ) (k n : ℕ) : Type 0 where
  pub each : (q r : ℕ) → q < r → r < n → GoTogether b k q r

-- a field lies between two places; all of the first n do
abbrev pub IsInside : Hull → RelocationInfo → Type 0
IsInside h rel = (h.low ≤ rel.r_address) × (field_end rel ≤ h.high)

abbrev pub Holds : List ℕ → ℕ → Hull → ℕ → Type 0
Holds b k h n = (q : ℕ) → q < n → IsInside h (relocation_at b k q)

-- a field stands before or behind what lies between two places
abbrev pub excludes : Hull → RelocationInfo → Bool
excludes h rel = nat_le h.high rel.r_address || nat_le (field_end rel) h.low

abbrev pub hull_with : Hull → RelocationInfo → Hull
hull_with h rel = record { low = min h.low rel.r_address; high = max h.high (field_end rel) }

-- what is known of the first n: where all lie, where all but the last do, and that all are apart where it shows
pub record IsOrder (b : List ℕ) (k n : ℕ) (o : Order) : Type 0 where
  pub older : (q : ℕ) → q + 1 < n → IsInside o.older (relocation_at b k q)
  pub hull : Holds b k o.hull n
  pub apart : o.are_apart ≡ true → AreApart b k n

-- Two relocations of section k share a byte, and are no pair.
pub record Overlaps (b : List ℕ) (k q r : ℕ) : Type 0 where
  pub order : q < r
  pub there : r < (section_at b k).nreloc
  pub share : shares (relocation_at b k q) (relocation_at b k r) ≡ true
  pub apart : are_one b k q r ≡ false

-- What is found in a section: nothing, where all are apart; or two that overlap.
abbrev pub IsFoundIn : List ℕ → ℕ → Option (ℕ × ℕ) → Type 0
IsFoundIn b k None = AreApart b k (section_at b k).nreloc
IsFoundIn b k (Some p) = Overlaps b k p.0 p.1

-- A table of places, as a function: a byte of a field is put in, unless an earlier relocation has it that is the first of its pair.
abbrev pub or_new : Option ℕ → ℕ → ℕ
or_new None index = index
or_new (Some q) index = q

abbrev pub IsPartner : Option ℕ → Bool → ℕ → Type 0
IsPartner None paired index = Unit {0}
IsPartner (Some q) paired index = (paired ≡ true) × (q + 1 ≡ index)

pub record IsPut (old new : ℕ → Option ℕ) (from to index : ℕ) (paired : Bool) : Type 0 where
  pub there : (p : ℕ) → from ≤ p → p < to → new p ≡ Some (or_new (old p) index)
  pub partner : (p : ℕ) → from ≤ p → p < to → IsPartner (old p) paired index
  pub others : (p : ℕ) → (p < from) ⊎ (to ≤ p) → new p ≡ old p

-- a relocation that has a byte, and is no partner
pub record IsTaken (old : ℕ → Option ℕ) (from to index : ℕ) (paired : Bool) (q : ℕ) : Type 0 where
  pub place : ℕ
  pub low : from ≤ place
  pub high : place < to
  pub has : old place ≡ Some q
  pub stranger : (paired ≡ true → q + 1 ≡ index → ⊥)

abbrev pub PutsOrTaken : (ℕ → Option ℕ) → (ℕ → Option ℕ) → ℕ → ℕ → ℕ → Bool → Option ℕ → Type 0
PutsOrTaken old new from to index paired None = IsPut old new from to index paired
PutsOrTaken old new from to index paired (Some q) = IsTaken old from to index paired q

-- the table of the first n relocations of section k: each byte has the first that stands there, and no other byte has one
pub record IsTable (b : List ℕ) (k n : ℕ) (table : ℕ → Option ℕ) : Type 0 where
  pub says : (p q : ℕ) → table p ≡ Some q → (q < n) × ((relocation_at b k q).r_address ≤ p) × (p < field_end (relocation_at b k q))
  pub full : (p r : ℕ) → r < n → (relocation_at b k r).r_address ≤ p → p < field_end (relocation_at b k r)
      → (table p ≡ Some r) ⊎ ((q : ℕ) × (table p ≡ Some q) × (q + 1 ≡ r))
