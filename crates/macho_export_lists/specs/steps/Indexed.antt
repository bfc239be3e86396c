-- What tables of patterns keep, and what is found by them.
use Rattle.std.specs.Prelude.{◌≡◌, ℕ, ◌+◌, ◌-◌, ◌&&◌, ◌⊎◌, not, if◌then◌else◌, nat_le, nat_lt, true, Bool, List, [], length, get_or}
use Rattle.std.specs.List.{list_any, position_or_len, range_with_len, slice_range}
use Rattle.std.specs.Str.{bytes_eq}
use Rattle.macho_model.specs.ExportLists.{matches}
use Rattle.macho_export_lists.specs.declared.parts.PartTable.{PartTable}
use Rattle.macho_export_lists.specs.declared.table.PatternTable.{PatternTable}
use Rattle.macho_export_lists.specs.steps.Ends.{IsPart, first_place, last_place, has_many_places}
use Rattle.macho_export_lists.specs.steps.Lists.{ArePlaces}
use Rattle.macho_export_lists.specs.Entries.{texts_of}
use Rattle.macho_export_lists.specs.steps.Tables.{has, numbers_of, KeepsNumbers, KeepsParts}

-- A number was noted under a part of a pattern.
pub record IsNoted (t : PartTable) (pattern : List ℕ) (n : ℕ) : Type 0 where
  pub part : List ℕ
  pub is : IsPart t.stands part pattern
  pub numbered : has (numbers_of t.parts t.groups.items part) n ≡ true
  pub long : has t.lengths.items (length part) ≡ true

-- Nothing that was noted under parts is lost.
pub record KeepsTable (old new : PartTable) : Type 0 where
  pub same : new.stands ≡ old.stands
  pub numbers : KeepsParts old.parts old.groups.items new.parts new.groups.items
  pub longs : KeepsNumbers old.lengths.items new.lengths.items

pub record KeepsTables (old new : PatternTable) : Type 0 where
  pub same : new.places ≡ old.places
  pub fronts : KeepsTable old.fronts new.fronts
  pub middles : KeepsTable old.middles new.middles
  pub backs : KeepsTable old.backs new.backs

-- a number was noted under one of the parts of a pattern
abbrev pub IsNotedIn : PatternTable → List ℕ → ℕ → Type 0
IsNotedIn t pattern n = IsNoted t.fronts pattern n ⊎ (IsNoted t.middles pattern n ⊎ IsNoted t.backs pattern n)

-- The place at which each pattern stands first is noted under one of its parts.
pub record IsIndexed (patterns : List (List ℕ)) (t : PatternTable) : Type 0 where
  pub are : ArePlaces patterns t.places
  pub noted : (q : List ℕ) → list_any (bytes_eq q) patterns ≡ true → IsNotedIn t q (position_or_len (bytes_eq q) patterns)

-- a name matches the pattern of a number
abbrev pub is_match_at : List (List ℕ) → List ℕ → ℕ → Bool
is_match_at patterns name n = nat_lt n (length patterns) && matches (get_or patterns n []) name

-- a name matches the pattern of one of some numbers
abbrev pub is_match_of : List (List ℕ) → List ℕ → List ℕ → Bool
is_match_of patterns name numbers = list_any (is_match_at patterns name) numbers

-- so many bytes of a name from a place on stand at an earlier place, too, from a first one on
abbrev pub is_again : List ℕ → ℕ → ℕ → ℕ → Bool
is_again name count first at =
    list_any (λ k. bytes_eq (slice_range name k (k + count)) (slice_range name at (at + count))) (range_with_len first (at - first))

-- a name matches a pattern that was noted under so many of its own bytes from a place on
abbrev pub is_match_by : PartTable → List (List ℕ) → List ℕ → ℕ → ℕ → Bool
is_match_by t patterns name count at =
    is_match_of patterns name (numbers_of t.parts t.groups.items (slice_range name at (at + count)))

-- and these bytes stand at no earlier place, from a first one on
abbrev pub is_match_from : PartTable → List (List ℕ) → List ℕ → ℕ → ℕ → ℕ → Bool
is_match_from t patterns name count first at = not (is_again name count first at) && is_match_by t patterns name count at

-- the places from one to another
abbrev pub places_from : ℕ → ℕ → List ℕ
places_from first last = range_with_len first (last + 1 - first)

-- a name matches a pattern that was noted under so many of its own bytes, at one of the places where they may stand
abbrev pub is_match_under : PartTable → List (List ℕ) → List ℕ → ℕ → Bool
is_match_under t patterns name count =
    nat_le count (length name)
    && list_any (is_match_from t patterns name count (first_place t.stands (length name) count))
    (places_from (first_place t.stands (length name) count) (last_place t.stands (length name) count))

-- a name matches a pattern that was noted under some of its own bytes
abbrev pub is_match_found : PartTable → List (List ℕ) → List ℕ → Bool
is_match_found t patterns name = list_any (is_match_under t patterns name) t.lengths.items

-- a name matches a pattern that was noted, whatever it was noted under
abbrev pub is_match_any : PartTable → List (List ℕ) → List ℕ → Bool
is_match_any t patterns name = list_any (is_match_of patterns name) (texts_of t.groups.items)

-- one of the two, by the name's length
abbrev pub is_match_in : PartTable → List (List ℕ) → List ℕ → Bool
is_match_in t patterns name =
    if has_many_places t.stands (length name) then is_match_any t patterns name else is_match_found t patterns name
