-- What an export list holds: of all entries of its texts the plain ones and the patterns, each in order.
use Rattle.std.specs.Prelude.{◌≡◌, ℕ, ◌==◌, ◌||◌, Bool, List, filter, map}
use Rattle.std.specs.List.{list_any}
use Rattle.std.specs.Str.{bytes_eq}
use Rattle.macho_model.specs.ExportLists.{STAR, matches, all_entries, plain_entries}
use Rattle.std.specs.declared.vec.Vec.{Vec}

pub record ListEntries : Type 0 where
  pub plain : List (List ℕ)
  pub patterns : List (List ℕ)

-- An export list was made of these texts, in order.
pub record IsListOf (texts : List (List ℕ)) (e : ListEntries) : Type 0 where
  pub plain : e.plain ≡ plain_entries texts
  pub patterns : e.patterns ≡ filter (list_any (λ b. b == STAR)) (all_entries texts)

-- a name is a plain entry, or matches a pattern
abbrev pub is_within : ListEntries → List ℕ → Bool
is_within e name = list_any (bytes_eq name) e.plain || list_any (λ p. matches p name) e.patterns

-- the bytes of texts that are owned
abbrev pub texts_of : {A : Type 0} → List (Vec ℕ A) → List (List ℕ)
texts_of vs = map (λ v. v.items) vs
