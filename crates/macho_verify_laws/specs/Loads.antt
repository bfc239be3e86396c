-- What a loader may do with an image of a link: where it puts it, and what it binds. And what holds whatever it does, or fails somewhere.
use Rattle.std.specs.Prelude.{◌≡◌, ℕ, ◌+◌, ◌%◌, ◌^◌, ◌<◌, ◌≤◌, List, [], length, get_or, Some, All}
use Rattle.macho_model.specs.Links.{Link}
use Rattle.macho_model.specs.Needs.{imports_of, import_library}
use Rattle.macho_model.specs.Images.{mapped_segments}
use Rattle.macho_model.specs.Segments.{SEGMENT_PAGE}
use Rattle.macho_model.specs.Memory.{Choice, chosen, BindsAll}

-- the choice has an address below 2 ^ 64 for each import of a link
abbrev pub BindsImports : Link → Choice → Type 0
BindsImports l choice =
    (k : ℕ) → k < length (imports_of l)
    → (x : ℕ) × (x < 2 ^ 64) × (chosen choice (import_library l (get_or (imports_of l) k [])) (get_or (imports_of l) k []) ≡ Some x)

-- An image is loaded: at a slide of whole pages by which no mapped segment passes 2 ^ 64, and with addresses for the imports of both the
-- image and the link.
pub record IsLoad (l : Link) (b : List ℕ) (s : ℕ) (choice : Choice) : Type 0 where
  pub pages : s % SEGMENT_PAGE ≡ 0
  pub fits : All (λ t. t.vmaddr + t.vmsize + s ≤ 2 ^ 64) (mapped_segments b)
  pub image : BindsAll b choice
  pub link : BindsImports l choice

-- whatever the loader does, this is so
abbrev pub Always : Link → List ℕ → (ℕ → Choice → Type 0) → Type 0
Always l b IsSo = (s : ℕ) (choice : Choice) → IsLoad l b s choice → IsSo s choice

-- Somewhere it is not.
pub record Fails (l : Link) (b : List ℕ) (IsSo : ℕ → Choice → Type 0) : Type 0 where
  pub s : ℕ
  pub choice : Choice
  pub load : IsLoad l b s choice
  pub not_so : IsSo s choice → ⊥
