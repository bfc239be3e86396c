-- Laws on fields and slots at every slide: the contracts of functions of `src/laws.rt`.
use Rattle.std.specs.Prelude.{◌≡◌, ℕ, ◌+◌, ◌*◌, ◌%◌, ◌^◌, ◌<◌, ◌≤◌, ◌⊎◌, ◌&&◌, ◌||◌, Bool, true, false, List, [], get_or, Option, Some, None, is_some}
use Rattle.macho_model.specs.declared.placed.PlacedSection.{PlacedSection}
use Rattle.macho_model.specs.declared.targets.Target.{Target}
use Rattle.macho_model.specs.declared.targets.Target.TheVariants as target
use Rattle.macho_model.specs.Links.{Link}
use Rattle.macho_model.specs.Needs.{imports_of, import_library, POINTER_SIZE}
use Rattle.macho_model.specs.Targets.{is_defined, is_import}
use Rattle.macho_model.specs.Fields.{Field}
use Rattle.macho_model.specs.Images.{base_of}
use Rattle.macho_model.specs.Meaning.{Same}
use Rattle.macho_model.specs.Segments.{SEGMENT_PAGE}
use Rattle.macho_model.specs.Placement.{Placed, id_of}
use Rattle.macho_model.specs.Chain.{chain_segments, IsFileWord, OnChainOf}
use Rattle.macho_model.specs.Loader.{is_bind}
use Rattle.macho_model.specs.Memory.{Choice, chosen, rebase_target, rebase_high, Covers, IsBound}
use Rattle.macho_model.specs.Stands.{Kind, Pointer, Difference, Branch, Page, Offset, SlotPage, SlotOffset, SlotDistance, NoKind, kind_of, is_template_offset, IsAt, Denotes}

-- the targets of a field move: that of its kind, and its subtrahend
abbrev pub subtrahend_moves : Option Target → Bool
subtrahend_moves None = false
subtrahend_moves (Some t) = is_defined t

abbrev pub targets_move : Field → Kind → Bool
targets_move f Pointer = false
targets_move f Difference = is_defined f.target && subtrahend_moves f.subtrahend
targets_move f Branch = is_defined f.target || is_import f.target
targets_move f Page = is_defined f.target
targets_move f Offset = is_defined f.target
targets_move f SlotPage = is_defined f.target || is_import f.target
targets_move f SlotOffset = is_defined f.target || is_import f.target
targets_move f SlotDistance = true
targets_move f NoKind = true

-- A field that no chain word covers, and whose targets move with the image, denotes at every slide of whole pages where
-- it does at slide 0.
abbrev pub FieldsMove : Type 0
FieldsMove =
    (l : Link) (b : List ℕ) (p : Placed) (s : ℕ) (c d : Choice) (q : PlacedSection) (f : Field) → s % SEGMENT_PAGE ≡ 0
    → targets_move f (kind_of f.type (is_some f.subtrahend)) ≡ true
    → ((k : ℕ) → k < f.width → (word_at : ℕ) → Covers b word_at (q.address + f.offset + k) → ⊥)
    → Denotes l b p 0 c q f → Denotes l b p s d q f

-- a chain word that moves with the image, and in which no other one begins
pub record MovesAt (b : List ℕ) (a word : ℕ) : Type 0 where
  pub on : OnChainOf b a
  pub stands : IsFileWord (chain_segments b) b a word
  pub rebases : is_bind word ≡ false
  pub alone : (other : ℕ) → OnChainOf b other → (other ≤ a) ⊎ (a + POINTER_SIZE ≤ other)

-- A pointer of 8 bytes to a target that moves denotes at every slide, where its chain word says the target at slide 0.
abbrev pub PointersMove : Type 0
PointersMove =
    (l : Link) (b : List ℕ) (p : Placed) (c : Choice) (q : PlacedSection) (f : Field) (word x : ℕ) → MovesAt b (q.address + f.offset) word
    → f.width ≡ 8 → kind_of f.type (is_some f.subtrahend) ≡ Pointer → is_template_offset l (id_of q) f ≡ false → is_defined f.target ≡ true
    → IsAt l p 0 c f.target x → Same (rebase_target word + rebase_high word * 2 ^ 56 + base_of b) (x + f.addend)
    → (s : ℕ) (choice : Choice) → Denotes l b p s choice q f

-- a chain word that binds an import of the link, with an addend, for every choice, and in which no other one begins
pub record BindsAt (l : Link) (b : List ℕ) (a id addend : ℕ) : Type 0 where
  pub on : OnChainOf b a
  pub word : ℕ
  pub stands : IsFileWord (chain_segments b) b a word
  pub binds : is_bind word ≡ true
  pub alone : (other : ℕ) → OnChainOf b other → (other ≤ a) ⊎ (a + POINTER_SIZE ≤ other)
  pub bound : (choice : Choice) (x : ℕ)
      → chosen choice (import_library l (get_or (imports_of l) id [])) (get_or (imports_of l) id []) ≡ Some x
      → IsBound b choice word ((x + addend) % 2 ^ 64)

-- A pointer of 8 bytes to an import denotes at every slide, for every choice that has the import.
abbrev pub ImportPointersBind : Type 0
ImportPointersBind =
    (l : Link) (b : List ℕ) (p : Placed) (q : PlacedSection) (f : Field) (id : ℕ) → BindsAt l b (q.address + f.offset) id f.addend
    → f.width ≡ 8 → kind_of f.type (is_some f.subtrahend) ≡ Pointer → is_template_offset l (id_of q) f ≡ false → f.target ≡ target.Import id
    → (s : ℕ) (choice : Choice) (x : ℕ)
    → chosen choice (import_library l (get_or (imports_of l) id [])) (get_or (imports_of l) id []) ≡ Some x
    → Denotes l b p s choice q f
