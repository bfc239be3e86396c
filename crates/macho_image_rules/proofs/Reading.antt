-- What a view of an object gives of a section that isn't zerofill.
--
-- The object keeps its rules, so the section has as many bytes as its header says, and each relocation's bytes stand among them. The list
-- of relocations is that of the section.
use Rattle.std.proofs.Common.{◌≡◌, ℕ, ◌+◌, ◌^◌, ◌<◌, ◌≤◌, Bool, List, sym, subst, arith}
use Rattle.std.proofs.lemmas.Bool.{leb-true}
use Rattle.macho_model.specs.Objects.{num_sections, section_at, relocation_at}
use Rattle.macho_model.specs.ObjectLaws.{KeepsObjectRules}
use Rattle.macho_object.specs.Views.{RelocationBytes}
use Rattle.macho_image_rules.specs.steps.Marks.{AreMarks}

-- each relocation stands in its section
pub relocations_inside : (b : List ℕ) (k size : ℕ) (list : RelocationBytes) → KeepsObjectRules b → k < num_sections b
    → size ≡ (section_at b k).size
    → list ≡ record { bytes = b; section = k } → (r : ℕ) → r < (section_at list.bytes list.section).nreloc
    → (relocation_at list.bytes list.section r).r_address + 2 ^ (relocation_at list.bytes list.section r).r_length ≤ size
relocations_inside b k size list object among long is =
    subst
    (λ (x : RelocationBytes). (r : ℕ) → r < (section_at x.bytes x.section).nreloc
    → (relocation_at x.bytes x.section r).r_address + 2 ^ (relocation_at x.bytes x.section r).r_length ≤ size)
    (sym is)
    (λ r low.
    let inside = leb-true ((relocation_at b k r).r_address + 2 ^ (relocation_at b k r).r_length) (section_at b k).size
    (object.o10.1 k r among low) in
    omega (arith, inside, long))

-- the marks of a list are those of its section
pub marks_of : (b : List ℕ) (k size : ℕ) (list : RelocationBytes) (items marks : List Bool) → list ≡ record { bytes = b; section = k }
    → marks ≡ items → AreMarks list.bytes list.section (section_at list.bytes list.section).nreloc size items
    → AreMarks b k (section_at b k).nreloc size marks
marks_of b k size list items marks is same marked =
    subst (λ (m : List Bool). AreMarks b k (section_at b k).nreloc size m) (sym same)
    (subst (λ (x : RelocationBytes). AreMarks x.bytes x.section (section_at x.bytes x.section).nreloc size items) is marked)
