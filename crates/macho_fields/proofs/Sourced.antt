-- What is said of where a section comes from is said of its place and of the bytes of its object, and the other way.
use Rattle.std.proofs.Common.{◌≡◌, ℕ, List, sym, subst}
use Rattle.macho_model.specs.declared.placed.PlacedSection.{PlacedSection}
use Rattle.macho_fields.specs.declared.source.Source.{Source}

pub of_source : (P : PlacedSection → List ℕ → Type 0) (s : Source) (q : PlacedSection) (b : List ℕ) → s.place ≡ q → s.file.now.bytes ≡ b
    → P s.place s.file.now.bytes → P q b
of_source P s q b place bytes h = subst (λ (m : List ℕ). P q m) bytes (subst (λ (r : PlacedSection). P r s.file.now.bytes) place h)

pub to_source : (P : PlacedSection → List ℕ → Type 0) (s : Source) (q : PlacedSection) (b : List ℕ) → s.place ≡ q → s.file.now.bytes ≡ b
    → P q b → P s.place s.file.now.bytes
to_source P s q b place bytes h =
    subst (λ (r : PlacedSection). P r s.file.now.bytes) (sym place) (subst (λ (m : List ℕ). P q m) (sym bytes) h)
