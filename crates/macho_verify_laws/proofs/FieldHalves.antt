-- Fields are decided, by the law of those that the loader writes.
--
-- A field needs a fixup or it needs none, and what it says in the file is said for the one case or the other: the case that it isn't in
-- asks nothing. So a field says its target and addend exactly where its own case does, and the law of its case decides it.
use Rattle.std.proofs.Common.{◌≡◌, ℕ, ◌+◌, Bool, true, false, List, refl, sym, ◌∙◌}
use Rattle.std.specs.Prelude.{Contains}
use Rattle.std.proofs.lemmas.Bool.{true≢false}
use Rattle.macho_model.specs.declared.placed.Counts.{Counts}
use Rattle.macho_model.specs.declared.placed.PlacedSection.{PlacedSection}
use Rattle.macho_model.specs.Links.{Link}
use Rattle.macho_model.specs.Fields.{Field, fields_of}
use Rattle.macho_model.specs.Placement.{Placed, id_of}
use Rattle.macho_model.specs.Values.{needs_fixup}
use Rattle.macho_model.specs.Stands.{Denotes}
use Rattle.macho_verify_laws.specs.Loads.{Always, Fails}
use Rattle.macho_verify_laws.specs.InFile.{FieldSays, WordLeads}
use Rattle.macho_verify_laws.specs.Laws.{IsAsked, FieldsDecide}
use Rattle.macho_verify_laws.proofs.PlainFields.{plain_fields_decide}

-- the law of a field that the loader writes: the word on the chain decides it
abbrev pub WrittenFieldsDecide : Type 0
WrittenFieldsDecide =
    (l : Link) (counts : Counts) (b : List ℕ) (p : Placed) (q : PlacedSection) (f : Field) → IsAsked l counts b p → Contains p.sections q
    → Contains (fields_of l (id_of q)) f → needs_fixup l (id_of q) f ≡ true
    → (WordLeads l b p (q.address + f.offset) f.target f.addend → Always l b (λ s choice. Denotes l b p s choice q f))
    × ((WordLeads l b p (q.address + f.offset) f.target f.addend → ⊥) → Fails l b (λ s choice. Denotes l b p s choice q f))

-- THE decision of fields, by that law.
pub fields_decide : WrittenFieldsDecide → FieldsDecide
fields_decide written l counts b p q f asked one field = by (needs_fixup l (id_of q) f) refl
  where
    by : (needs : Bool) → needs_fixup l (id_of q) f ≡ needs
        → (FieldSays l b p q f → Always l b (λ s choice. Denotes l b p s choice q f))
        × ((FieldSays l b p q f → ⊥) → Fails l b (λ s choice. Denotes l b p s choice q f))
    by true is =
        let law = written l counts b p q f asked one field is in (
          λ says. law.0 (says.written is),
          λ other. law.1 (λ leads. other (record { written = λ _. leads; plain = λ none. absurd (true≢false (sym is ∙ none)) })),
        )
    by false is =
        let law = plain_fields_decide l counts b p q f asked one field is in (
          λ says. law.0 (says.plain is),
          λ other. law.1 (λ plain. other (record { written = λ some. absurd (true≢false (sym some ∙ is)); plain = λ _. plain })),
        )
