-- The rules on what the documents of a stub text say, and which of several that are broken is told.
use Rattle.std.specs.Prelude.{◌≡◌, ◌≢◌, ℕ, ◌<◌, false, List, [], ◌∷◌, ◌++◌, length, codes}
use Rattle.std.specs.List.{AllByRecursion, Any, Contains, flat_map}
use Rattle.macho_stub_lines.specs.declared.fault.StubRule.{StubRule}
use Rattle.macho_stub_lines.specs.declared.fault.StubRule.TheVariants.{S2, S4, S5, S6, S7, S8, S9}
use Rattle.macho_stub.specs.Documents.{ItemFields, DocumentFields}
use Rattle.macho_stub.specs.Library.{has_target}

-- THE rules, each with a row that says when a document breaks it. S5 to S8 are of the main library alone: it must be for the
-- target, have a current version, and have at most one item of reexported libraries, which is for the target. S4 and S9 are
-- of each document: it must have version 4, and say what the main one says or be one of its reexported libraries.
abbrev pub Breaks : StubRule → (main document : DocumentFields) → Type 0
Breaks S5 main document = has_target main.targets ≡ false
Breaks S6 main document = main.current_version ≡ []
Breaks S7 main document = 1 < length main.libraries
Breaks S8 main document = Any (λ (item : ItemFields). has_target item.targets ≡ false) main.libraries
Breaks S4 main document = document.version ≢ codes "4"
Breaks S9 main document =
    (document ≡ record main { line = document.line } → ⊥)
    × (Any (λ (item : ItemFields). Contains item.names document.install_name) main.libraries → ⊥)
Breaks rule main document = ⊥

-- the rules on documents, each with the document that it is of, in the order in which they are told
abbrev pub rules_of : DocumentFields → List DocumentFields → List (StubRule × DocumentFields)
rules_of main documents =
    (S5, main) ∷ (S6, main) ∷ (S7, main) ∷ (S8, main)
    ∷ flat_map (λ document. (S4, document) ∷ (S9, document) ∷ []) documents

-- The rule that is told of the documents, and its line: S2 at line 1 where there is none; else the first broken rule on what they say, at
-- the first line of its document.
abbrev pub IsTold : StubRule → ℕ → List DocumentFields → Type 0
IsTold rule line [] = (rule ≡ S2) × (line ≡ 1)
IsTold rule line (main ∷ others) =
    (before : List (StubRule × DocumentFields)) × (document : DocumentFields) × (behind : List (StubRule × DocumentFields))
    × (rules_of main (main ∷ others) ≡ before ++ (rule, document) ∷ behind)
    × AllByRecursion (λ rule. Breaks rule.0 main rule.1 → ⊥) before × Breaks rule main document × (line ≡ document.line)
