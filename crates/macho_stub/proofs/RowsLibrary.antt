-- The library that the small text of `Rows` makes. Its one document keeps the rules: it is for the target, has a current
-- version and no group of reexported libraries. So the text makes the library that is written down here
-- (`small_is_stub`), and what the document says are slices of the text (`small_document_stands`).
use Rattle.std.proofs.Common.{[], ◌∷◌, refl, arith}
use Rattle.std.specs.List.{AllByRecursion}
use Rattle.std.specs.Prelude.{codes}
use Rattle.macho_stub.specs.Documents.{document_texts}
use Rattle.macho_stub.specs.Library.{LibraryFields, has_target}
use Rattle.macho_stub.specs.Answer.{IsStub, DocumentStands}
use Rattle.macho_stub.proofs.Trees.{in_grammar}
use Rattle.macho_stub.proofs.TreesStand.{text_stands}
use Rattle.macho_stub.proofs.Rows.{small, small_says, small_in_grammar}

abbrev pub small_library : LibraryFields
small_library = record { install_name = codes "/l"; current_version = codes "1"; symbols = codes "_a" ∷ []; weak_symbols = [] }

-- The document keeps the rules, and makes this library.
pub small_is_stub : IsStub small small_library
unfolding has_target
small_is_stub = record {
  main = document_texts small_says;
  others = [];
  in_grammar = in_grammar small (small_says ∷ []) small_in_grammar;
  sound = (
    λ e. absurd cc,
    (
      λ e. absurd cc,
      (
        λ many. omega (arith, many),
        (λ any. let some = any.2 in omega (arith, some), (λ other. other refl, (λ other. other.0 refl, tt))),
      ),
    ),
  );
  install_name = refl;
  current_version = refl;
  symbols = refl;
  weak_symbols = refl;
}

-- Each text of the document stands in it at its place.
pub small_document_stands : AllByRecursion (DocumentStands small) (small_says ∷ [])
small_document_stands = text_stands small (small_says ∷ []) small_in_grammar
