-- What the rules of an object or a library say of its names, sections, addresses and path.
use Rattle.std.proofs.Common.{◌≡◌, Bool, true, false, [], ◌∷◌, sym, refl, ◌∙◌, arith}
use Rattle.std.proofs.lemmas.Bool.{false≢true}
use Rattle.std.proofs.lemmas.List.Elements.{All-head, All-same}
use Rattle.macho_model.specs.Commands.{command_at, numbered}
use Rattle.macho_model.specs.ObjectRules.{path_ends}
use Rattle.macho_model.specs.Grammar.{IsFile}
use Rattle.macho_model.proofs.ObjectLaws.{object_keeps, dylib_keeps, kept_object, kept_dylib}
use Rattle.macho_object.specs.declared.outline.Outline.{Outline}
use Rattle.macho_object.specs.steps.Outlines.{IsOutlined}
use Rattle.macho_object.specs.steps.Wholes.{IsWhole}

of_kind : (o : Outline) (dyn : Bool) → o.is_dynamic ≡ dyn → IsOutlined o → IsFile o.is_dynamic o.input.now → IsFile dyn o.input.now
    → IsWhole o
of_kind o false kind known file object =
    let keeps = object_keeps object in
    record {
      outlined = known;
      kept = file;
      names = keeps.o9;
      sections = λ k lt. let among = (known.sections k lt).among in
          record {
            data_fits = keeps.o6 k among;
            exponent = keeps.o7 k among;
            relocations = keeps.o10.0 k among;
            thread_local = keeps.o11 k among;
            zerofill = keeps.o12 k among;
          };
      addresses = λ _ k lt. record { section = keeps.o5.0 k lt; value = keeps.o8 k lt };
      path = λ other. absurd (false≢true (sym kind ∙ other));
    }
of_kind o true kind known file library =
    let b = o.input.now in
    let only : numbered 13 b ≡ command_at b o.places.main ∷ [] = rw kind at known.commands.main_only in
    let keeps = dylib_keeps library in
    record {
      outlined = known;
      kept = file;
      names = keeps.o9.0;
      sections = λ k lt. let none = rw kind at known.sections_is in absurd (omega (arith, none, lt));
      addresses = λ other. absurd (false≢true (sym other ∙ kind));
      path = λ _. All-head (λ c. path_ends b c ≡ true) (command_at b o.places.main) []
          (All-same (λ c. path_ends b c ≡ true) (command_at b o.places.main ∷ []) (numbered 13 b) (sym only) keeps.o9.1);
    }

-- an outlined file that keeps every rule
pub is_whole : (o : Outline) → IsOutlined o → IsFile o.is_dynamic o.input.now → IsWhole o
is_whole o known file = of_kind o o.is_dynamic refl known file file

pub ruleset kept = (kept_object, kept_dylib)
