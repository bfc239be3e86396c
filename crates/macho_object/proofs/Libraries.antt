-- A library's install name stands in the one command of that number.
use Rattle.std.proofs.Common.{◌≡◌, ℕ, List, [], ◌∷◌, refl, ap, true, false, ◌<◌, inr, length, get_or, ◌==◌, arith}
use Rattle.std.proofs.lemmas.List.Elements.{All-cons, All-nil, All-same}
use Rattle.macho_bytes.specs.Layouts.{reading}
use Rattle.macho_bytes.specs.Texts.{name_of}
use Rattle.macho_records.specs.Layouts.{load_command}
use Rattle.macho_records.specs.CommandLayouts.{dylib_command}
use Rattle.macho_model.specs.Commands.{numbered, path_of, Command, command_at}
use Rattle.macho_model.specs.Objects.{install_name_of, num_symbols}
use Rattle.macho_model.specs.ObjectRules.{path_ends}
use Rattle.macho_model.specs.Grammar.{DylibBreaks}
use Rattle.macho_model.specs.ObjectLaws.{KeepsDylibRules}
use Rattle.macho_model.specs.declared.rules.ObjectRule.TheVariants.{O9}
use Rattle.macho_model.specs.Lists.{of_first}
use Rattle.macho_object.specs.declared.outline.Outline.{Outline}
use Rattle.macho_object.specs.steps.Outlines.{IsOutlined, path_field_of}
use Rattle.macho_object.specs.steps.Checks.{NameFits}
use Rattle.macho_object.proofs.Breaks.{NamesItself}

-- both readings of the command's size are one
pub same_size : (b : List ℕ) (at : ℕ) → (reading dylib_command b at).cmdsize ≡ (reading load_command b at).cmdsize
unfolding reading
same_size b at = refl

-- the name is that in the one command
pub install_name_is : (b : List ℕ) (main : ℕ) → numbered 13 b ≡ command_at b main ∷ [] → install_name_of b ≡ name_of (path_field_of b main)
unfolding install_name_of
install_name_is b main only = ap (of_first [] (λ (c : Command). path_of b c (reading dylib_command b c.at).name_offset)) only

-- a path that does not end breaks the rule of names
pub path_breaks : (b : List ℕ) (main : ℕ) → numbered 13 b ≡ command_at b main ∷ [] → path_ends b (command_at b main) ≡ false
    → NamesItself b → DylibBreaks b O9 main
path_breaks b main only fails (whole, once) =
    (whole, once, inr (0, command_at b main, (omega (arith, ap length only), ap (λ cs. get_or cs 0 (command_at b main)) only), refl, fails))

-- a library that keeps every rule
pub is_library : (o : Outline) → IsOutlined o → o.is_dynamic ≡ true → path_ends o.input.now (command_at o.input.now o.places.main) ≡ true
    → ((k : ℕ) → k < num_symbols o.input.now → NameFits o.input.now k) → KeepsDylibRules o.input.now
is_library o known kind path names =
    let b = o.input.now in
    let only : numbered 13 b ≡ command_at b o.places.main ∷ [] = rw kind at known.commands.main_only in
    let head = rw kind at known.commands.head in
    let each = rw kind at known.commands.each in
    record {
      o1 = head;
      o2 = (known.commands.inside, each);
      o3 = (ap (λ cs. length cs == 1) only, ap (λ cs. length cs == 1) known.commands.symtab_only);
      o4 = known.tables;
      o9 = (
        λ k lt. (names k lt).ends,
        All-same (λ c. path_ends b c ≡ true) (numbered 13 b) (command_at b o.places.main ∷ []) only
            (All-cons (λ c. path_ends b c ≡ true) (command_at b o.places.main) [] path (All-nil (λ c. path_ends b c ≡ true))),
      );
      o13 = λ k lt. (names k lt).global;
    }
