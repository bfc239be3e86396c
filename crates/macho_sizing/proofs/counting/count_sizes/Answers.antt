-- The numbers can be summed up, and are those that the sizes of the link depend on.
use Rattle.std.proofs.Common.{sym, ap, ◌∙◌, arith, List, length}
use Rattle.std.proofs.lemmas.List.{length-map}
use Rattle.macho_model.specs.Fixups.{EntryOfImport}
use Rattle.macho_linkedit.specs.Listing.{id_of_symbol}
use Rattle.macho_consumed.proofs.RowLaws.{are_many}
use Rattle.macho_sizing.proofs.counting.count_sizes.Goals as goal

pub count-requires : goal.count-requires
count-requires c = record {
  own_name = c.in_ok-check_names.ensures.path;
  libraries = c.in_ok-check_paths.ensures.short;
  rpaths = c.in_ok-check_paths-2.ensures.short;
  libraries_few = c.in_ok-check_paths.ensures.few;
  rpaths_few = c.in_ok-check_paths-2.ensures.few;
  numbers = (
    omega (arith, c.requires.counted.names, c.requires.within.names),
    omega (arith, c.requires.counted.entries, c.requires.within.imports, c.num_own.ensures),
    c.in_ok-check_names.ensures.name,
  );
}

pub returns : goal.returns
returns c l of_link imports unwind listed =
    c.count.ensures l (record {
      arguments = of_link.arguments;
      libraries = of_link.inputs.libraries;
      imports = imports;
      own = c.num_own.ensures ∙ ap (λ (es : List EntryOfImport). length es) of_link.read.needs.own;
      consumed = (
        ap length of_link.read.initializers ∙ sym (are_many l),
        unwind,
      );
      symbols = (
        ap length c.deref-listed.ensures.value ∙ sym (length-map c.args.symbols.now.symbols.items id_of_symbol)
            ∙ ap length listed.symbols_are,
        listed.strings_are,
      );
    })
