-- The fixup table of a planned link: its imports, own entries and libraries are those of a sound link, so they make a table, and the range
-- that is kept for the table has room.
use Rattle.std.proofs.Common.{◌≡◌, ℕ, List, map, length, refl, ap, ◌∙◌, arith, Vec, Global}
use Rattle.std.proofs.lemmas.List.{length-map}
use Rattle.macho_model.specs.declared.targets.Limit.TheVariants as limit
use Rattle.macho_model.specs.Links.{Link}
use Rattle.macho_model.specs.Needs.{imports_of}
use Rattle.macho_fixups.specs.declared.run.Fixup.{Fixup}
use Rattle.macho_fixups.specs.Calls.{AreEntries}
use Rattle.macho_symbols.specs.declared.solved.Import.{Import}
use Rattle.macho_symbols.specs.Told.{ImportsAre}
use Rattle.macho_linkedit.specs.declared.imports.ImportTable.{ImportTable}
use Rattle.macho_symbols.specs.declared.solved.OwnEntry.{OwnEntry}
use Rattle.macho_linkedit.specs.Imports.{texts, FitTable, AreOfLink, IsImportTable, AreTellable}
use Rattle.macho_symbols.specs.Entries.{entry_of}
use Rattle.macho_linkedit.specs.Runs.{IsRunOf}
use Rattle.macho_promise_laws.specs.Writing.{FitsRange, TableIsPut, text_of_range}
use Rattle.macho_promise_laws.specs.FoundEntries.{AreOfSoundLink}
use Rattle.macho_promise_laws.proofs.FoundEntries.{entries_fit, entries_of_link}
use Rattle.macho_promise_laws.proofs.Heads.{tables_follow}
use Rattle.macho_promise_laws.proofs.Plain.{imports_tellable}
use Rattle.macho_promise_laws.proofs.TableRooms.{tables_room}
use Rattle.macho_promise_laws.proofs.FoundTables.{runs_fit}
use Rattle.macho_refusal_laws.proofs.Refusals.{personalities_are_fit}
use Rattle.macho_linking.specs.declared.planned.Planned.{Planned}
use Rattle.macho_linking.specs.steps.Planned.{IsPlanned, placement_of, counts_of}
use Rattle.macho_linking.specs.steps.Written.{FixupsArePut}
use Rattle.macho_linking.proofs.Ready.{planned_soundly}

-- What was listed for the table of a planned link.
pub record AreListed (l : Link) (b : Planned) (imports : List Import) (own : List OwnEntry) (libraries : List (Vec ℕ Global)) : Type 0 where
  pub imports_are : ImportsAre l (imports_of l) imports
  pub own_are : map entry_of own ≡ b.read.now.needs.tables.own
  pub libraries_are : texts libraries ≡ map (λ text. text.items) b.libraries.now

of_sound_link : (l : Link) (b : Planned) (imports : List Import) (own : List OwnEntry) (libraries : List (Vec ℕ Global)) → IsPlanned l b
    → AreListed l b imports own libraries → AreOfSoundLink l (counts_of b) imports own libraries
of_sound_link l b imports own libraries h listed = record {
  objects = h.inputs.rules.0;
  sound = h.read.fit.sound;
  personalities = personalities_are_fit l h.read.fit.entries;
  counted = h.sized.counted;
  numbers = h.sized.limits.numbers;
  imports_are = listed.imports_are;
  own_are = listed.own_are ∙ h.read.needs.own;
  libraries_are = listed.libraries_are ∙ h.inputs.libraries;
}

pub fit_table : (l : Link) (b : Planned) (imports : List Import) (own : List OwnEntry) (libraries : List (Vec ℕ Global)) → IsPlanned l b
    → AreListed l b imports own libraries → FitTable imports own libraries
fit_table l b imports own libraries h listed =
    entries_fit l (counts_of b) imports own libraries (of_sound_link l b imports own libraries h listed)

pub are_of_link : (l : Link) (b : Planned) (imports : List Import) (own : List OwnEntry) (libraries : List (Vec ℕ Global)) → IsPlanned l b
    → AreListed l b imports own libraries → AreOfLink l imports own libraries
are_of_link l b imports own libraries h listed =
    entries_of_link l (counts_of b) imports own libraries (of_sound_link l b imports own libraries h listed)

-- there are few enough libraries that the imports can be told
pub are_tellable : (l : Link) (b : Planned) (imports : List Import) (own : List OwnEntry) (libraries : List (Vec ℕ Global)) → IsPlanned l b
    → AreListed l b imports own libraries → AreTellable l
are_tellable l b imports own libraries h listed =
    let few = (fit_table l b imports own libraries h listed).libraries_few in
    let same = ap length (listed.libraries_are ∙ h.inputs.libraries) in
    imports_tellable l h.inputs.rules.1 (omega (arith, few, same, length-map libraries (λ (text : Vec ℕ Global). text.items)))

-- the table has room in its range, and the range lies in the file
pub fits_range : (l : Link) (b : Planned) (run : List Fixup) (t : ImportTable) → IsPlanned l b → IsRunOf l (placement_of b) run
    → IsImportTable l t.format t.entries.items t.names.items → AreEntries t.format t.entries.items
    → FitsRange (placement_of b) run t (placement_of b).linkedit.signature.end
fits_range l b run t h run_is table entries =
    let sound = planned_soundly l b h in
    let follow = tables_follow l (counts_of b) (placement_of b) h.sized.placed in
    record {
      fits = runs_fit l (counts_of b) (placement_of b) run sound (h.sized.limits.pages limit.Pages) run_is;
      entries = entries;
      room = tables_room l (counts_of b) (placement_of b) run t.format t.entries.items t.names.items sound h.sized.counted run_is table;
      inside = omega (arith, follow.fixups.1, follow.signature);
    }

-- and once it is put there it says what it has to
pub fixups_put : (l : Link) (b : Planned) (run : List Fixup) (t : ImportTable) (old new : List ℕ)
    → IsImportTable l t.format t.entries.items t.names.items → AreEntries t.format t.entries.items → AreTellable l
    → TableIsPut (placement_of b) run t old new → FixupsArePut l (placement_of b) run old new
fixups_put l b run t old new table entries tellable put_is = record {
  text = text_of_range (placement_of b) run t;
  is = put_is.put_is;
  fits = omega (arith, put_is.long);
  says = record {
    imports = t;
    is = refl;
    of_link = record { table = table; entries = entries; long = put_is.long; within = put_is.within; reads = put_is.reads };
    tellable = tellable;
  };
}
