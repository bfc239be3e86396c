-- A record that breaks a rule of its own is one that the file breaks, at the record's place: the commands are passed by then, the
-- two that tell of records among them, and so are the symbol table and the section's table of relocations.
use Rattle.std.proofs.Common.{◌≡◌, true, false, Bool, ℕ, ◌<◌, ◌==◌, List, length, inl, inr, arith, refl, ap}
use Rattle.macho_model.specs.steps.RecordTests.{relocations_inside}
use Rattle.macho_records.specs.declared.constants.TheConstants.{LC_ID_DYLIB, LC_SEGMENT_64, LC_SYMTAB}
use Rattle.macho_model.specs.declared.rules.ObjectRule.{ObjectRule}
use Rattle.macho_model.specs.declared.rules.ObjectRule.TheVariants.{O5, O6, O7, O8, O9, O10, O11, O12, O13, O14}
use Rattle.macho_model.specs.Commands.{command_fits}
use Rattle.macho_model.specs.Objects.{section_at, section_place, num_symbols, symbol_place, relocation_place}
use Rattle.macho_model.specs.ObjectRules.{needed_in_object, needed_in_dylib, has_one}
use Rattle.macho_model.specs.Grammar.{ObjectBreaks, DylibBreaks, AreWhole}
use Rattle.macho_object.specs.steps.Checks.{SectionBreaks, SymbolBreaks, NameBreaks, RelocationBreaks}
use Rattle.macho_object.specs.steps.Outlines.{HasCommands, IsOutlined}
use Rattle.macho_object.specs.Views.{section_count}
use Rattle.macho_object.specs.declared.outline.Outline.{Outline}
use Rattle.macho_object.specs.declared.outline.Places.{Places}

-- the commands of an object, or of a library, are whole, and the two that tell of its records stand once
abbrev HasOneEach : List ℕ → Type 0
HasOneEach b = AreWhole b (command_fits (needed_in_object b) b) × ((has_one LC_SEGMENT_64 b ≡ true) × (has_one LC_SYMTAB b ≡ true))

abbrev pub NamesItself : List ℕ → Type 0
NamesItself b = AreWhole b (command_fits needed_in_dylib b) × ((has_one LC_ID_DYLIB b ≡ true) × (has_one LC_SYMTAB b ≡ true))

-- so they do where they were passed
whole_object : (b : List ℕ) (p : Places) (dyn : Bool) → HasCommands dyn b p → dyn ≡ false → HasOneEach b
whole_object b p false h is = ((h.inside, h.each), (ap (λ cs. length cs == 1) h.main_only, h.one_symtab))
whole_object b p true h is = absurd cc

pub whole_library : (b : List ℕ) (p : Places) (dyn : Bool) → HasCommands dyn b p → dyn ≡ true → NamesItself b
whole_library b p true h is = ((h.inside, h.each), (ap (λ cs. length cs == 1) h.main_only, h.one_symtab))
whole_library b p false h is = absurd cc

-- a file whose sections are read is an object
has_sections : (dyn : Bool) (b : List ℕ) (n k : ℕ) → n ≡ section_count dyn b → k < n → dyn ≡ false
has_sections false b n k is lt = refl
has_sections true b n k is lt = absurd (omega (arith, is, lt))

pub section_breaks : (o : Outline) (rule : ObjectRule) (place k : ℕ) → IsOutlined o → k < o.num_sections
    → place ≡ section_place o.input.now k → SectionBreaks o.input.now k rule → ObjectBreaks o.input.now rule place
section_breaks o rule place k known lt at h =
    breaks rule (whole_object b o.places o.is_dynamic known.commands (has_sections o.is_dynamic b o.num_sections k known.sections_is lt)) h
  where
    b : List ℕ
    b = o.input.now

    breaks : (rule : ObjectRule) → HasOneEach b → SectionBreaks b k rule → ObjectBreaks b rule place
    breaks O6 (whole, once) h = (whole, once, inl (k, (known.sections k lt).among, at, h))
    breaks O7 (whole, once) h = (whole, once, inl (k, (known.sections k lt).among, at, h))
    breaks O10 (whole, once) h = (whole, once, inl (k, (known.sections k lt).among, at, h))
    breaks O11 (whole, once) h = (whole, once, inl (k, (known.sections k lt).among, at, h))
    breaks O12 (whole, once) h = (whole, once, inl (k, (known.sections k lt).among, at, h))
    breaks _ both h = absurd h

pub symbol_breaks : (o : Outline) (rule : ObjectRule) (place k : ℕ) → IsOutlined o → o.is_dynamic ≡ false → k < num_symbols o.input.now
    → place ≡ symbol_place o.input.now k → SymbolBreaks o.input.now k rule → ObjectBreaks o.input.now rule place
symbol_breaks o rule place k known object lt at h = breaks rule (whole_object b o.places o.is_dynamic known.commands object) h
  where
    b : List ℕ
    b = o.input.now

    breaks : (rule : ObjectRule) → HasOneEach b → SymbolBreaks b k rule → ObjectBreaks b rule place
    breaks O5 (whole, once) h = (whole, once, inr (inl (known.tables, k, lt, at, h)))
    breaks O8 (whole, once) h = (whole, once, inr (inl (known.tables, k, lt, at, h)))
    breaks O9 (whole, once) h = (whole, once, inr (inl (known.tables, k, lt, at, h)))
    breaks O13 (whole, once) h = (whole, once, inr (inl (known.tables, k, lt, at, h)))
    breaks O14 (whole, once) h = (whole, once, inr (inl (known.tables, k, lt, at, h)))
    breaks _ both h = absurd h

pub name_breaks : (o : Outline) (rule : ObjectRule) (place k : ℕ) → IsOutlined o → o.is_dynamic ≡ true → k < num_symbols o.input.now
    → place ≡ symbol_place o.input.now k → NameBreaks o.input.now k rule → DylibBreaks o.input.now rule place
name_breaks o rule place k known library lt at h = breaks rule (whole_library b o.places o.is_dynamic known.commands library) h
  where
    b : List ℕ
    b = o.input.now

    breaks : (rule : ObjectRule) → NamesItself b → NameBreaks b k rule → DylibBreaks b rule place
    breaks O9 (whole, once) h = (whole, once, inl (known.tables, k, lt, at, h))
    breaks O13 (whole, once) h = (whole, once, (known.tables, k, lt, at, h))
    breaks _ both h = absurd h

pub relocation_breaks : (o : Outline) (rule : ObjectRule) (place k r : ℕ) → IsOutlined o → k < o.num_sections
    → relocations_inside o.input.now k ≡ true → r < (section_at o.input.now k).nreloc
    → place ≡ relocation_place o.input.now k r → RelocationBreaks o.input.now k r rule → ObjectBreaks o.input.now rule place
relocation_breaks o rule place k r known lt inside more at h =
    breaks rule (whole_object b o.places o.is_dynamic known.commands (has_sections o.is_dynamic b o.num_sections k known.sections_is lt)) h
  where
    b : List ℕ
    b = o.input.now

    breaks : (rule : ObjectRule) → HasOneEach b → RelocationBreaks b k r rule → ObjectBreaks b rule place
    breaks O5 (whole, once) h = (whole, once, inr (inr (k, r, (known.sections k lt).among, inside, more, at, h)))
    breaks O10 (whole, once) h = (whole, once, inr (inr (k, r, (known.sections k lt).among, inside, more, at, h)))
    breaks _ both h = absurd h
