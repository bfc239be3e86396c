-- Laws of links. Every definition of resolution reads the inputs alone, so it is a function of them: equal inputs give equal
-- answers (`ap` over the inputs). Imports, slots and stubs read the export lists too. One input more is numbered by how many
-- there were, so what is gathered by input grows at its end.
use Rattle.std.proofs.Common.{◌≡◌, ℕ, suc, ◌+◌, List, [], ◌∷◌, ◌++◌, length, refl, ap, ◌∙◌, arith}
use Rattle.std.specs.List.{flat_map, enumerate_from}
use Rattle.std.proofs.lemmas.Grind.{flat_map-append}
use Rattle.std.proofs.lemmas.List.{append-nil}
use Rattle.macho_model.specs.Links.{Input, sections_of_file, sections_of, carried_of}
use Rattle.macho_model.specs.Resolution.{symbols_of_file, symbols_of, strong_of, commons_of, greatest_of, libraries_with, definition_of, chosen_commons}
use Rattle.macho_model.specs.Needs.{initializer_sections, unwind_sections, carried_relocations, initializer_relocations, personality_relocations, imports_of}
use Rattle.macho_model.specs.Targets.{target_of, target_of_relocation, slots_of, stubs_of}
use Rattle.macho_model.specs.Uses.{target_with}
use Rattle.macho_model.specs.LinkLaws.{DefinitionsAgree, NotedTargetsAgree, CommonsAgree, CarriedAgree, ImportsAgree, SlotsAgree, StubsAgree, AllAreNoted, SymbolsGrow, SectionsGrow}

pub definitions_agree : DefinitionsAgree
unfolding symbols_of strong_of commons_of greatest_of libraries_with definition_of
definitions_agree l m name same = ap (λ (xs : List Input). definition_of (record l { inputs = xs }) name) same

pub commons_agree : CommonsAgree
unfolding symbols_of strong_of commons_of greatest_of libraries_with definition_of chosen_commons
commons_agree l m same = ap (λ (xs : List Input). chosen_commons (record l { inputs = xs })) same

pub noted_targets_agree : NotedTargetsAgree
unfolding symbols_of strong_of commons_of greatest_of libraries_with definition_of chosen_commons
noted_targets_agree l m noted s same = ap (λ (xs : List Input). target_with (record l { inputs = xs }) noted s) same

pub carried_agree : CarriedAgree
unfolding sections_of carried_of
carried_agree l m same = ap (λ (xs : List Input). carried_of (record l { inputs = xs })) same

pub imports_agree : ImportsAgree
unfolding symbols_of strong_of commons_of greatest_of libraries_with definition_of sections_of carried_of initializer_sections
    unwind_sections carried_relocations initializer_relocations personality_relocations imports_of
imports_agree l m same lists =
    ap (λ (xs : List Input). imports_of (record l { inputs = xs })) same
    ∙ ap (λ (texts : List (List ℕ)). imports_of (record l { inputs = m.inputs; export_lists = texts })) lists

pub slots_agree : SlotsAgree
unfolding symbols_of strong_of commons_of greatest_of libraries_with definition_of chosen_commons sections_of carried_of
    initializer_sections unwind_sections carried_relocations initializer_relocations personality_relocations imports_of target_of
    target_of_relocation slots_of
slots_agree l m same lists =
    ap (λ (xs : List Input). slots_of (record l { inputs = xs })) same
    ∙ ap (λ (texts : List (List ℕ)). slots_of (record l { inputs = m.inputs; export_lists = texts })) lists

pub stubs_agree : StubsAgree
unfolding symbols_of strong_of commons_of greatest_of libraries_with definition_of chosen_commons sections_of carried_of
    initializer_sections unwind_sections carried_relocations initializer_relocations personality_relocations imports_of target_of
    target_of_relocation stubs_of
stubs_agree l m same lists =
    ap (λ (xs : List Input). stubs_of (record l { inputs = xs })) same
    ∙ ap (λ (texts : List (List ℕ)). stubs_of (record l { inputs = m.inputs; export_lists = texts })) lists

pub all_are_noted : AllAreNoted
unfolding target_of
all_are_noted l s = refl

-- the numbers of a list and one element more
pub enumerate_more : {X : Type 0} (n : ℕ) (xs : List X) (x : X)
    → enumerate_from n (xs ++ x ∷ []) ≡ enumerate_from n xs ++ (n + length xs, x) ∷ []
enumerate_more n [] x = ap (λ k. (k, x) ∷ []) (omega arith)
enumerate_more n (y ∷ xs) x =
    let same : n + 1 + length xs ≡ n + suc (length xs) = omega arith in
    ap (λ ys. (n, y) ∷ ys) (enumerate_more (n + 1) xs x ∙ ap (λ k. enumerate_from (n + 1) xs ++ (k, x) ∷ []) same)

-- what is gathered by input, of one input more
gathered_more : {X : Type 0} (f : ℕ → Input → List X) (inputs : List Input) (x : Input)
    → flat_map (λ i. f i.0 i.1) (enumerate_from 0 (inputs ++ x ∷ [])) ≡ flat_map (λ i. f i.0 i.1) (enumerate_from 0 inputs)
    ++ f (length inputs) x
gathered_more {X = X} f inputs x =
    ap (flat_map (λ i. f i.0 i.1)) (enumerate_more 0 inputs x)
    ∙ flat_map-append (λ i. f i.0 i.1) (enumerate_from 0 inputs) ((0 + length inputs, x) ∷ [])
    ∙ ap (λ (ys : List X). flat_map (λ i. f i.0 i.1) (enumerate_from 0 inputs) ++ ys)
    (append-nil (f (0 + length inputs) x) ∙ ap (λ (n : ℕ). f n x) (omega arith))

pub symbols_grow : SymbolsGrow
unfolding symbols_of
symbols_grow l x = gathered_more symbols_of_file l.inputs x

pub sections_grow : SectionsGrow
unfolding sections_of
sections_grow l x = gathered_more sections_of_file l.inputs x
