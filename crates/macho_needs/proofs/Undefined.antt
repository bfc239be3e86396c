-- What has no definition, from the walk over all uses and back: a use that names a symbol is a relocation that is read.
use Rattle.std.proofs.Common.{◌≡◌, ℕ, inl, inr, Bool, true, false, Option, Some, List, ◌++◌, map, refl, sym, ap, subst, ◌∙◌}
use Rattle.std.specs.Prelude.{filter, Contains, IsNone}
use Rattle.std.specs.List.{filter_map}
use Rattle.std.proofs.lemmas.List.Elements.{Contains-append_left, Contains-append_right, Contains-append_cases}
use Rattle.macho_records.specs.Symbols.{is_global}
use Rattle.macho_model.specs.Links.{Link}
use Rattle.macho_model.specs.Resolution.{SymbolId, entry_at, name_at, definition_of}
use Rattle.macho_model.specs.Needs.{RelocationId, relocation_in, carried_relocations, initializer_relocations, personality_relocations, symbol_of_relocation}
use Rattle.macho_model.specs.Consumed.{is_plain_pointer}
use Rattle.macho_model.specs.Faults.{IsUndefined}
use Rattle.macho_model.specs.Uses.{Use, ByName, uses_of, symbol_used, names_symbol}
use Rattle.macho_model.proofs.Uses.{by_relocation, by_initializer, by_personality, names_listed, uses_are}
use Rattle.macho_bytes.proofs.Members.{contains_filter_map, filter_map_contains, contains_map, map_contains, contains_filter, filter_contains}

abbrev symbol_at_use : Link → RelocationId → Option SymbolId
symbol_at_use l u = symbol_of_relocation l u.0 u.1

pub use_is_undefined : (l : Link) (name : List ℕ) (file : ℕ) (u : Use) (s : SymbolId) → Contains (uses_of l) u → names_symbol l u ≡ true
    → symbol_used l u ≡ Some s → is_global (entry_at l s) ≡ true → name_at l s ≡ name → s.file ≡ file → IsNone (definition_of l name)
    → IsUndefined l name file
use_is_undefined l name file u s there named used global is from none = (
  s,
  contains_filter (λ t. is_global (entry_at l t)) (filter_map (symbol_at_use l) (carried ++ filter plain (second ++ third))) s
      (kinds u (subst (λ us. Contains us u) (uses_are l) there) named used) global,
  is,
  from,
  none,
)
  where
    carried : List RelocationId
    carried = carried_relocations l

    second : List RelocationId
    second = initializer_relocations l

    third : List RelocationId
    third = personality_relocations l

    plain : RelocationId → Bool
    plain v = is_plain_pointer (relocation_in l v.0 v.1)

    Found : Type 0
    Found = Contains (filter_map (symbol_at_use l) (carried ++ filter plain (second ++ third))) s

    found : (v : RelocationId) → Contains (carried ++ filter plain (second ++ third)) v → symbol_at_use l v ≡ Some s → Found
    found v has is = contains_filter_map (symbol_at_use l) (carried ++ filter plain (second ++ third)) v s has is

    consumed : (v : RelocationId) → Contains (second ++ third) v → plain v ≡ true → symbol_at_use l v ≡ Some s → Found
    consumed v has is_plain is =
        found v (Contains-append_right carried (filter plain (second ++ third)) v
        (contains_filter plain (second ++ third) v has is_plain)) is

    kinds : (w : Use)
        → Contains (map by_relocation carried ++ map by_initializer second ++ map by_personality third ++ map ByName (names_listed l)) w
        → names_symbol l w ≡ true → symbol_used l w ≡ Some s → Found
    kinds w has named is =
        elim (Contains-append_cases (map by_relocation carried ++ map by_initializer second ++ map by_personality third)
        (map ByName (names_listed l)) w has) [
          | inr last ↦ by_name (map_contains ByName (names_listed l) w last)
          | inl three ↦ elim
              (Contains-append_cases (map by_relocation carried ++ map by_initializer second) (map by_personality third) w three) [
                | inr here ↦ by_third (map_contains by_personality third w here)
                | inl two ↦ elim (Contains-append_cases (map by_relocation carried) (map by_initializer second) w two) [
                  | inr here ↦ by_second (map_contains by_initializer second w here)
                  | inl here ↦ by_first (map_contains by_relocation carried w here)
                ]
              ]
        ]
      where
        by_name : ((n : List ℕ) × Contains (names_listed l) n × (ByName n ≡ w)) → Found
        by_name at = absurd (let no : false ≡ true = ap (names_symbol l) at.2 ∙ named in cc)

        by_third : ((v : RelocationId) × Contains third v × (by_personality v ≡ w)) → Found
        by_third at =
            consumed at.0 (Contains-append_right second third at.0 at.1) (ap (names_symbol l) at.2 ∙ named) (ap (symbol_used l) at.2 ∙ is)

        by_second : ((v : RelocationId) × Contains second v × (by_initializer v ≡ w)) → Found
        by_second at =
            consumed at.0 (Contains-append_left second third at.0 at.1) (ap (names_symbol l) at.2 ∙ named) (ap (symbol_used l) at.2 ∙ is)

        by_first : ((v : RelocationId) × Contains carried v × (by_relocation v ≡ w)) → Found
        by_first at =
            found at.0 (Contains-append_left carried (filter plain (second ++ third)) at.0 at.1) (ap (symbol_used l) at.2 ∙ is)

pub undefined_has_use : (l : Link) (name : List ℕ) (file : ℕ) → IsUndefined l name file
    → (u : Use) × (s : SymbolId) × Contains (uses_of l) u × (names_symbol l u ≡ true) × (symbol_used l u ≡ Some s)
    × (is_global (entry_at l s) ≡ true) × (name_at l s ≡ name) × (s.file ≡ file) × IsNone (definition_of l name)
undefined_has_use l name file undefined =
    let global =
    filter_contains (λ t. is_global (entry_at l t))
    (filter_map (symbol_at_use l) (carried ++ filter plain (second ++ third))) undefined.0
    undefined.1 in
    let at = filter_map_contains (symbol_at_use l) (carried ++ filter plain (second ++ third)) undefined.0 global.0 in
    let one = from at.0 at.1 in (
      one.0,
      undefined.0,
      subst (λ us. Contains us one.0) (sym (uses_are l)) one.1,
      one.2,
      one.3
          ∙ at.2,
      global.1,
      undefined.2,
      undefined.3,
      undefined.4,
    )
  where
    carried : List RelocationId
    carried = carried_relocations l

    second : List RelocationId
    second = initializer_relocations l

    third : List RelocationId
    third = personality_relocations l

    plain : RelocationId → Bool
    plain v = is_plain_pointer (relocation_in l v.0 v.1)

    kinds : List Use
    kinds = map by_relocation carried ++ map by_initializer second ++ map by_personality third ++ map ByName (names_listed l)

    From : RelocationId → Type 0
    From v = (u : Use) × Contains kinds u × (names_symbol l u ≡ true) × (symbol_used l u ≡ symbol_at_use l v)

    front : (u : Use) → Contains (map by_relocation carried ++ map by_initializer second ++ map by_personality third) u → Contains kinds u
    front u has =
        Contains-append_left (map by_relocation carried ++ map by_initializer second ++ map by_personality third)
        (map ByName (names_listed l)) u has

    from : (v : RelocationId) → Contains (carried ++ filter plain (second ++ third)) v → From v
    from v has = elim (Contains-append_cases carried (filter plain (second ++ third)) v has) [
      | inl first ↦ (
        by_relocation v,
        front (by_relocation v)
            (Contains-append_left (map by_relocation carried ++ map by_initializer second) (map by_personality third) (by_relocation v)
            (Contains-append_left (map by_relocation carried) (map by_initializer second) (by_relocation v)
            (contains_map by_relocation carried v first))),
        refl,
        refl,
      )
      | inr later ↦
          let kept = filter_contains plain (second ++ third) v later in
          elim (Contains-append_cases second third v kept.0) [
            | inl here ↦ (
              by_initializer v,
              front (by_initializer v)
                  (Contains-append_left (map by_relocation carried ++ map by_initializer second) (map by_personality third)
                  (by_initializer v)
                  (Contains-append_right (map by_relocation carried) (map by_initializer second) (by_initializer v)
                  (contains_map by_initializer second v here))),
              kept.1,
              refl,
            )
            | inr here ↦ (
              by_personality v,
              front (by_personality v)
                  (Contains-append_right (map by_relocation carried ++ map by_initializer second) (map by_personality third)
                  (by_personality v)
                  (contains_map by_personality third v here)),
              kept.1,
              refl,
            )
          ]
    ]
