-- The targets of names, of symbols and of relocations are of the link.
--
-- A name's definition is the first of its strong ones, else of its weak ones, else of its greatest commons: each is a symbol of the link,
-- global, with this name. So where it is a common, it is chosen. What a symbol leads to by itself is then the section that it
-- stands in, or its
-- number among the chosen commons; what it leads to by its name is that of the definition.
use Rattle.std.proofs.Common.{◌≡◌, ℕ, ◌<◌, ◌⊎◌, inl, inr, ◌==◌, ◌&&◌, not, nat_le, Bool, true, false, List, [], ◌∷◌, map, length, refl, sym, ap, subst, ◌∙◌, arith, eq-eqb}
use Rattle.std.specs.Prelude.{Contains, Option, Some, None, if◌then◌else◌}
use Rattle.std.specs.List.{position_or_len, list_all}
use Rattle.std.specs.Str.{bytes_eq}
use Rattle.macho_bytes.proofs.Members.{position_below}
use Rattle.macho_records.specs.Symbols.{is_common_of, is_stab_of, has_type, is_global}
use Rattle.macho_records.specs.declared.symbols.SymtabEntry.{SymtabEntry}
use Rattle.macho_records.specs.declared.constants.TheConstants.{N_ABS, N_UNDF, N_EXT}
use Rattle.macho_records.specs.Flags.{has_any}
use Rattle.macho_model.specs.Links.{Link}
use Rattle.macho_model.specs.Resolution.{SymbolId, Definition, Symbol, Library, ImageBase, symbols_of, entry_at, name_at, stands_in_carried, same_symbol, strong_of, commons_of, greatest_of, libraries_with, definition_of, is_symbol, chosen_commons, has_name}
use Rattle.macho_model.specs.steps.Resolved.{weak_of, first_or, is_strong, is_weak, DSO_HANDLE, first_definition}
use Rattle.macho_model.specs.LinkLaws.{is_chosen}
use Rattle.macho_model.specs.Targets.{own_target, definition_target, is_defined}
use Rattle.macho_model.specs.Uses.{target_with}
use Rattle.macho_placed_laws.specs.Targets.{IsOfLink, SymbolTargetsAreOfLink, NameTargetsAreOfLink}
use Rattle.macho_model.specs.Grammar.{ObjectsAreRead}
use Rattle.macho_placed_laws.proofs.OfLink.{carried_symbol}
use Rattle.macho_model.proofs.Definitions.{common_global, defined_by, common_is_chosen}
use Rattle.macho_model.proofs.CommonNumbers.{is_same}

-- what the symbol that defines a name leads to
own_of_link : (l : Link) (name : List ℕ) (s : SymbolId) → ObjectsAreRead l → definition_of l name ≡ Some (Symbol s)
    → is_defined (own_target l s) ≡ true
    → IsOfLink l (own_target l s)
own_of_link l name s read e moves = by (stands_in_carried l s) (has_type N_ABS (entry_at l s)) (is_common_of (entry_at l s)) refl refl refl
  where
    by : (x y z : Bool) → stands_in_carried l s ≡ x → has_type N_ABS (entry_at l s) ≡ y → is_common_of (entry_at l s) ≡ z
        → IsOfLink l (own_target l s)
    by true y z p q r = rw p (carried_symbol l s read (defined_by l name s e).there p)
    by false true z p q r =
        let moved : false ≡ true = rw (p, q) at moves in
        cc
    by false false true p q r = rw (p, q, r) (position_below (same_symbol s) (chosen_commons l) s (common_is_chosen l name s e r)
        (is_same s))
    by false false false p q r =
        let moved : false ≡ true = rw (p, q, r) at moves in
        cc

pub name_of_link : NameTargetsAreOfLink
name_of_link l noted name read moves = by (definition_of l name) refl moves
  where
    by : (d : Option Definition) → definition_of l name ≡ d → is_defined (definition_target l noted name d) ≡ true
        → IsOfLink l (definition_target l noted name d)
    by None e m = cc
    by (Some (Symbol s)) e m = own_of_link l name s read e m
    by (Some (Library file)) e m = cc
    by (Some ImageBase) e m = tt

-- a symbol that is not global leads into its own section
local_of_link : (l : Link) (s : SymbolId) → ObjectsAreRead l → Contains (symbols_of l) s → is_global (entry_at l s) ≡ false
    → is_defined (own_target l s) ≡ true → IsOfLink l (own_target l s)
local_of_link l s read there local moves =
    by (stands_in_carried l s) (has_type N_ABS (entry_at l s)) (is_common_of (entry_at l s)) refl refl refl
  where
    by : (x y z : Bool) → stands_in_carried l s ≡ x → has_type N_ABS (entry_at l s) ≡ y → is_common_of (entry_at l s) ≡ z
        → IsOfLink l (own_target l s)
    by true y z p q r = rw p (carried_symbol l s read there p)
    by false true z p q r =
        let moved : false ≡ true = rw (p, q) at moves in
        cc
    by false false true p q r =
        let both : false ≡ true = sym local ∙ common_global (entry_at l s) r in
        cc
    by false false false p q r =
        let moved : false ≡ true = rw (p, q, r) at moves in
        cc

pub symbol_of_link : SymbolTargetsAreOfLink
symbol_of_link l noted s read there moves = by (is_global (entry_at l s)) refl
  where
    by : (x : Bool) → is_global (entry_at l s) ≡ x → IsOfLink l (target_with l noted s)
    by true p = rw p (name_of_link l noted (name_at l s) read (rw p at moves))
    by false p = rw p (local_of_link l s read there p (rw p at moves))
