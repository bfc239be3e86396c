-- Where a plain pointer to a symbol leads, and which imports are noted.
--
-- Which imports are noted tells the number of an import and nothing else, so it decides no question that treats all imports alike.
-- A plain pointer that is extern leads where its symbol does.
use Rattle.std.proofs.Common.{◌≡◌, ℕ, Bool, true, false, ◌==◌, if◌then◌else◌, List, Option, Some, None, refl, ap, ◌∙◌, arith}
use Rattle.std.proofs.lemmas.Bool.Decides.{nat_tests}
use Rattle.std.specs.List.{position_or_len}
use Rattle.std.specs.Str.{bytes_eq}
use Rattle.macho_wire.specs.declared.relocations.RelocationInfo.{RelocationInfo}
use Rattle.macho_records.specs.Symbols.{is_global}
use Rattle.macho_model.specs.declared.targets.Target.{Target}
use Rattle.macho_model.specs.declared.targets.Target.TheVariants as target
use Rattle.macho_model.specs.Links.{Link, SectionId}
use Rattle.macho_model.specs.Resolution.{SymbolId, Definition, Symbol, Library, ImageBase, entry_at, name_at, definition_of}
use Rattle.macho_model.specs.Needs.{relocation_in, imports_of}
use Rattle.macho_model.specs.Targets.{target_of, target_of_relocation, own_target, definition_target}
use Rattle.macho_model.specs.Uses.{target_with}
use Rattle.macho_model.specs.Consumed.{is_plain_pointer}
use Rattle.macho_symbols.specs.Kept.{symbol_id}

pub record IsBlind (f : Target → Bool) : Type 0 where
  pub imports : (i j : ℕ) → f (target.Import i) ≡ f (target.Import j)

defined_alike : (f : Target → Bool) → IsBlind f → (l : Link) (n m : List (List ℕ)) (name : List ℕ) (d : Option Definition)
    → f (definition_target l n name d) ≡ f (definition_target l m name d)
defined_alike f blind l n m name None = refl
defined_alike f blind l n m name (Some (Symbol s)) = refl
defined_alike f blind l n m name (Some (Library file)) =
    blind.imports (position_or_len (bytes_eq name) n) (position_or_len (bytes_eq name) m)
defined_alike f blind l n m name (Some ImageBase) = refl

pub alike : (f : Target → Bool) → IsBlind f → (l : Link) (n m : List (List ℕ)) (s : SymbolId)
    → f (target_with l n s) ≡ f (target_with l m s)
alike f blind l n m s = by (is_global (entry_at l s))
  where
    by : (t : Bool) → f (if t then definition_target l n (name_at l s) (definition_of l (name_at l s)) else own_target l s)
        ≡ f (if t then definition_target l m (name_at l s) (definition_of l (name_at l s)) else own_target l s)
    by true = defined_alike f blind l n m (name_at l s) (definition_of l (name_at l s))
    by false = refl

-- a pointer to a symbol
plain_type : (r : RelocationInfo) → is_plain_pointer r ≡ true → (r.r_type == 10) ≡ false
plain_type r plain = grind (arith, nat_tests, plain)

pub pointer_leads : (l : Link) (s : SectionId) (r : ℕ) → is_plain_pointer (relocation_in l s r) ≡ true
    → (relocation_in l s r).r_extern ≡ true
    → target_of_relocation l s r ≡ target_with l (imports_of l) (symbol_id s.file (relocation_in l s r).r_symbolnum)
unfolding target_of_relocation target_of
pointer_leads l s r plain extern = rw (extern, plain_type (relocation_in l s r) plain) refl

pub pointer_tells : (f : Target → Bool) → IsBlind f → (l : Link) (n : List (List ℕ)) (s : SectionId) (r : ℕ)
    → is_plain_pointer (relocation_in l s r) ≡ true
    → (relocation_in l s r).r_extern ≡ true → f (target_of_relocation l s r) ≡ f (target_with l n (symbol_id s.file
    (relocation_in l s r).r_symbolnum))
pointer_tells f blind l n s r plain extern =
    ap f (pointer_leads l s r plain extern) ∙ alike f blind l (imports_of l) n (symbol_id s.file (relocation_in l s r).r_symbolnum)
