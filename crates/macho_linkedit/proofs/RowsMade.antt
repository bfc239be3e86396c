-- A row of the symbol table is made of a symbol's entry.
--
-- The entry is that of the link's symbol. Whether lists contain the name is asked only of a global symbol, and only its type depends on it.
use Rattle.std.proofs.Common.{◌≡◌, ℕ, ◌&&◌, ◌||◌, not, Bool, true, false, List, refl, sym, ap, ◌∙◌}
use Rattle.std.specs.Prelude.{if◌then◌else◌}
use Rattle.macho_records.specs.Symbols.{is_hidden_of, is_global}
use Rattle.macho_records.specs.declared.symbols.SymtabEntry.{SymtabEntry}
use Rattle.macho_model.specs.declared.placed.Counts.{Counts}
use Rattle.macho_model.specs.Objects.{symbol_at, symbol_name}
use Rattle.macho_model.specs.Links.{Link}
use Rattle.macho_model.specs.Exports.{is_listed}
use Rattle.macho_model.specs.Resolution.{SymbolId, entry_at, name_at}
use Rattle.macho_model.specs.Placement.{Placed}
use Rattle.macho_symbols.specs.Kept.{symbol_id}
use Rattle.macho_linkedit.specs.declared.listing.LinkedObject.{LinkedObject}
use Rattle.macho_linkedit.specs.TableRows.{SymbolRow, row_of}
use Rattle.macho_linkedit.specs.Listing.{IsRowOf}
use Rattle.macho_linkedit.specs.steps.Listing.{common_type, placed_type_of, placed_description_of}
use Rattle.macho_model.specs.steps.SymbolEntries.{hidden_type}

-- a row of equal parts
same_row : (n m : List ℕ) (t u s r d e v w : ℕ) → n ≡ m → t ≡ u → s ≡ r → d ≡ e → v ≡ w
    → (let x : SymbolRow = record { name = n; type = t; section = s; description = d; value = v } in x)
    ≡ record { name = m; type = u; section = r; description = e; value = w }
same_row n m t u s r d e v w name type section description value = rw (name, type, section, description, value) refl

-- THE row
pub row_made : (l : Link) (counts : Counts) (p : Placed) (o : LinkedObject) (index : ℕ) (e : SymtabEntry) (name : List ℕ) (listed : Bool)
    (section address type description : ℕ)
    → e ≡ symbol_at o.file.bytes index → IsRowOf l counts p o index name listed section address
    → type ≡ placed_type_of e listed → description ≡ placed_description_of e
    → (let x : SymbolRow = record { name = name; type = type; section = section; description = description; value = address } in x)
    ≡ row_of l counts p (symbol_id o.number index)
row_made l counts p o index e name listed section address type description entry is type_is description_is =
    same_row name (name_at l s) type _ section _ description _ address _ named
    (type_is ∙ ap (λ (x : SymtabEntry). placed_type_of x listed) at
    ∙ ap (λ (t : Bool). if t then hidden_type (common_type (entry_at l s)) else common_type (entry_at l s))
    (inside (is_global (entry_at l s)) (is_hidden_of (entry_at l s)) listed (is_listed l (name_at l s)) kept))
    is.section_is (description_is ∙ ap placed_description_of at) is.address_is
  where
    s : SymbolId
    s = symbol_id o.number index

    at : e ≡ entry_at l s
    at = entry ∙ ap (λ (b : List ℕ). symbol_at b index) (sym is.bytes_are)

    named : name ≡ name_at l s
    named = is.name_is ∙ ap (λ (b : List ℕ). symbol_name b index) (sym is.bytes_are)

    kept : is_global (entry_at l s) ≡ true → listed ≡ is_listed l (name_at l s)
    kept global =
        is.listed_is (ap (λ (b : List ℕ). is_global (symbol_at b index)) (sym is.bytes_are) ∙ global)
        ∙ ap (λ (b : List ℕ). is_listed l (symbol_name b index)) (sym is.bytes_are)

    inside : (g h a b : Bool) → (g ≡ true → a ≡ b) → (g && (h || not a)) ≡ (g && (h || not b))
    inside true h a b same = ap (λ (t : Bool). h || not t) (same refl)
    inside false h a b same = refl
