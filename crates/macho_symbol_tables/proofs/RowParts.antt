-- The parts of a symbol's row, as they are looked up: its name, its section, its address.
use Rattle.std.proofs.Common.{◌≡◌, ℕ, ◌<◌, Bool, false, ap, ◌∙◌}
use Rattle.macho_model.specs.declared.placed.Counts.{Counts}
use Rattle.macho_model.specs.Objects.{num_symbols, symbol_at}
use Rattle.macho_model.specs.Links.{Link, object_of}
use Rattle.macho_model.specs.Targets.{own_target, target_of}
use Rattle.macho_model.specs.Placement.{Placed}
use Rattle.macho_model.specs.Addresses.{address_of}
use Rattle.macho_model.specs.SymbolEntries.{entry_section}
use Rattle.macho_symbols.specs.Kept.{symbol_id}
use Rattle.macho_fields.specs.Looks.{Look, wrapped_in}
use Rattle.macho_linkedit.specs.declared.listing.LinkedObject.{LinkedObject}
use Rattle.macho_symbol_tables.specs.Placed.{IsToTable}
use Rattle.macho_symbol_tables.specs.steps.Sections.{section_told}
use Rattle.macho_symbol_tables.proofs.Addressed.{told_address}
use Rattle.macho_symbol_tables.proofs.TableRows.{IsInTable, own_is, section_is}

-- the section that a view tells
pub section_seen : (l : Link) (counts : Counts) (p : Placed) (look : Look) (o : LinkedObject) (index : ℕ) → IsToTable l counts p look
    → object_of l o.number ≡ o.file.bytes
    → o.file.is_dynamic ≡ false → IsInTable l (symbol_id o.number index)
    → section_told p o.file (symbol_at o.file.bytes index) ≡ entry_section l counts (symbol_id o.number index)
section_seen l counts p look o index to bytes kind in_it =
    ap (λ (d : Bool). section_told p (record { bytes = o.file.bytes; is_dynamic = d }) (symbol_at o.file.bytes index)) kind
    ∙ section_is l counts p o.number index o.file.bytes to.objects to.placed bytes in_it

-- the address that look-ups tell
pub address_seen : (l : Link) (counts : Counts) (p : Placed) (look : Look) (file index : ℕ) → IsToTable l counts p look
    → index < num_symbols (object_of l file)
    → IsInTable l (symbol_id file index)
    → wrapped_in look (look.target file index) ≡ address_of p (own_target l (symbol_id file index))
address_seen l counts p look file index to lt in_it =
    ap (wrapped_in look) (to.tells.targets file index lt)
    ∙ told_address p look (target_of l (symbol_id file index)) to.tells.addresses
    (λ moves. to.fit.symbols (symbol_id file index) in_it.there moves)
    ∙ ap (address_of p) (own_is l (symbol_id file index) in_it)
