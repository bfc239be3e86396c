-- The whole: of a composed image, what the branches need, and the image from what they give.
--
-- The premises are those of the parts. Contents lie where the load commands tell their tables, and a fixup table ends with its names;
-- so the zeros are known, and each section, common, slot and stub stands.
use Rattle.std.proofs.Common.{◌≡◌, ℕ, ◌+◌, ◌-◌, ◌≤◌, List, [], ◌∷◌, ◌++◌, length, get_or, refl, sym, ap, ◌∙◌, arith, All}
use Rattle.std.specs.Prelude.{Contains}
use Rattle.std.proofs.lemmas.List.Elements.{All-append, All-cons, All-nil, All-same, All-contains_itself}
use Rattle.macho_wire.specs.declared.fixups.ChainedFixupsHeader.{ChainedFixupsHeader}
use Rattle.macho_model.specs.declared.placed.Counts.{Counts}
use Rattle.macho_model.specs.declared.placed.Range64.{Range64}
use Rattle.macho_model.specs.Links.{Link}
use Rattle.macho_model.specs.Placement.{Placed, linkedit_ranges}
use Rattle.macho_model.specs.Images.{Table, tables_of, tries_of, symbol_tables_of, string_tables_of, signatures_of, fixups_header}
use Rattle.macho_model.specs.ImportTable.{names_text}
use Rattle.macho_model.specs.Agreement.{table_of_range, TablesAgree}
use Rattle.macho_fixups.specs.Laws.{ChainsAreTold}
use Rattle.macho_promise.specs.FixupsSay.{fixup_segments}
use Rattle.macho_model.specs.Fixups.{import_format}
use Rattle.macho_image_laws.specs.Composed.{FixupsAreWritten}
use Rattle.macho_image_laws.specs.Laws.{IsComposedOf, ComposedStands, ComposedChains, LinksLead}
use Rattle.macho_image_laws.proofs.Run.{table_read, chain_is_whole}
use Rattle.macho_image_laws.proofs.Rests.{RestsOn, IsReady, IsJoined, AreZero, IsLed}
use Rattle.macho_image_laws.proofs.Words.{slot_stands}
use Rattle.macho_image_laws.proofs.Content.{section_stands, common_stands, stub_stands}
use Rattle.macho_image_laws.proofs.TableLength.{table_long}
use Rattle.macho_image_laws.proofs.Leading.{link_leads}
use Rattle.macho_image_laws.proofs.ZeroBytes.{are_zero}

-- a composed image is one of a link that leads
pub led_of : (l : Link) (counts : Counts) (uuid b : List ℕ) (p : Placed) → IsComposedOf l counts uuid b p → IsLed l counts uuid b p
led_of l counts uuid b p h = record {
  placed = h.link.placed;
  sound = h.link.sound;
  leads = link_leads l h.link.objects h.link.sound.relocations h.link.personalities;
  composed = h.composed;
}

pub ready_of : (l : Link) (counts : Counts) (uuid b : List ℕ) (p : Placed) → IsLed l counts uuid b p → IsReady l counts p
ready_of l counts uuid b p h = record {
  placed = h.placed;
  sound = h.sound.relocations;
  leads = h.leads;
  order = h.composed.head.segments;
  ends = h.composed.head.room.memory;
}

pub joined_of : ChainsAreTold → (l : Link) (counts : Counts) (uuid b : List ℕ) (p : Placed) → IsLed l counts uuid b p → IsJoined l b p
joined_of told l counts uuid b p h = record {
  agree = h.composed.agrees.commands.segments;
  room = h.composed.head.room.file;
  chain = chain_is_whole told l b p h.composed.fixups h.composed.agrees.commands.segments;
  fixups = h.composed.fixups;
  imports = h.composed.imports;
}

-- the content of the fixup table lies in its range
fixups_lie : (l : Link) (b : List ℕ) (p : Placed) (w : FixupsAreWritten l b p) → TablesAgree b p
    → All (λ (t : Table). (t.at ≡ p.linkedit.fixups.start) × ((fixups_header b t).symbols_offset + length
    (names_text l) ≤ p.linkedit.fixups.end - p.linkedit.fixups.start)) (tables_of b)
fixups_lie l b p w agree =
    All-same P (tables_of b) (w.say.table ∷ []) w.say.one (All-cons P w.say.table [] here (All-nil P))
  where
    P : Table → Type 0
    P t = (t.at ≡ p.linkedit.fixups.start) × ((fixups_header b t).symbols_offset + length
        (names_text l) ≤ p.linkedit.fixups.end - p.linkedit.fixups.start)

    front : List Table → Table
    front [] = w.say.table
    front (t ∷ ts) = t

    same : w.say.table ≡ table_of_range p.linkedit.fixups
    same = ap front (sym w.say.one ∙ agree.fixups)

    here : (w.say.table.at ≡ p.linkedit.fixups.start) × ((fixups_header b w.say.table).symbols_offset + length
        (names_text l) ≤ p.linkedit.fixups.end - p.linkedit.fixups.start)
    here =
        let header = ap (λ (h : ChainedFixupsHeader). h.symbols_offset) (table_read l b p w).header in
        let long = table_long p.base w.say.fixups (fixup_segments p) (import_format l) w.entries (names_text l) in
        let size : w.say.table.size ≡ p.linkedit.fixups.end - p.linkedit.fixups.start = ap (λ (t : Table). t.size) same in
        (ap (λ (t : Table). t.at) same, omega (arith, header, long, size, w.room))

-- so do the others
tables_lie : (b : List ℕ) (p : Placed) → TablesAgree b p
    → All (λ (t : Table). (r : Range64) × Contains (linkedit_ranges p) r × (t.at ≡ r.start) × (t.size ≤ r.end - r.start))
    (tries_of b ++ symbol_tables_of b ++ string_tables_of b ++ signatures_of b)
tables_lie b p agree =
    All-append P (tries_of b ++ symbol_tables_of b ++ string_tables_of b) (signatures_of b)
    (All-append P (tries_of b ++ symbol_tables_of b) (string_tables_of b)
    (All-append P (tries_of b) (symbol_tables_of b)
    (one (tries_of b) (record { at = p.linkedit.trie.start; size = agree.trie_size }) agree.trie
    (p.linkedit.trie, (1, omega arith, refl), refl, omega (arith, agree.trie_fits)))
    (one (symbol_tables_of b) (table_of_range p.linkedit.symtab) agree.symbols
    (p.linkedit.symtab, (2, omega arith, refl), refl, omega arith)))
    (one (string_tables_of b) (table_of_range p.linkedit.strtab) agree.strings
    (p.linkedit.strtab, (3, omega arith, refl), refl, omega arith)))
    (one (signatures_of b) (table_of_range p.linkedit.signature) agree.signature
    (p.linkedit.signature, (4, omega arith, refl), refl, omega arith))
  where
    P : Table → Type 0
    P t = (r : Range64) × Contains (linkedit_ranges p) r × (t.at ≡ r.start) × (t.size ≤ r.end - r.start)

    one : (ts : List Table) (t : Table) → ts ≡ t ∷ [] → P t → All P ts
    one ts t is h = All-same P ts (t ∷ []) is (All-cons P t [] h (All-nil P))

zeros_of : (l : Link) (counts : Counts) (uuid b : List ℕ) (p : Placed) → IsLed l counts uuid b p → AreZero l b p
zeros_of l counts uuid b p h =
    are_zero l counts b p h.composed.content.unwind (record {
      placed = h.placed;
      order = h.composed.head.segments;
      head = h.composed.agrees.commands.head;
      text = h.composed.head.room.text;
      unwind_fits = h.composed.content.unwind_fits;
      fixups = fixups_lie l b p h.composed.fixups h.composed.agrees.tables;
      tables = tables_lie b p h.composed.agrees.tables;
    }) h.composed.head.room.file h.composed.content.zeros

-- THE chain
pub composed_chains : ChainsAreTold → ComposedChains
composed_chains told l counts uuid b p image = (joined_of told l counts uuid b p (led_of l counts uuid b p image)).chain

-- THE image stands.
pub composed_stands : RestsOn → ComposedStands
composed_stands rests l counts uuid b p image s choice whole binds =
    let h = led_of l counts uuid b p image in
    let ready = ready_of l counts uuid b p h in
    let joined = joined_of rests.chains l counts uuid b p h in
    let zeros = zeros_of l counts uuid b p h in
    let content = h.composed.content in
    record {
      sections = λ k d lt.
          section_stands rests l counts b p ready joined zeros s choice whole binds (get_or p.sections k d)
          (All-contains_itself p.sections k d lt) (content.sections k d lt);
      commons = λ k d lt. common_stands rests l counts b p ready joined zeros s choice (get_or p.commons k d)
          (All-contains_itself p.commons k d lt);
      slots = λ k d lt. slot_stands rests l counts b p ready joined s choice binds (get_or p.slots k d)
          (All-contains_itself p.slots k d lt);
      stubs = λ k d lt.
          stub_stands rests l counts b p ready joined s choice whole (get_or p.stubs k d) (All-contains_itself p.stubs k d lt)
          (content.stubs k d lt);
    }

-- THE link leads.
pub links_lead : LinksLead
links_lead l inputs sound fit = link_leads l inputs sound.relocations fit
