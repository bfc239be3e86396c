-- The loader accepts a composed image.
--
-- The first seven rules are those of the head. The one table is taken where it stands, with the base and the segments of the file, and
-- its entries fit. Each word of a page's chain is that of a fixup there: of a slot, or of a pointer in a segment that may hold one, so in
-- a segment that may be written to, since an address lies in the file part of one segment; and an import that it tells has an entry.
use Rattle.std.proofs.Common.{◌≡◌, ℕ, ◌+◌, ◌/◌, ◌%◌, ◌^◌, ◌<◌, ◌≤◌, ◌⊎◌, ◌==◌, ◌&&◌, if◌then◌else◌, not, Bool, true, false, List, [], ◌∷◌, length, get_or, map, refl, sym, ap, subst, ◌∙◌, arith, inl, inr, All}
use Rattle.std.specs.Prelude.{Contains}
use Rattle.std.specs.List.{enumerate_from}
use Rattle.std.specs.Str.{bytes_eq}
use Rattle.std.proofs.lemmas.Bool.{cases_Bool, and_parts, or_cases, eqb-true, true≢false, ne_eqb}
use Rattle.std.proofs.lemmas.List.{get_or-map, length-map, get_or_default}
use Rattle.std.proofs.lemmas.List.Elements.{All-contains, All-same, All-cons, All-nil}
use Rattle.macho_bytes.specs.Texts.{name_of}
use Rattle.macho_records.specs.Sections.{is_zerofill, segment_name_of}
use Rattle.macho_records.specs.Segments.{text_of}
use Rattle.macho_records.specs.declared.header.SegmentCommand.{SegmentCommand}
use Rattle.macho_model.specs.declared.placed.Counts.{Counts}
use Rattle.macho_model.specs.declared.placed.PlacedSegment.{PlacedSegment}
use Rattle.macho_model.specs.declared.placed.Slot.{Slot}
use Rattle.macho_model.specs.declared.targets.Target.{Target}
use Rattle.macho_model.specs.declared.targets.Target.TheVariants as target
use Rattle.macho_model.specs.Lists.{IsNumber}
use Rattle.macho_model.specs.Links.{Link, header_at, carried_of}
use Rattle.macho_model.specs.Targets.{is_import}
use Rattle.macho_model.specs.Fields.{Field, fields_of}
use Rattle.macho_model.specs.Segments.{DATA, DATA_CONST, may_hold_pointers, loaded_protection_of}
use Rattle.macho_model.specs.Placement.{Placed, id_of}
use Rattle.macho_model.specs.Spans.{section_span, slot_span}
use Rattle.macho_model.specs.steps.Parts.{LiesIn, LiesInNamed, SectionLies}
use Rattle.macho_model.specs.Images.{segments_of, Table, tables_of, fixups_header}
use Rattle.macho_model.specs.Chain.{ChainSegment, chain_segment, chain_segments, IsFileWord, OnPageChain}
use Rattle.macho_model.specs.Needs.{POINTER_SIZE}
use Rattle.macho_model.specs.LoadRules.{table_fits, import_fits, protections_fit}
use Rattle.macho_model.specs.Loader.{is_bind, ordinal_of, WordFits}
use Rattle.macho_model.specs.Fixups.{has_room, import_entries_of}
use Rattle.macho_model.specs.Agreement.{SegmentsAgree}
use Rattle.macho_model.specs.Values.{is_pointer, is_absolute_target}
use Rattle.macho_model.specs.Stands.{is_template_offset}
use Rattle.macho_fixups.specs.declared.run.Fixup.{Fixup}
use Rattle.macho_fixups.specs.declared.words.FixupKind.{FixupKind}
use Rattle.macho_fixups.specs.declared.words.FixupKind.TheVariants.{Bind}
use Rattle.macho_fixups.specs.Words.{Says}
use Rattle.macho_fixups.specs.Chains.{chain_seen, IsPageWord}
use Rattle.macho_fixups.specs.Laws.{ChainsAreTold}
use Rattle.macho_commands.specs.Laws.{HeadKeepsRules}
use Rattle.macho_promise.specs.FixupsSay.{IsFixupOf, own_number, kind_for, fixup_segments}
use Rattle.macho_promise.specs.FixupsSay as asked
use Rattle.macho_image_laws.specs.Leads.{HasPlace}
use Rattle.macho_image_laws.specs.Laws.{ComposedIsAccepted}
use Rattle.macho_image_laws.proofs.Segments.{no_placed, segments_agree, one_base}
use Rattle.macho_image_laws.proofs.Run.{chain_is_seen}
use Rattle.macho_image_laws.proofs.Bindings.{plain_within, own_within}
use Rattle.macho_image_laws.proofs.Places.{kind_moves}
use Rattle.macho_image_laws.proofs.Apart.{placed_is_carried, pointer_inside}
use Rattle.macho_image_laws.proofs.Held.{one_segment}
use Rattle.macho_image_laws.proofs.Words.{import_number_of, own_is_among, slot_has_place}
use Rattle.macho_image_laws.proofs.Rests.{IsLed}
use Rattle.macho_image_laws.proofs.Entries.{the_one, imports_fit}
use Rattle.macho_image_laws.proofs.Whole.{ready_of, led_of}
use Rattle.macho_model.specs.steps.Loader.{import_count}
use Rattle.macho_model.specs.steps.Agreement.{SegmentPlace, place_by_command, place_told}
use Rattle.macho_model.proofs.Parts.{in_order_of, in_segment_of}
use Rattle.macho_model.specs.SegmentRules.{is_writable}
use Rattle.macho_bytes.proofs.Comparing.{same_bytes}
use Rattle.macho_model.proofs.PageChains.{number_in_chain}

-- the eighth rule
table_taken : (l : Link) (counts : Counts) (uuid b : List ℕ) (p : Placed) (h : IsLed l counts uuid b p)
    → table_fits b h.composed.fixups.say.table ≡ true
table_taken l counts uuid b p h =
    h.composed.fixups.table.taken b h.composed.fixups.say.table h.composed.fixups.text (record {
      inside = h.composed.fixups.inside;
      room = h.composed.fixups.room;
      begins = one_base l counts b p h.placed h.composed.agrees.commands.segments;
      agree = segments_agree b p h.composed.agrees.commands.segments;
    })

-- and the placed segment of that number
pub record IsPlacedAs (p : Placed) (s : SegmentCommand) : Type 0 where
  pub segment : PlacedSegment
  pub one : Contains p.segments segment
  pub same : place_by_command s ≡ place_told segment

placed_as : (b : List ℕ) (p : Placed) (number : ℕ) (s : SegmentCommand) → SegmentsAgree b p → IsNumber (segments_of b) number s
    → IsPlacedAs p s
placed_as b p number s agree is =
    let many : length (segments_of b) ≡ length p.segments =
    sym (length-map (segments_of b) place_by_command) ∙ ap (λ (xs : List SegmentPlace). length xs) agree
    ∙ length-map p.segments place_told in
    let lt : number < length p.segments = omega (arith, is.0, many) in
    let said = get_or-map place_by_command (segments_of b) number s (place_by_command s) is.0 in
    let told = get_or-map place_told p.segments number no_placed (place_by_command s) lt in
    record {
      segment = get_or p.segments number no_placed;
      one = (number, lt, get_or_default p.segments number (get_or p.segments number no_placed) no_placed lt);
      same = ap place_by_command (sym is.1) ∙ sym said ∙ ap (λ (xs : List SegmentPlace). get_or xs number (place_by_command s)) agree
          ∙ told;
    }

-- a segment has the protection of its name, and one of these names may be written to
protected : (b : List ℕ) (number : ℕ) (s : SegmentCommand) → All (λ x. protections_fit x ≡ true) (segments_of b)
    → IsNumber (segments_of b) number s → s.initprot ≡ loaded_protection_of (name_of s.segname)
protected b number s all is =
    let fits : protections_fit s ≡ true = subst (λ (x : SegmentCommand). protections_fit x ≡ true) is.1 (all number s is.0) in
    eqb-true s.initprot (loaded_protection_of (name_of s.segname))
    (and_parts (s.maxprot == loaded_protection_of (name_of s.segname)) (s.initprot == loaded_protection_of (name_of s.segname)) fits).1

writable : (s : SegmentCommand) → s.initprot ≡ loaded_protection_of (name_of s.segname)
    → (name_of s.segname ≡ DATA) ⊎ (name_of s.segname ≡ DATA_CONST)
    → is_writable s ≡ true
writable s is (inl data_name) = ap (λ (n : ℕ). n / 2 ^ 1 % 2 ^ 1 == 1) (is ∙ ap loaded_protection_of data_name)
writable s is (inr const_name) = ap (λ (n : ℕ). n / 2 ^ 1 % 2 ^ 1 == 1) (is ∙ ap loaded_protection_of const_name)

-- the segment of a fixup, by its name
pub record IsInWritten (p : Placed) (a : ℕ) : Type 0 where
  pub segment : PlacedSegment
  pub one : Contains p.segments segment
  pub named : (text_of segment.name ≡ DATA) ⊎ (text_of segment.name ≡ DATA_CONST)
  pub from : segment.address ≤ a
  pub to : a + POINTER_SIZE ≤ segment.address + segment.file_size

holds_pointers : (name : List ℕ) → may_hold_pointers name ≡ true → (name ≡ DATA) ⊎ (name ≡ DATA_CONST)
holds_pointers name h = elim (or_cases (bytes_eq name DATA) (bytes_eq name DATA_CONST) h) [
  | inl is ↦ inl (same_bytes name DATA is)
  | inr is ↦ inr (same_bytes name DATA_CONST is)
]

in_written : (l : Link) (counts : Counts) (uuid b : List ℕ) (p : Placed) → IsLed l counts uuid b p → (f : Fixup) → IsFixupOf l p f
    → IsInWritten p f.address
in_written l counts uuid b p h _ (asked.IsFixupOf.slot s one) =
    let lies = All-contains (λ (x : Slot). LiesInNamed p DATA_CONST true (slot_span x)) p.slots s (in_segment_of h.placed).slots one in
    record {
      segment = lies.0;
      one = lies.1;
      named = inr (same_bytes (text_of lies.0.name) DATA_CONST lies.2);
      from = lies.3.from;
      to = lies.3.to;
    }
in_written l counts uuid b p h _ (asked.IsFixupOf.pointer q f one field needs) =
    let carried = placed_is_carried l p q h.placed.whole_list one in
    let lies = All-contains (SectionLies l p) p.sections q (in_segment_of h.placed).sections one in
    let name : text_of lies.0.name ≡ segment_name_of (header_at l (id_of q)) =
    same_bytes (text_of lies.0.name) (segment_name_of (header_at l (id_of q))) lies.2 in
    let inside = pointer_inside l p q f h.placed.whole_list h.leads one field needs in
    let in_part = (subst (λ (t : Bool). LiesIn t (section_span l q) lies.0) (filled carried inside) lies.3) in
    record {
      segment = lies.0;
      one = (q.segment, lies.1.0, lies.1.1);
      named = elim (holds_pointers (segment_name_of (header_at l (id_of q))) (h.sound.places (id_of q) f carried field needs))
          [ inl is ↦ inl (name ∙ is) | inr is ↦ inr (name ∙ is) ];
      from = omega (arith, in_part.from);
      to = omega (arith, in_part.to, inside);
    }
  where
    empty_list : (fs : List Field) → fs ≡ [] → Contains fs f → ⊥
    empty_list fs is here = omega (arith, here.1, ap (λ (xs : List Field). length xs) is)

    filled : Contains (carried_of l) (id_of q) → f.offset + POINTER_SIZE ≤ (header_at l (id_of q)).size
        → (not (is_zerofill (header_at l (id_of q))) && not ((header_at l (id_of q)).size == 0)) ≡ true
    filled carried inside =
        let size : ((header_at l (id_of q)).size == 0) ≡ false = ne_eqb (header_at l (id_of q)).size 0 (λ e. omega (arith, inside, e)) in
        elim (cases_Bool (is_zerofill (header_at l (id_of q)))) [
          | inl zerofill ↦ absurd (empty_list (fields_of l (id_of q)) (h.leads.zeros (id_of q) carried zerofill) field)
          | inr some ↦ rw (some, size) refl
        ]

-- an import that a word tells has an entry
kind_ordinal : (l : Link) (p : Placed) (t : Target) (addend : ℕ) → HasPlace l t
    → ((id : ℕ) → t ≡ target.Import id → has_room addend ≡ false → own_number l id addend < length (import_entries_of l))
    → (word : ℕ) → Says (kind_for l p t addend) word → is_bind word ≡ true → ordinal_of word < length (import_entries_of l)
kind_ordinal l p t addend has own word says binds =
    elim (cases_Bool (is_import t)) [
      | inr other ↦
          let rebase = subst (λ (k : FixupKind). Says k word) (kind_moves l p t addend other) says in
          absurd (true≢false (sym binds ∙ rebase.0))
      | inl is ↦
          let n = import_number_of l t has is in
          let kind : Says (kind_for l p (target.Import n.0) addend) word = subst
          (λ (x : Target). Says (kind_for l p x addend) word) n.1 says in
          elim (cases_Bool (has_room addend)) [
            | inl room ↦
                let bind = subst (λ (x : Bool). Says (if x then Bind n.0 addend else Bind (own_number l n.0 addend) 0) word) room kind in
                omega (arith, bind.1, plain_within l n.0 n.2)
            | inr none ↦
                let bind = subst (λ (x : Bool). Says (if x then Bind n.0 addend else Bind (own_number l n.0 addend) 0) word) none kind in
                omega (arith, bind.1, own n.0 n.1 none)
          ]
    ]

fixup_ordinal : (l : Link) (counts : Counts) (uuid b : List ℕ) (p : Placed) → IsLed l counts uuid b p → (f : Fixup) → IsFixupOf l p f
    → (word : ℕ)
    → Says f.kind word → is_bind word ≡ true → ordinal_of word < length (import_entries_of l)
fixup_ordinal l counts uuid b p h _ (asked.IsFixupOf.slot s one) word says binds =
    kind_ordinal l p s.target 0 (slot_has_place l counts p s (ready_of l counts uuid b p h) one)
    (λ id is none. let no : true ≡ false = none in absurd (cc)) word says binds
fixup_ordinal l counts uuid b p h _ (asked.IsFixupOf.pointer q f one field needs) word says binds =
    let carried = placed_is_carried l p q h.placed.whole_list one in
    let pointer = (and_parts (is_pointer f) (not (is_absolute_target f.target))
    (and_parts (is_pointer f && not (is_absolute_target f.target)) (not (is_template_offset l (id_of q) f)) needs).0).0 in
    kind_ordinal l p f.target f.addend (h.leads.pointers (id_of q) f carried field needs)
    (λ id is none. own_within l id f.addend (own_is_among l (id_of q) f id carried field pointer is none)) word says binds

-- the tenth rule
word_fits : ChainsAreTold → (l : Link) (counts : Counts) (uuid b : List ℕ) (p : Placed) → IsLed l counts uuid b p
    → All (λ x. protections_fit x ≡ true) (segments_of b) → (number : ℕ) (s : SegmentCommand) (page a : ℕ)
    → IsNumber (segments_of b) number s → OnPageChain (chain_segments b) b (chain_segment b (number, s)) page a → WordFits b s page a
word_fits told l counts uuid b p h protections number s page a is on =
    record {
      writable = writable s (protected b number s protections is) (elim written.named [ inl x ↦ inl (name ∙ x) | inr x ↦ inr (name ∙ x) ]);
      page_from = page_word.page_from;
      page_to = page_word.page_to;
      to = page_word.inside;
      import = imports;
    }
  where
    agree : SegmentsAgree b p
    agree = h.composed.agrees.commands.segments

    seen : chain_segments b ≡ map (chain_seen h.composed.fixups.say.fixups) (fixup_segments p)
    seen = chain_is_seen told l b p h.composed.fixups h.composed.agrees.commands.segments

    page_word : IsPageWord h.composed.fixups.say.fixups (chain_segment b (number, s)) page a
    page_word = h.composed.fixups.chain.pages b (chain_segment b (number, s)) page a h.composed.fixups.words
        (subst (λ (gs : List ChainSegment). Contains gs (chain_segment b (number, s))) seen (number_in_chain b number s is))
        (subst (λ (gs : List ChainSegment). OnPageChain gs b (chain_segment b (number, s)) page a) seen on)

    of_fixup : IsFixupOf l p page_word.one.0
    of_fixup = (h.composed.fixups.say.are page_word.one.0).0 page_word.one.1

    written : IsInWritten p a
    written = subst (IsInWritten p) page_word.one.2 (in_written l counts uuid b p h page_word.one.0 of_fixup)

    placed : IsPlacedAs p s
    placed = placed_as b p number s agree is

    one : placed.segment ≡ written.segment
    one =
        let address : s.vmaddr ≡ placed.segment.address = ap (λ (x : SegmentPlace). x.1) placed.same in
        let size : s.filesize ≡ placed.segment.file_size = ap (λ (x : SegmentPlace). x.4) placed.same in
        one_segment p placed.segment written.segment a h.composed.head.segments placed.one written.one
        (omega (arith, address, page_word.page_from))
        (omega (arith, address, size, page_word.inside)) written.from (omega (arith, written.to))

    name : name_of s.segname ≡ text_of written.segment.name
    name = ap (λ (x : SegmentPlace). x.0) placed.same ∙ ap (λ (x : PlacedSegment). text_of x.name) one

    imports : (word : ℕ) → IsFileWord (chain_segments b) b a word → is_bind word ≡ true → ordinal_of word < import_count b (tables_of b)
    imports word stands binds =
        let f = page_word.one in
        let fixups = h.composed.fixups.say.fixups in
        let there : IsFileWord (map (chain_seen fixups) (fixup_segments p)) b (get_or fixups f.1.0 f.0).address word =
        subst (λ (g : Fixup). IsFileWord (map (chain_seen fixups) (fixup_segments p)) b g.address word) (sym f.1.2)
        (subst (λ (x : ℕ). IsFileWord (map (chain_seen fixups) (fixup_segments p)) b x word) (sym f.2)
        (subst (λ (gs : List ChainSegment). IsFileWord gs b a word) seen stands)) in
        let says = (h.composed.fixups.chain.says b f.1.0 word f.0 h.composed.fixups.words f.1.1 there).says in
        let kind : Says f.0.kind word = subst (λ (g : Fixup). Says g.kind word) f.1.2 says in
        let below = fixup_ordinal l counts uuid b p h f.0 of_fixup word kind binds in
        let t = h.composed.imports.table.table in
        let many : import_count b (tables_of b) ≡ (fixups_header b t).imports_count = ap (import_count b) h.composed.imports.table.one in
        omega (arith, below, many, h.composed.imports.table.count)

-- THE image is accepted.
pub composed_is_accepted : HeadKeepsRules → ChainsAreTold → ComposedIsAccepted
composed_is_accepted keeps told l counts uuid b p image =
    let h = led_of l counts uuid b p image in
    let head = keeps l counts uuid b p h.composed.head.says (in_order_of h.placed) h.composed.head.room in
    let w = h.composed.fixups in
    let T : Table → Type 0 = λ t. table_fits b t ≡ true in
    record {
      l1 = head.l1;
      l2 = head.l2;
      l3 = head.l3;
      l4 = head.l4;
      l5 = head.l5;
      l6 = head.l6;
      l7 = head.l7;
      l8 = (
        omega (arith, ap (λ (ts : List Table). length ts) w.say.one),
        All-same T (tables_of b) (w.say.table ∷ []) w.say.one (All-cons T w.say.table [] (table_taken l counts uuid b p h) (All-nil T)),
      );
      l9 = λ t k one lt.
          let same = the_one (tables_of b) h.composed.imports.table.table t h.composed.imports.table.one one in
          let within : k < length (import_entries_of l) =
          omega (arith, lt, h.composed.imports.table.count, ap (λ (x : Table). (fixups_header b x).imports_count) same) in
          subst (λ (x : Table). import_fits b x k ≡ true) same (imports_fit l counts uuid b p h k within);
      l10 = word_fits told l counts uuid b p h head.l3;
    }
