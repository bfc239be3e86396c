-- The text of a plan is put at 0, part behind part.
--
-- The parts are the header, the encodings of all pages, the slots of personalities, the entries of the pages, the last
-- entry, the LSDA entries and the pages. Each part is put where the ones before it end: its place is 0 and their lengths,
-- and the last place is the size, for which there is room. A text put right behind a text is one text, so in the end all of
-- them joined are put at 0.
use Rattle.std.proofs.Common.{◌≡◌, ℕ, ◌+◌, ◌*◌, ◌<◌, ◌^◌, List, length, get_or, sum_by, subst, sym, ap, ◌∙◌, arith}
use Rattle.std.specs.List.{flat_map, range_with_len}
use Rattle.std.proofs.lemmas.List.{length-map}
use Rattle.macho_bytes.specs.Numbers.{little, row_bytes}
use Rattle.macho_bytes.specs.Texts.{put}
use Rattle.macho_bytes.proofs.Numbers.{length-row_little}
use Rattle.macho_unwind_pages.specs.declared.plans.Page.{Page}
use Rattle.macho_unwind_pages.specs.declared.plans.Lsda.{Lsda}
use Rattle.macho_unwind_pages.specs.Plans.{plan_list, page_list, page_size}
use Rattle.macho_unwind.specs.declared.records.CompactUnwindInfoHeader.{CompactUnwindInfoHeader}
use Rattle.macho_unwind.specs.Texts.{personalities_place, entries_place, lsdas_place, pages_place, page_text, section_text}
use Rattle.macho_unwind.specs.steps.Tables.{entry_text, lsda_text}
use Rattle.macho_unwind.proofs.Lengths.{length-header_text, length-entries, length-last_entry_text, length-lsdas, length-pages}
use Rattle.macho_unwind.proofs.Places.{pages_short, texts-listed}
use Rattle.macho_unwind.proofs.Joining.{IsPutUpTo, put_next}
use Rattle.macho_unwind.proofs.writing.write_plan.Goals as goal
use Rattle.macho_bytes.specs.Spellings.{spelling}
use Rattle.macho_unwind.specs.Spellings.{compact_unwind_info_header_rows, page_entry_rows}
use Rattle.macho_unwind.specs.steps.Records.{header_for, last_entry_for}

pub write_pages-requires-clause-words : goal.write_pages-requires-clause-words
write_pages-requires-clause-words c =
    let P : List Page → Type 0 = λ pages. (k : ℕ) (d : Page) → k < length pages → length (get_or pages k d).words.items < 2 ^ 10 in
    subst P (sym c.as_slice-4.ensures.value) (λ k d h. omega (arith, pages_short c.args.plan.now c.requires.plan k d h))

pub write_pages-requires-clause-locals : goal.write_pages-requires-clause-locals
write_pages-requires-clause-locals c =
    let P : List Page → Type 0 = λ pages. (k : ℕ) (d : Page) → k < length pages → length (get_or pages k d).locals.items < 2 ^ 10 in
    subst P (sym c.as_slice-4.ensures.value) (λ k d h. omega (arith, pages_short c.args.plan.now c.requires.plan k d h))

pub returns : goal.returns
unfolding section_text spelling
returns c =
    let plan = plan_list c.args.plan.now in
    let items = c.args.plan.now.pages.items in
    let out = c.args.out.now in
    let room = c.requires.room in
    let pages = length-map items page_list in
    let header : IsPutUpTo out c.write.new.out (spelling compact_unwind_info_header_rows (header_for plan)) 28 = record {
      is = c.write.ensures.written
          ∙ ap (λ (h : CompactUnwindInfoHeader). put 0 (spelling compact_unwind_info_header_rows h) out) c.header_of.ensures;
      long = length-header_text plan;
    } in
    let globals =
    put_next out c.write.new.out c.put_littles.new.out _ (row_bytes little 4 plan.globals) 28 (personalities_place plan) header
    (c.put_littles.ensures.written ∙ ap (λ (ns : List ℕ). put 28 (row_bytes little 4 ns) c.write.new.out) c.as_slice.ensures.value)
    (omega (arith, length-row_little 4 plan.globals)) (omega (arith, room)) in
    let place : 28 + 4 * c.len.result ≡ personalities_place plan = omega (arith, c.len.ensures) in
    let personalities = put_next out c.put_littles.new.out c.put_littles-2.new.out _ (row_bytes little 4 plan.personalities)
    (personalities_place plan) (entries_place plan) globals
    (c.put_littles-2.ensures.written
    ∙ ap (λ (ns : List ℕ). put (28 + 4 * c.len.result) (row_bytes little 4 ns) c.put_littles.new.out) c.as_slice-2.ensures.value
    ∙ ap (λ (at : ℕ). put at (row_bytes little 4 plan.personalities) c.put_littles.new.out) place)
    (omega (arith, length-row_little 4 plan.personalities)) (omega (arith, room)) in
    let entries = put_next out c.put_littles-2.new.out c.write_entries.new.out _
    (flat_map (entry_text plan) (range_with_len 0 (length plan.pages))) (entries_place plan)
    (entries_place plan + 12 * length items) personalities
    (c.write_entries.ensures
    ∙ ap (λ (n : ℕ). put (entries_place plan) (flat_map (entry_text plan) (range_with_len 0 n)) c.put_littles-2.new.out) (sym pages))
    (omega (arith, length-entries plan (length plan.pages), pages)) (omega (arith, room, pages)) in
    let last = put_next out c.write_entries.new.out c.write_last_entry.new.out _ (spelling page_entry_rows (last_entry_for plan))
    (entries_place plan + 12 * length items) (lsdas_place plan) entries c.write_last_entry.ensures
    (omega (arith, length-last_entry_text plan, pages)) (omega (arith, room)) in
    let lsdas = put_next out c.write_last_entry.new.out c.write_lsdas.new.out _ (flat_map lsda_text plan.lsdas)
    (lsdas_place plan) (pages_place plan) last
    (c.write_lsdas.ensures
    ∙ ap (λ (ls : List Lsda). put c.lsdas_start.result (flat_map lsda_text ls) c.write_last_entry.new.out) c.as_slice-3.ensures.value
    ∙ ap (λ (at : ℕ). put at (flat_map lsda_text plan.lsdas) c.write_last_entry.new.out) c.lsdas_start.ensures)
    (omega (arith, length-lsdas plan.lsdas)) (omega (arith, room)) in
    let texts_of : List Page → List ℕ = λ ps. flat_map (λ (p : Page). page_text (page_list p)) ps in
    let all = put_next out c.write_lsdas.new.out c.write_pages.new.out _ (flat_map page_text plan.pages)
    (pages_place plan) (pages_place plan + sum_by page_size plan.pages) lsdas
    (c.write_pages.ensures
    ∙ ap (λ (ps : List Page). put c.pages_start.result (texts_of ps) c.write_lsdas.new.out) c.as_slice-4.ensures.value
    ∙ ap (λ (t : List ℕ). put c.pages_start.result t c.write_lsdas.new.out) (texts-listed items)
    ∙ ap (λ (at : ℕ). put at (flat_map page_text plan.pages) c.write_lsdas.new.out) c.pages_start.ensures)
    (omega (arith, length-pages plan.pages)) (omega (arith, room)) in
    all.is
