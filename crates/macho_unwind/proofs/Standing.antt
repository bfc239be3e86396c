-- The parts of a section stand where its places say.
--
-- A section is its parts joined, so each part stands behind those before it, at the sum of their lengths. A table of
-- numbers or records has each of its items at a multiple of their size; a page stands behind the pages before it.
use Rattle.std.proofs.Common.{◌≡◌, ℕ, zero, suc, ◌+◌, ◌*◌, ◌^◌, ◌<◌, ◌≤◌, List, [], ◌∷◌, ◌++◌, length, get_or, take, sum_by, slice_index, subst, arith}
use Rattle.std.specs.List.{flat_map, range_with_len}
use Rattle.std.proofs.lemmas.List.{length-append}
use Rattle.std.proofs.lemmas.List.Sums.{sum_by-cons}
use Rattle.macho_bytes.specs.Numbers.{little, row_bytes, le_at, le_bytes}
use Rattle.macho_bytes.specs.Texts.{Stands}
use Rattle.macho_bytes.proofs.Numbers.{little_is_sound, number-stands, stands-front, stands-back, length-row_little}
use Rattle.macho_bytes.proofs.Tables.{table-stands}
use Rattle.macho_unwind_pages.specs.Plans.{PageList, PlanList, page_size, size_of}
use Rattle.macho_unwind.specs.Texts.{personalities_place, entries_place, lsdas_place, pages_place, page_text, section_text}
use Rattle.macho_unwind.specs.steps.Tables.{entry_text, lsda_text}
use Rattle.macho_unwind.proofs.Lengths.{length-header_text, length-entries, length-last_entry_text, length-lsdas, length-pages, length-head_text, length-page_text}
use Rattle.macho_bytes.specs.Spellings.{spelling}
use Rattle.macho_unwind.specs.Spellings.{compact_unwind_info_header_rows, page_entry_rows, compressed_page_rows}
use Rattle.macho_unwind.specs.steps.Records.{header_for, last_entry_for, head_for}

-- number k of a row of words that stands
pub word-stands : (ns bytes : List ℕ) (at k : ℕ) → k < length ns → slice_index ns k < 2 ^ 32
    → Stands bytes (record { at = at; text = row_bytes little 4 ns }) → le_at 4 bytes (at + 4 * k) ≡ slice_index ns k
unfolding row_bytes
word-stands ns bytes at k lt small s =
    number-stands little little_is_sound 4 (slice_index ns k) bytes (at + 4 * k) small
    (table-stands (le_bytes 4) 4 ns at k 0 bytes (record { long = λ j d h. little_is_sound.long 4 (get_or ns j d) }) lt s)

-- page k of pages that stand
pub page-stands : (pages : List PageList) (bytes : List ℕ) (at k : ℕ) (d : PageList) → k < length pages
    → Stands bytes (record { at = at; text = flat_map page_text pages })
    → Stands bytes (record { at = at + sum_by page_size (take k pages); text = page_text (get_or pages k d) })
page-stands [] bytes at k d lt s = absurd (omega arith)
page-stands (p ∷ pages) bytes at zero d lt s =
    let front = stands-front bytes at (page_text p) (flat_map page_text pages) s in
    subst (λ (m : ℕ). Stands bytes (record { at = m; text = page_text p })) (omega arith) front
page-stands (p ∷ pages) bytes at (suc k) d lt s =
    let back = stands-back bytes at (at + page_size p) (page_text p) (flat_map page_text pages) (omega (arith, length-page_text p)) s in
    let rest = page-stands pages bytes (at + page_size p) k d (omega arith) back in
    subst (λ (m : ℕ). Stands bytes (record { at = m; text = page_text (get_or pages k d) }))
    (omega (arith, sum_by-cons page_size p (take k pages))) rest

-- The parts of a page, each where it stands.
pub record PageStands (bytes : List ℕ) (at : ℕ) (page : PageList) : Type 0 where
  pub head : Stands bytes (record { at = at; text = spelling compressed_page_rows (head_for page) })
  pub words : Stands bytes (record { at = at + 12; text = row_bytes little 4 page.words })
  pub locals : Stands bytes (record { at = at + (12 + 4 * length page.words); text = row_bytes little 4 page.locals })
  pub whole : at + page_size page ≤ length bytes

-- where a page's text stands, each part of the page stands at its place
pub page-parts : (bytes : List ℕ) (at : ℕ) (page : PageList) → Stands bytes (record { at = at; text = page_text page })
    → PageStands bytes at page
unfolding page_text spelling
page-parts bytes at page s =
    let head = spelling compressed_page_rows (head_for page) in
    let words = row_bytes little 4 page.words in
    let locals = row_bytes little 4 page.locals in
    let front = stands-front bytes at (head ++ words) locals s in record {
      head = stands-front bytes at head words front;
      words = stands-back bytes at (at + 12) head words (omega (arith, length-head_text page)) front;
      locals = stands-back bytes at (at + (12 + 4 * length page.words)) (head ++ words) locals
          (omega (arith, length-head_text page, length-append head words, length-row_little 4 page.words)) s;
      whole = omega (arith, s.within, length-page_text page);
    }

-- The parts of a section, each where it stands.
pub record PlanStands (bytes : List ℕ) (plan : PlanList) : Type 0 where
  pub header : Stands bytes (record { at = 0; text = spelling compact_unwind_info_header_rows (header_for plan) })
  pub globals : Stands bytes (record { at = 28; text = row_bytes little 4 plan.globals })
  pub personalities : Stands bytes (record { at = personalities_place plan; text = row_bytes little 4 plan.personalities })
  pub entries : Stands bytes (record { at = entries_place plan; text = flat_map (entry_text plan) (range_with_len 0 (length plan.pages)) })
  pub last : Stands bytes
      (record { at = entries_place plan + 12 * length plan.pages; text = spelling page_entry_rows (last_entry_for plan) })
  pub lsdas : Stands bytes (record { at = lsdas_place plan; text = flat_map lsda_text plan.lsdas })
  pub pages : Stands bytes (record { at = pages_place plan; text = flat_map page_text plan.pages })
  pub whole : size_of plan ≤ length bytes

-- where the text of a section stands at 0, each part of the section stands at its place
pub section-parts : (bytes : List ℕ) (plan : PlanList) → Stands bytes (record { at = 0; text = section_text plan }) → PlanStands bytes plan
unfolding section_text spelling
section-parts bytes plan s =
    let a = spelling compact_unwind_info_header_rows (header_for plan) in
    let b = row_bytes little 4 plan.globals in
    let c = row_bytes little 4 plan.personalities in
    let d = flat_map (entry_text plan) (range_with_len 0 (length plan.pages)) in
    let e = spelling page_entry_rows (last_entry_for plan) in
    let f = flat_map lsda_text plan.lsdas in
    let g = flat_map page_text plan.pages in
    let long_a = length-header_text plan in
    let long_b = length-row_little 4 plan.globals in
    let long_c = length-row_little 4 plan.personalities in
    let long_d = length-entries plan (length plan.pages) in
    let long_e = length-last_entry_text plan in
    let long_f = length-lsdas plan.lsdas in
    let long_g = length-pages plan.pages in
    let ab = length-append a b in
    let abc = length-append (a ++ b) c in
    let abcd = length-append (a ++ b ++ c) d in
    let abcde = length-append (a ++ b ++ c ++ d) e in
    let abcdef = length-append (a ++ b ++ c ++ d ++ e) f in
    let all = length-append (a ++ b ++ c ++ d ++ e ++ f) g in
    let to_f = stands-front bytes 0 (a ++ b ++ c ++ d ++ e ++ f) g s in
    let to_e = stands-front bytes 0 (a ++ b ++ c ++ d ++ e) f to_f in
    let to_d = stands-front bytes 0 (a ++ b ++ c ++ d) e to_e in
    let to_c = stands-front bytes 0 (a ++ b ++ c) d to_d in
    let to_b = stands-front bytes 0 (a ++ b) c to_c in record {
      header = stands-front bytes 0 a b to_b;
      globals = stands-back bytes 0 28 a b (omega arith) to_b;
      personalities = stands-back bytes 0 (personalities_place plan) (a ++ b) c (omega arith) to_c;
      entries = stands-back bytes 0 (entries_place plan) (a ++ b ++ c) d (omega arith) to_d;
      last = stands-back bytes 0 (entries_place plan + 12 * length plan.pages) (a ++ b ++ c ++ d) e (omega arith) to_e;
      lsdas = stands-back bytes 0 (lsdas_place plan) (a ++ b ++ c ++ d ++ e) f (omega arith) to_f;
      pages = stands-back bytes 0 (pages_place plan) (a ++ b ++ c ++ d ++ e ++ f) g (omega arith) s;
      whole = omega (arith, s.within);
    }
