-- How long the parts of a section are.
--
-- A record's spelling has the size of its layout, whatever its numbers. A row of words has four bytes for each. So a page
-- has 12 bytes, and four for each word and each encoding of its own.
use Rattle.std.proofs.Common.{◌≡◌, ℕ, ◌*◌, List, [], ◌∷◌, ◌++◌, length, get_or, sum_by, refl, ap, ◌∙◌, arith}
use Rattle.std.specs.List.{flat_map, range_with_len}
use Rattle.std.proofs.lemmas.List.FromFn.{length-range_with_len}
use Rattle.std.proofs.lemmas.List.Sums.{sum_by-cons}
use Rattle.macho_bytes.proofs.Tables.{length-table}
use Rattle.std.proofs.lemmas.List.{length-append}
use Rattle.macho_bytes.specs.Numbers.{little, row_bytes}
use Rattle.macho_bytes.proofs.Numbers.{little_is_sound, length-row_little}
use Rattle.macho_bytes.proofs.Layouts.{length-spelling}
use Rattle.macho_unwind_pages.specs.declared.plans.Lsda.{Lsda}
use Rattle.macho_unwind_pages.specs.Plans.{PageList, PlanList, page_size, size_of}
use Rattle.macho_unwind.specs.Texts.{page_text, section_text}
use Rattle.macho_unwind.specs.steps.Tables.{entry_text, lsda_text}
use Rattle.macho_bytes.specs.Spellings.{spelling}
use Rattle.macho_unwind.specs.Spellings.{compact_unwind_info_header_rows, page_entry_rows, compressed_page_rows, lsda_entry_rows}
use Rattle.macho_unwind.specs.steps.Records.{header_for, entry_for, last_entry_for, lsda_for, head_for}

-- the header has 28 bytes
pub length-header_text : (plan : PlanList) → length (spelling compact_unwind_info_header_rows (header_for plan)) ≡ 28
length-header_text plan = length-spelling compact_unwind_info_header_rows (header_for plan) little_is_sound (refl, tt)

-- the entry of a page has 12 bytes
pub length-entry_text : (plan : PlanList) (k : ℕ) → length (entry_text plan k) ≡ 12
length-entry_text plan k = length-spelling page_entry_rows (entry_for plan k) little_is_sound (refl, tt)

-- the last entry has 12 bytes
pub length-last_entry_text : (plan : PlanList) → length (spelling page_entry_rows (last_entry_for plan)) ≡ 12
length-last_entry_text plan = length-spelling page_entry_rows (last_entry_for plan) little_is_sound (refl, tt)

-- an LSDA entry has 8 bytes
pub length-lsda_text : (l : Lsda) → length (lsda_text l) ≡ 8
length-lsda_text l = length-spelling lsda_entry_rows (lsda_for l) little_is_sound (refl, tt)

-- the head of a page has 12 bytes
pub length-head_text : (page : PageList) → length (spelling compressed_page_rows (head_for page)) ≡ 12
length-head_text page = length-spelling compressed_page_rows (head_for page) little_is_sound (refl, (refl, tt))

-- a page's text is as long as its size says
pub length-page_text : (page : PageList) → length (page_text page) ≡ page_size page
unfolding page_text spelling
length-page_text page =
    let words = length-row_little 4 page.words in
    let locals = length-row_little 4 page.locals in
    let front = length-append (spelling compressed_page_rows (head_for page)) (row_bytes little 4 page.words) in
    let whole = length-append (spelling compressed_page_rows (head_for page) ++ row_bytes little 4 page.words)
    (row_bytes little 4 page.locals) in
    omega (arith, words, locals, front, whole, length-head_text page)

-- the tables
pub length-entries : (plan : PlanList) (n : ℕ) → length (flat_map (entry_text plan) (range_with_len 0 n)) ≡ 12 * n
length-entries plan n =
    length-table (entry_text plan) 12 (range_with_len 0 n)
    (record { long = λ k d h. length-entry_text plan (get_or (range_with_len 0 n) k d) })
    ∙ ap (λ (m : ℕ). 12 * m) (length-range_with_len 0 n)

-- LSDA entries have 8 bytes each
pub length-lsdas : (lsdas : List Lsda) → length (flat_map lsda_text lsdas) ≡ 8 * length lsdas
length-lsdas lsdas = length-table lsda_text 8 lsdas (record { long = λ k d h. length-lsda_text (get_or lsdas k d) })

-- the texts of pages are as long as the sum of their sizes
pub length-pages : (pages : List PageList) → length (flat_map page_text pages) ≡ sum_by page_size pages
length-pages [] = refl
length-pages (p ∷ pages) =
    omega (
      arith,
      length-append (page_text p) (flat_map page_text pages),
      length-page_text p,
      sum_by-cons page_size p pages,
      length-pages pages,
    )

-- the section has the bytes that its plan says
pub length-section : (plan : PlanList) → length (section_text plan) ≡ size_of plan
unfolding section_text spelling
length-section plan =
    let a = spelling compact_unwind_info_header_rows (header_for plan) in
    let b = row_bytes little 4 plan.globals in
    let c = row_bytes little 4 plan.personalities in
    let d = flat_map (entry_text plan) (range_with_len 0 (length plan.pages)) in
    let e = spelling page_entry_rows (last_entry_for plan) in
    let f = flat_map lsda_text plan.lsdas in
    let g = flat_map page_text plan.pages in
    let long_a = length-header_text plan in
    let long_b = length-row_little 4 plan.globals in
    let long_c = length-row_little 4 plan.personalities in
    let long_d = length-entries plan (length plan.pages) in
    let long_e = length-last_entry_text plan in
    let long_f = length-lsdas plan.lsdas in
    let long_g = length-pages plan.pages in
    let ab = length-append a b in
    let abc = length-append (a ++ b) c in
    let abcd = length-append (a ++ b ++ c) d in
    let abcde = length-append (a ++ b ++ c ++ d) e in
    let abcdef = length-append (a ++ b ++ c ++ d ++ e) f in
    let all = length-append (a ++ b ++ c ++ d ++ e ++ f) g in
    omega arith
