-- A table that stands in a file, read back: the header first, and by its places the starts and the names.
--
-- The parts of the table stand where the lengths before them end. The header's record reads back, and tells that the
-- starts begin at 28. There the offsets of the segments stand, and each leads to what is told of its segment: the
-- record says how many pages there are, and their starts are read as they were written.
use Rattle.std.proofs.Common.{◌≡◌, ℕ, ◌+◌, ◌*◌, ◌/◌, ◌<◌, ◌≤◌, ◌==◌, Bool, true, false, List, [], ◌++◌, length, map, get_or, arith, refl, sym, ap, subst, ◌∙◌, inl, inr, if◌then◌else◌}
use Rattle.std.specs.Prelude.{◌↔◌, All}
use Rattle.std.specs.List.{flat_map, range_with_len, enumerate_from}
use Rattle.macho_model.specs.Chain.{ChainSegment, OnChain}
use Rattle.std.proofs.lemmas.Bool.{cases_lt}
use Rattle.std.proofs.lemmas.Bool.Decides.{nat_tests}
use Rattle.std.proofs.lemmas.List.{length-append, ext_get_or, get_or-map, length-map}
use Rattle.std.proofs.lemmas.List.FromFn.{length-range_with_len, get_or-range_with_len, length-enumerate_from, get_or-enumerate_from}
use Rattle.macho_bytes.specs.Numbers.{little, le_at, le_bytes}
use Rattle.macho_bytes.specs.Texts.{Stands}
use Rattle.macho_bytes.proofs.Numbers.{little_is_sound, number-stands, stands-front, stands-back}
use Rattle.macho_wire.specs.declared.fixups.ChainedStartsInSegment.{ChainedStartsInSegment}
use Rattle.macho_wire.specs.declared.fixups.ChainedFixupsHeader.{ChainedFixupsHeader}
use Rattle.macho_model.specs.Images.{Table, fixups_header, starts_place, starts_offset, segment_starts, segment_starts_place, page_start, page_starts}
use Rattle.macho_model.specs.Segments.{SEGMENT_PAGE}
use Rattle.macho_fixups.specs.declared.run.Fixup.{Fixup}
use Rattle.macho_fixups.specs.declared.run.FixupSegment.{FixupSegment}
use Rattle.macho_fixups.specs.declared.imports.ImportEntry.{ImportEntry}
use Rattle.macho_fixups.specs.Runs.{pages_of, start_of}
use Rattle.macho_fixups.specs.Tables.{offsets_text, segment_text, image_starts_text, image_starts_size, entry_text, table_header, table_text, names_place}
use Rattle.macho_fixups.specs.Chains.{starts_in, chain_seen, IsAddressOf}
use Rattle.macho_fixups.specs.Calls.{FitsTable, AreEntries}
use Rattle.macho_fixups.specs.steps.Calls.{EntryFits}
use Rattle.macho_model.specs.LoadRules.{table_fits}
use Rattle.macho_fixups.specs.Readings.{IsRead, HasTable, TableReadsBack, told_segment, told_segments}
use Rattle.macho_fixups.proofs.SegmentWrites.{no_segment, length-offsets}
use Rattle.macho_fixups.proofs.TableTexts.{header_long}
use Rattle.macho_fixups.proofs.EntryReading.{entry_read}
use Rattle.macho_fixups.proofs.TableTaken.{table_taken}
use Rattle.macho_fixups.proofs.StartReading.{no_offset, record_read, start_stands}
use Rattle.macho_bytes.specs.Spellings.{spelling, ReadsBack}
use Rattle.macho_wire.specs.Spellings.{chained_fixups_header_rows}

-- lists of numbers that agree at each place
same_map : (f g : ℕ → ℕ) (n : ℕ) → ((k : ℕ) → k < n → f k ≡ g k) → map f (range_with_len 0 n) ≡ map g (range_with_len 0 n)
same_map f g n each =
    ext_get_or 0 (map f (range_with_len 0 n)) (map g (range_with_len 0 n))
    (length-map (range_with_len 0 n) f ∙ sym (length-map (range_with_len 0 n) g)) at
  where
    at : (i : ℕ) → i < length (map f (range_with_len 0 n)) → get_or (map f (range_with_len 0 n)) i 0 ≡ get_or (map g (range_with_len 0 n))
        i 0
    at i lt =
        let long : length (map f (range_with_len 0 n)) ≡ n = length-map (range_with_len 0 n) f ∙ length-range_with_len 0 n in
        let within : i < length (range_with_len 0 n) = omega (arith, lt, long, length-range_with_len 0 n) in
        let number : get_or (range_with_len 0 n) i 0 ≡ i = omega (
          arith,
          lt,
          long,
          get_or-range_with_len 0 n i 0
              (omega (arith, lt, long)),
        ) in
        get_or-map f (range_with_len 0 n) i 0 0 within ∙ ap f number ∙ each i (omega (arith, lt, long)) ∙ sym (ap g number)
        ∙ sym (get_or-map g (range_with_len 0 n) i 0 0 within)

-- The starts of segment k, with the place of all starts.
pub starts_read : (base at : ℕ) (fixups : List Fixup) (segments : List FixupSegment) (b : List ℕ) (t : Table) (k : ℕ) (d : FixupSegment)
    → FitsTable base fixups segments → starts_place b t ≡ at
    → Stands b (record { at = at + 4; text = offsets_text (4 + 4 * length segments) fixups segments })
    → Stands b (record { at = at + 4 + 4 * length segments; text = flat_map (segment_text base fixups) segments }) → k < length segments
    → page_starts b t k ≡ starts_in fixups (get_or segments k d)
starts_read base at fixups segments b t k d fits place offsets texts lt =
    elim (cases_lt 0 pages) [ inl some ↦ with_pages some | inr none ↦ without none ]
  where
    s : FixupSegment
    s = get_or segments k d

    pages : ℕ
    pages = pages_of s fixups

    without : pages ≤ 0 → page_starts b t k ≡ starts_in fixups s
    without none =
        let zero_pages : pages ≡ 0 = omega arith in
        let is : starts_offset b t k ≡ 0 = no_offset base at fixups segments b t k d fits place offsets lt zero_pages in
        let skip : (starts_offset b t k == 0) ≡ true = grind (arith, nat_tests) in
        ap (λ (e : Bool). if e then [] else map (page_start b t k) (range_with_len 0 (segment_starts b t k).page_count)) skip
        ∙ ap (λ (n : ℕ). map (λ (p : ℕ). start_of fixups (s.address / SEGMENT_PAGE + p)) (range_with_len 0 n)) (sym zero_pages)

    with_pages : 0 < pages → page_starts b t k ≡ starts_in fixups s
    with_pages some =
        let told = record_read base at fixups segments b t k d fits place offsets texts lt some in
        let goes : (starts_offset b t k == 0) ≡ false = (let far : starts_offset b t k ≡ _ = told.offset in grind (arith, nat_tests)) in
        ap (λ (e : Bool). if e then [] else map (page_start b t k) (range_with_len 0 (segment_starts b t k).page_count)) goes
        ∙ ap (λ (r : ChainedStartsInSegment). map (page_start b t k) (range_with_len 0 r.page_count)) told.is
        ∙ same_map (page_start b t k) (λ (p : ℕ). start_of fixups (s.address / SEGMENT_PAGE + p)) pages
        (λ page less. start_stands b fixups (segment_starts_place b t k + 22) (s.address / SEGMENT_PAGE) pages page told.behind less)

-- segments with the starts that are told are those with the starts of the run
told_are : (b : List ℕ) (t : Table) (fixups : List Fixup) (segments : List FixupSegment)
    → ((k : ℕ) (d : FixupSegment) → k < length segments → page_starts b t k ≡ starts_in fixups (get_or segments k d))
    → told_segments b t segments ≡ map (chain_seen fixups) segments
told_are b t fixups segments starts =
    ext_get_or (chain_seen fixups no_segment) (told_segments b t segments) (map (chain_seen fixups) segments)
    (long ∙ sym (length-map segments (chain_seen fixups))) at
  where
    long : length (told_segments b t segments) ≡ length segments
    long = length-map (enumerate_from 0 segments) (told_segment b t) ∙ length-enumerate_from 0 segments

    at : (i : ℕ) → i < length (told_segments b t segments)
        → get_or (told_segments b t segments) i (chain_seen fixups no_segment) ≡ get_or (map (chain_seen fixups) segments) i
        (chain_seen fixups no_segment)
    at i lt =
        let within : i < length segments = omega (arith, lt, long) in
        let number : 0 + i ≡ i = omega arith in
        let s : FixupSegment = get_or segments i no_segment in
        get_or-map (told_segment b t) (enumerate_from 0 segments) i (0, no_segment) (chain_seen fixups no_segment)
        (omega (arith, within, length-enumerate_from 0 segments))
        ∙ ap (told_segment b t) (get_or-enumerate_from 0 segments i (0, no_segment) within)
        ∙ ap (λ (n : ℕ). told_segment b t (n, s)) number
        ∙ ap (λ (x : List ℕ). let g : ChainSegment = record {
          address = s.address;
          file_offset = s.file_offset;
          file_size = s.file_size;
          starts = x;
        } in g)
        (starts i no_segment within)
        ∙ sym (get_or-map (chain_seen fixups) segments i no_segment (chain_seen fixups no_segment) within)

-- THE table reads back.
pub table_reads_back : (base : ℕ) (fixups : List Fixup) (segments : List FixupSegment) (format : ℕ) (imports : List ImportEntry)
    (names : List ℕ)
    → FitsTable base fixups segments → AreEntries format imports → All EntryFits imports
    → ReadsBack chained_fixups_header_rows (table_header fixups segments format imports)
    → length (image_starts_text base fixups segments) ≡ image_starts_size fixups segments
    → length (names) + names_place fixups segments format imports ≡ length (table_text base fixups segments format imports names)
    → TableReadsBack base fixups segments format imports names
unfolding table_text image_starts_text
table_reads_back base fixups segments format imports names fits known entry_fits back long whole =
    record { read = λ b t stands. read b t stands; taken = λ b t stands has. taken b t stands has }
  where
    header : ChainedFixupsHeader
    header = table_header fixups segments format imports

    head : List ℕ
    head = spelling chained_fixups_header_rows header

    entries : List ℕ
    entries = flat_map (entry_text format) imports

    image : List ℕ
    image = image_starts_text base fixups segments

    told_starts : (b : List ℕ) (t : Table) → Stands b (record { at = t.at; text = head ++ (image ++ (entries ++ names)) })
        → Stands b (record { at = t.at + 28; text = image ++ (entries ++ names) })
    told_starts b t stands = stands-back b t.at (t.at + 28) head (image ++ (entries ++ names)) (omega (arith, header_long header)) stands

    behind_count : (b : List ℕ) (t : Table) → Stands b (record { at = t.at; text = head ++ (image ++ (entries ++ names)) })
        → Stands b (record {
          at = t.at + 28 + 4;
          text = offsets_text (4 + 4 * length segments) fixups segments ++ flat_map (segment_text base fixups) segments;
        })
    behind_count b t stands =
        stands-back b (t.at + 28) (t.at + 28 + 4) (le_bytes 4 (length segments))
        (offsets_text (4 + 4 * length segments) fixups segments ++ flat_map (segment_text base fixups) segments)
        (omega (arith, little_is_sound.long 4 (length segments))) (stands-front b (t.at + 28) image (entries ++ names)
        (told_starts b t stands))

    offsets_there : (b : List ℕ) (t : Table) → Stands b (record { at = t.at; text = head ++ (image ++ (entries ++ names)) })
        → Stands b (record { at = t.at + 28 + 4; text = offsets_text (4 + 4 * length segments) fixups segments })
    offsets_there b t stands = stands-front b (t.at + 28 + 4) (offsets_text (4 + 4 * length segments) fixups segments) _
        (behind_count b t stands)

    texts_there : (b : List ℕ) (t : Table) → Stands b (record { at = t.at; text = head ++ (image ++ (entries ++ names)) })
        → Stands b (record { at = t.at + 28 + 4 + 4 * length segments; text = flat_map (segment_text base fixups) segments })
    texts_there b t stands =
        stands-back b (t.at + 28 + 4) (t.at + 28 + 4 + 4 * length segments) (offsets_text (4 + 4 * length segments) fixups segments) _
        (omega (arith, length-offsets (4 + 4 * length segments) fixups segments)) (behind_count b t stands)

    read : (b : List ℕ) (t : Table) → Stands b (record { at = t.at; text = head ++ (image ++ (entries ++ names)) })
        → IsRead b t fixups segments format imports names
    read b t stands =
        let header_is : fixups_header b t ≡ header = back.back b t.at (stands-front b t.at head (image ++ (entries ++ names)) stands) in
        let place : starts_place b t ≡ t.at + 28 = ap (λ (h : ChainedFixupsHeader). t.at + h.starts_offset) header_is in
        let rest = told_starts b t stands in
        let starts = stands-front b (t.at + 28) image (entries ++ names) rest in
        let each : (k : ℕ) (d : FixupSegment) → k < length segments → page_starts b t k ≡ starts_in fixups (get_or segments k d) =
        λ k d lt. starts_read base (t.at + 28) fixups segments b t k d fits place
        (offsets_there b t stands) (texts_there b t stands) lt in
        let told = told_are b t fixups segments each in
        record {
          header = header_is;
          count = ap (le_at 4 b) place
              ∙ number-stands little little_is_sound 4 (length segments) b (t.at + 28) (omega (arith, fits.count))
              (stands-front b (t.at + 28) (le_bytes 4 (length segments)) _ starts);
          starts = each;
          told = told;
          chain = λ run stand a. subst (λ (g : List ChainSegment). OnChain g b a ↔ IsAddressOf fixups a) (sym told) (run.set b a stand);
          entries = λ k d lt. entry_read b t format (28 + image_starts_size fixups segments) imports k d
              (table_header fixups segments format imports)
              header_is refl refl known entry_fits
              (stands-front b (t.at + (28 + image_starts_size fixups segments)) entries names
              (stands-back b (t.at + 28) (t.at + (28 + image_starts_size fixups segments)) image (entries ++ names) (omega (arith, long))
              rest)) lt;
          texts = stands-back b (t.at + 28 + length image) (t.at + names_place fixups segments format imports) entries names
              (omega (
                arith,
                long,
                whole,
                header_long header,
                length-append head (image ++ (entries ++ names)),
                length-append image (entries ++ names),
                length-append entries names,
              ))
              (stands-back b (t.at + 28) (t.at + 28 + length image) image (entries ++ names) refl rest);
        }

    taken : (b : List ℕ) (t : Table) → Stands b (record { at = t.at; text = head ++ (image ++ (entries ++ names)) })
        → HasTable b t base segments (length (head ++ (image ++ (entries ++ names)))) → table_fits b t ≡ true
    taken b t stands has =
        table_taken base (length (head ++ (image ++ (entries ++ names)))) fixups segments format imports b t fits known
        (read b t stands).header
        (read b t stands).count (offsets_there b t stands) (texts_there b t stands) (omega (arith, whole)) has
