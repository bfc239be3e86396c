-- The chained fixup table as rows of numbers (`mach-o/fixup-chains.h`), and the words of its chains.
use Rattle.std.specs.Prelude.{ℕ, ◌+◌, ◌*◌, ◌-◌, ◌/◌, ◌==◌, if◌then◌else◌, List, [], ◌∷◌, ◌++◌, length, map, get_or, take}
use Rattle.std.specs.List.{concat, range_with_len}
use Rattle.macho_bytes.specs.Numbers.{little, le_bytes, row_bytes}
use Rattle.macho_bytes.specs.Texts.{Stands}
use Rattle.macho_model.specs.Images.{POINTER_FORMAT}
use Rattle.macho_model.specs.Lists.{of_first}
use Rattle.macho_model.specs.Segments.{SEGMENT_PAGE}
use Rattle.macho_model.specs.Chain.{STRIDE}
use Rattle.macho_model.specs.Needs.{POINTER_SIZE}
use Rattle.macho_fixups.specs.declared.run.Fixup.{Fixup}
use Rattle.macho_fixups.specs.declared.run.FixupSegment.{FixupSegment}
use Rattle.macho_fixups.specs.Words.{word_of}
use Rattle.macho_fixups.specs.Runs.{pages_of, start_of}
use Rattle.macho_fixups.specs.Chains.{place_of}

-- what is told of a segment with fixups: the bytes of this, the page size, the pointer format, the segment's place from the base, 0 (no
-- greatest pointer), and the number and starts of its pages up to the last one with a fixup; nothing of a segment with none
unfoldable pub segment_rows : ℕ → List Fixup → FixupSegment → List ℕ
segment_rows base fixups s =
    let pages = pages_of s fixups in
    if pages == 0 then []
    else row_bytes little 4 ((22 + 2 * pages) ∷ []) ++ row_bytes little 2 (SEGMENT_PAGE ∷ POINTER_FORMAT ∷ [])
    ++ row_bytes little 8 ((s.address - base) ∷ []) ++ row_bytes little 4 (0 ∷ [])
    ++ row_bytes little 2 (pages ∷ map (λ page. start_of fixups (s.address / SEGMENT_PAGE + page)) (range_with_len 0 pages))

-- how far behind their start the text of segment k stands, behind the number of texts and an offset for each; 0 where it is empty
abbrev pub offset_of : List (List ℕ) → ℕ → ℕ
offset_of texts k = if length (get_or texts k []) == 0 then 0 else 4 + 4 * length texts + length (concat (take k texts))

-- the starts of an image: how many segments, an offset for each, and what is told of each
unfoldable pub image_rows : List (List ℕ) → List ℕ
image_rows texts = row_bytes little 4 (length texts ∷ map (offset_of texts) (range_with_len 0 (length texts))) ++ concat texts

-- THE table, of entries by their texts: a header (version 0, the places of starts, entries and names, the number and the format of the
-- entries, plain names), and these.
unfoldable pub table_rows : ℕ → List Fixup → List FixupSegment → ℕ → List (List ℕ) → List ℕ → List ℕ
table_rows base fixups segments format entries names =
    let starts = image_rows (map (segment_rows base fixups) segments) in
    row_bytes little 4 (0 ∷ 28 ∷ (28 + length starts) ∷ (28 + length starts + length (concat entries)) ∷ length entries ∷ format ∷ 0 ∷ [])
    ++ starts ++ concat entries ++ names

-- the steps from an address to the first of the fixups behind it; 0 where there is none, or it is on another page
abbrev pub step_to : ℕ → List Fixup → ℕ
step_to a fixups = of_first 0 (λ g. if a / SEGMENT_PAGE == g.address / SEGMENT_PAGE then (g.address - a) / STRIDE else 0) fixups

-- the word of each fixup stands at its place, with the steps to the next one
abbrev pub WordsStand : List FixupSegment → List Fixup → List ℕ → Type 0
WordsStand segments [] b = Unit {0}
WordsStand segments (f ∷ fixups) b =
    Stands b (record { at = place_of segments f.address; text = le_bytes POINTER_SIZE (word_of f.kind (step_to f.address fixups)) })
    × WordsStand segments fixups b
