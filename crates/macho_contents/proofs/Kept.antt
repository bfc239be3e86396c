-- Words and table in the final file.
--
-- A byte in no range of a section or slot is in no word, so it is as before the words were written. And where all bytes of these ranges
-- are as they were then, each word stands. The table stands at the front of its range, so what stands in the range begins with it.
use Rattle.std.proofs.Common.{◌≡◌, ℕ, ◌+◌, ◌<◌, ◌≤◌, List, length, drop, get_or, sym, ap, subst, ◌∙◌, arith, inl, inr}
use Rattle.std.specs.Prelude.{Contains, replicate}
use Rattle.std.proofs.lemmas.List.Edits.{get_or-between}
use Rattle.std.proofs.lemmas.List.Elements.{All-contains}
use Rattle.macho_bytes.specs.Numbers.{le_bytes}
use Rattle.macho_bytes.specs.Texts.{Part, Stands, IsOutside, end_of, put}
use Rattle.macho_bytes.proofs.Numbers.{little_is_sound, stands-front}
use Rattle.macho_bytes.proofs.Puts.{stands_by_bytes}
use Rattle.macho_model.specs.Needs.{POINTER_SIZE}
use Rattle.macho_model.specs.Links.{Link}
use Rattle.macho_model.specs.Placement.{Placed}
use Rattle.macho_model.specs.Zeros.{Span}
use Rattle.macho_model.specs.Head.{range_size}
use Rattle.macho_fixups.specs.declared.run.Fixup.{Fixup}
use Rattle.macho_fixups.specs.Words.{word_of}
use Rattle.macho_fixups.specs.Chains.{place_of, step_of}
use Rattle.macho_fixups.specs.Tables.{table_text}
use Rattle.macho_fixups.specs.Readings.{TableReadsBack}
use Rattle.macho_promise.specs.FixupsSay.{fixup_segments}
use Rattle.macho_model.specs.Fixups.{import_format}
use Rattle.macho_linkedit.specs.declared.imports.ImportTable.{ImportTable}
use Rattle.macho_linkedit.specs.Imports.{TableStands}
use Rattle.macho_linkedit.proofs.TableSays.{table_is_said}
use Rattle.macho_linkedit.proofs.FixupsSaid.{fixups_are_said}
use Rattle.macho_image_laws.proofs.TableLength.{table_long}
use Rattle.macho_contents.specs.Writing.{text_of_table, text_of_range}
use Rattle.macho_contents.specs.ChainingLaws.{word_ranges, WordLiesIn, AgreeIn, BytesOutsideStay, WordsStay, FixupsStand, FixupsAreKept, TableIsOf, ImportsAreKept}
use Rattle.macho_contents.proofs.ChainedRanges.{words_lie}
use Rattle.macho_model.specs.Spans.{IsOutsideSpan}

-- a byte outside a range is outside a word in it
outside_word : (i at : ℕ) (text : List ℕ) (s : Span) → length text ≡ 8 → s.start ≤ at → at + 8 ≤ s.start + s.size → IsOutsideSpan i s
    → IsOutside i (record { at = at; text = text })
outside_word i at text s long from to (inl before) = inl (omega (arith, before, from))
outside_word i at text s long from to (inr behind) = inr (omega (arith, behind, to, long))

-- the bytes of a word that stands
word_byte : (b : List ℕ) (q : Part) (i : ℕ) → Stands b q → i < length q.text → get_or b (q.at + i) 0 ≡ get_or q.text i 0
word_byte b q i stands lt =
    sym (get_or-between b q.at (end_of q) i 0 (omega (arith, lt))) ∙ ap (λ (t : List ℕ). get_or t i 0) stands.same

-- THE laws on words.
pub bytes_stay : BytesOutsideStay
bytes_stay l counts p run before now i can w outside =
    w.written.outside i (λ k d lt. by (get_or run k d) (step_of run k) (words_lie l counts p (get_or run k d) can (w.each k d lt)))
  where
    by : (f : Fixup) (next : ℕ) → (s : Span) × Contains (word_ranges l p) s × WordLiesIn (place_of (fixup_segments p) f.address) s
        → IsOutside i (record { at = place_of (fixup_segments p) f.address; text = le_bytes POINTER_SIZE (word_of f.kind next) })
    by f next (s, one, lies) =
        outside_word i (place_of (fixup_segments p) f.address) (le_bytes POINTER_SIZE (word_of f.kind next)) s
        (little_is_sound.long POINTER_SIZE (word_of f.kind next)) lies.from lies.to
        (All-contains (IsOutsideSpan i) (word_ranges l p) s outside one)

pub words_stay : WordsStay
words_stay l counts p run before now b can w long agree =
    record {
      each = λ k d lt. by (get_or run k d) (step_of run k) (words_lie l counts p (get_or run k d) can (w.each k d lt))
          (w.written.each k d lt);
    }
  where
    by : (f : Fixup) (next : ℕ) → (s : Span) × Contains (word_ranges l p) s × WordLiesIn (place_of (fixup_segments p) f.address) s
        → Stands now (record { at = place_of (fixup_segments p) f.address; text = le_bytes POINTER_SIZE (word_of f.kind next) })
        → Stands b (record { at = place_of (fixup_segments p) f.address; text = le_bytes POINTER_SIZE (word_of f.kind next) })
    by f next (s, one, lies) stands =
        let q : Part = record { at = place_of (fixup_segments p) f.address; text = le_bytes POINTER_SIZE (word_of f.kind next) } in
        let eight : length q.text ≡ 8 = little_is_sound.long POINTER_SIZE (word_of f.kind next) in
        stands_by_bytes b q (omega (arith, stands.within, long))
        (λ i lt. All-contains (AgreeIn now b) (word_ranges l p) s agree one (q.at + i) (omega (arith, lies.from))
        (omega (arith, lies.to, lt, eight))
        ∙ word_byte now q i stands lt)

-- what stands in the range begins with the table
table_stands : (l : Link) (p : Placed) (run : List Fixup) (t : ImportTable) (b : List ℕ) → FixupsStand l p run t b
    → Stands b (record { at = p.linkedit.fixups.start; text = text_of_table p run t })
unfolding text_of_range put
table_stands l p run t b stand =
    stands-front b p.linkedit.fixups.start (text_of_table p run t)
    (drop (0 + length (text_of_table p run t)) (replicate (range_size p.linkedit.fixups) 0)) stand.text

abbrev table_with : Placed → List Fixup → ImportTable → ℕ → List ℕ → List ℕ
table_with p run t format names = table_text p.base run (fixup_segments p) format t.entries.items names

-- the table stands in its range, the only one of its kind
table_in : (l : Link) (p : Placed) (run : List Fixup) (t : ImportTable) (b : List ℕ) → FixupsStand l p run t b → TableIsOf l p run t
    → TableStands b (record { at = p.linkedit.fixups.start; size = range_size p.linkedit.fixups }) p.base run (fixup_segments p) t.format
    t.entries.items t.names.items
table_in l p run t b stand is = record {
  one = stand.one;
  text = table_stands l p run t b stand;
  room = omega (arith, is.within, table_long p.base run (fixup_segments p) t.format t.entries.items t.names.items);
  reads = is.reads;
}

-- THE laws on the final file.
pub fixups_kept : FixupsAreKept
unfolding fixups_are_said
fixups_kept l p run t b stand is encoded = record {
  say =
      fixups_are_said l b p (record { at = p.linkedit.fixups.start; size = range_size p.linkedit.fixups }) run t.format t.entries.items
      t.names.items stand.run_is is.table (table_in l p run t b stand is) stand.words;
  run = stand.run_is.run;
  words = stand.words;
  entries = t.entries.items;
  text =
      subst (λ (n : List ℕ). Stands b (record { at = p.linkedit.fixups.start; text = table_with p run t (import_format l) n }))
      is.table.names_are
      (subst (λ (f : ℕ). Stands b (record { at = p.linkedit.fixups.start; text = table_with p run t f t.names.items })) is.table.format_is
      (table_stands l p run t b stand));
  chain = stand.chain;
  table =
      subst (λ (n : List ℕ). TableReadsBack p.base run (fixup_segments p) (import_format l) t.entries.items n) is.table.names_are
      (subst (λ (f : ℕ). TableReadsBack p.base run (fixup_segments p) f t.entries.items t.names.items) is.table.format_is is.reads);
  room =
      subst (λ (n : List ℕ). length (table_with p run t (import_format l) n) ≤ range_size p.linkedit.fixups) is.table.names_are
      (subst (λ (f : ℕ). length (table_with p run t f t.names.items) ≤ range_size p.linkedit.fixups) is.table.format_is is.within);
  inside = omega (arith, stand.text.within, is.long);
  encoded = encoded;
}

pub imports_kept : ImportsAreKept
imports_kept l p run t b stand is tell =
    table_is_said l b (record { at = p.linkedit.fixups.start; size = range_size p.linkedit.fixups }) p.base run (fixup_segments p) t.format
    t.entries.items t.names.items is.table is.entries tell (table_in l p run t b stand is)
