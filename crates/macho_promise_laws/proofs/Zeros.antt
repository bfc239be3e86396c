-- What is outside every content of the file is 0.
--
-- The contents that the file tells are the ranges of sections, slots and stubs, and the texts behind them; of the fixup table the range
-- tells
-- more than its text, and what is behind the names there is 0 too.
use Rattle.std.proofs.Common.{◌≡◌, ℕ, suc, ◌+◌, ◌-◌, ◌<◌, ◌≤◌, ◌⊎◌, inl, inr, List, [], ◌∷◌, ◌++◌, length, get_or, slice_index, replicate, sym, ap, subst, ◌∙◌, arith, append_assoc, All}
use Rattle.std.proofs.lemmas.Bool.{cases_lt}
use Rattle.std.proofs.lemmas.List.{length-replicate, get_or-replicate, get_or_past}
use Rattle.std.proofs.lemmas.List.Edits.{get_or-between}
use Rattle.macho_bytes.specs.Texts.{Part, end_of, Stands, IsOutside}
use Rattle.macho_bytes.proofs.Puts.{get_or-put_above}
use Rattle.macho_model.specs.Links.{Link}
use Rattle.macho_model.specs.Placement.{Placed}
use Rattle.macho_model.specs.Zeros.{Span, contents_of, IsZeroElsewhere}
use Rattle.macho_model.specs.Spans.{range_span, IsOutsideSpan, in_file}
use Rattle.macho_model.specs.Addresses.{offset_in_file}
use Rattle.macho_model.specs.Commands.{commands_end}
use Rattle.macho_model.specs.Head.{range_size}
use Rattle.macho_model.specs.Images.{fixups_header, tables_of, tries_of, symbol_tables_of, string_tables_of, signatures_of}
use Rattle.macho_model.specs.ImportTable.{names_text}
use Rattle.macho_fixups.specs.declared.run.Fixup.{Fixup}
use Rattle.macho_fixups.specs.Tables.{names_place}
use Rattle.macho_promise.specs.FixupsSay.{fixup_segments}
use Rattle.macho_linkedit.specs.declared.imports.ImportTable.{ImportTable}
use Rattle.macho_contents.specs.Writing.{text_of_range, text_of_table}
use Rattle.macho_contents.specs.ChainingLaws.{TableIsOf}
use Rattle.macho_image_laws.proofs.TableLength.{table_long}
use Rattle.macho_promise_laws.specs.Written.{Texts, text_parts, content_ranges, AreStanding}
use Rattle.macho_promise_laws.proofs.Slices.{each_all}
use Rattle.macho_model.specs.steps.Zeros.{fixups_content}
use Rattle.macho_bytes.proofs.Members.{all_left, all_right}

-- The tables and the head of the file, as it tells them: each as long as its text, but for the fixup table.
pub record AreTold (p : Placed) (run : List Fixup) (t : Texts) (b : List ℕ) : Type 0 where
  pub head : commands_end b ≡ length t.head
  pub fixups : tables_of b ≡ record { at = p.linkedit.fixups.start; size = range_size p.linkedit.fixups } ∷ []
  pub trie : tries_of b ≡ record { at = p.linkedit.trie.start; size = length t.trie } ∷ []
  pub symbols : symbol_tables_of b ≡ record { at = p.linkedit.symtab.start; size = length t.symbols } ∷ []
  pub strings : string_tables_of b ≡ record { at = p.linkedit.strtab.start; size = length t.strings } ∷ []
  pub signature : (size : ℕ) × (signatures_of b ≡ record { at = p.linkedit.signature.start; size = size } ∷ [])
      × (length t.signature ≤ size)

-- The names of the fixup table end its content.
pub record NamesEnd (l : Link) (p : Placed) (run : List Fixup) (imports : ImportTable) (b : List ℕ) : Type 0 where
  pub of_link : TableIsOf l p run imports
  pub place : (fixups_header b (record { at = p.linkedit.fixups.start; size = range_size p.linkedit.fixups })).symbols_offset
      ≡ names_place run (fixup_segments p) imports.format imports.entries.items

-- behind the table its range is 0
zero_behind : (l : Link) (p : Placed) (run : List Fixup) (imports : ImportTable) (k : ℕ) → TableIsOf l p run imports
    → length (text_of_table p run imports) ≤ k → slice_index (text_of_range p run imports) k ≡ 0
unfolding text_of_range
zero_behind l p run imports k is behind =
    let long = length-replicate {A = ℕ} (range_size p.linkedit.fixups) 0 in
    get_or-put_above 0 (text_of_table p run imports) (replicate (range_size p.linkedit.fixups) 0) k (omega (arith, is.within, long))
    (omega (arith, behind))
    ∙ by (cases_lt k (range_size p.linkedit.fixups))
  where
    by : (k < range_size p.linkedit.fixups) ⊎ (range_size p.linkedit.fixups ≤ k)
        → slice_index (replicate (range_size p.linkedit.fixups) 0) k ≡ 0
    by (inl lt) = get_or-replicate (range_size p.linkedit.fixups) k 0 0 lt
    by (inr le) =
        get_or_past (replicate (range_size p.linkedit.fixups) 0) k 0
        (omega (arith, le, length-replicate {A = ℕ} (range_size p.linkedit.fixups) 0))

-- a byte of a part is a byte of its text
byte_of : (b : List ℕ) (q : Part) (i : ℕ) → Stands b q → q.at ≤ i → i < end_of q → slice_index b i ≡ slice_index q.text (i - q.at)
byte_of b q i stands from to =
    sym (get_or-between b q.at (end_of q) (i - q.at) 0 (omega (arith, stands.within, from, to))
    ∙ ap (λ (k : ℕ). get_or b k 0) (omega (arith, from)))
    ∙ ap (λ (t : List ℕ). get_or t (i - q.at) 0) stands.same

-- what is outside a range is outside a text at its front
narrower : (i at size : ℕ) (text : List ℕ) → length text ≤ size → IsOutsideSpan i (record { start = at; size = size })
    → IsOutside i (record { at = at; text = text })
narrower i at size text fits (inl below) = inl below
narrower i at size text fits (inr above) = inr (omega (arith, above, fits))

-- the ranges that the file tells of what is behind the contents
abbrev pub front_told : Link → List ℕ → Placed → ℕ → List Span
front_told l b p unwind =
    in_file p (range_span p.init_offsets) ∷ in_file p (record { start = p.unwind.start; size = unwind })
    ∷ fixups_content l b (record { at = p.linkedit.fixups.start; size = range_size p.linkedit.fixups }) ∷ []

abbrev pub back_told : (p : Placed) (run : List Fixup) (t : Texts) (b : List ℕ) → AreTold p run t b → List Span
back_told p run t b told =
    record { start = p.linkedit.trie.start; size = length t.trie } ∷ record { start = p.linkedit.symtab.start; size = length t.symbols }
    ∷ record { start = p.linkedit.strtab.start; size = length t.strings }
    ∷ record { start = p.linkedit.signature.start; size = told.signature.0 } ∷ []

-- the contents that the file tells, written out
contents_told : (l : Link) (p : Placed) (run : List Fixup) (t : Texts) (b : List ℕ) (unwind : ℕ) (told : AreTold p run t b)
    → contents_of l b p unwind
    ≡ (record { start = 0; size = commands_end b } ∷ content_ranges l p) ++ (front_told l b p unwind ++ back_told p run t b told)
unfolding contents_of content_ranges
contents_told l p run t b unwind told =
    rw (told.fixups, told.trie, told.symbols, told.strings, told.signature.1)
    (append_assoc (record { start = 0; size = commands_end b } ∷ content_ranges l p) (front_told l b p unwind) (back_told p run t b told))

-- THE bytes outside all contents
pub zero_elsewhere : (l : Link) (p : Placed) (run : List Fixup) (t : Texts) (n : ℕ) (b : List ℕ) (imports : ImportTable)
    → AreStanding l p run t n b
    → AreTold p run t b → NamesEnd l p run imports b → t.fixups ≡ text_of_range p run imports
    → length t.initializers ≤ p.init_offsets.end - p.init_offsets.start
    → IsZeroElsewhere l b p (length t.unwind)
zero_elsewhere l p run t n b imports stands told names is fits i within outside =
    by (subst (λ (xs : List Span). All (IsOutsideSpan i) xs) (contents_told l p run t b (length t.unwind) told) outside)
  where
    by : All (IsOutsideSpan i)
        ((record { start = 0; size = commands_end b } ∷ content_ranges l p) ++ (front_told l b p (length t.unwind) ++ back_told p run t b
        told))
        → slice_index b i ≡ 0
    by out = decide (cases_lt i p.linkedit.fixups.start)
      where
        spans : List Span
        spans = record { start = 0; size = commands_end b } ∷ content_ranges l p

        others : List Span
        others = front_told l b p (length t.unwind) ++ back_told p run t b told

        first : All (IsOutsideSpan i) spans
        first = all_left (IsOutsideSpan i) spans others out

        behind : All (IsOutsideSpan i) others
        behind = all_right (IsOutsideSpan i) spans others out

        d : Span
        d = record { start = 0; size = 0 }

        table : Part
        table = record { at = p.linkedit.fixups.start; text = t.fixups }

        rest : IsOutside i table → slice_index b i ≡ 0
        rest there =
            stands.rest i (λ k e lt. first (suc k) e (omega (arith, lt)))
            (each_all (IsOutside i) (text_parts p t) (
              narrower i (offset_in_file p p.init_offsets.start) (p.init_offsets.end - p.init_offsets.start) t.initializers fits
                  (behind 0 d (omega arith)),
              (
                narrower i (offset_in_file p p.unwind.start) (length t.unwind) t.unwind (omega arith) (behind 1 d (omega arith)),
                (
                  there,
                  (
                    narrower i p.linkedit.trie.start (length t.trie) t.trie (omega arith) (behind 3 d (omega arith)),
                    (
                      narrower i p.linkedit.symtab.start (length t.symbols) t.symbols (omega arith) (behind 4 d (omega arith)),
                      (
                        narrower i p.linkedit.strtab.start (length t.strings) t.strings (omega arith) (behind 5 d (omega arith)),
                        (
                          narrower i 0 (commands_end b) t.head (omega (arith, told.head)) (first 0 d (omega arith)),
                          (
                            narrower i p.linkedit.signature.start told.signature.0 t.signature told.signature.2 (behind 6 d (omega arith)),
                            tt,
                          ),
                        ),
                      ),
                    ),
                  ),
                ),
              ),
            ))

        inside : p.linkedit.fixups.start ≤ i → i < p.linkedit.fixups.start + length t.fixups
            → IsOutsideSpan i (fixups_content l b (record { at = p.linkedit.fixups.start; size = range_size p.linkedit.fixups }))
            → slice_index b i ≡ 0
        inside from to (inl below) = absurd (omega (arith, from, below))
        inside from to (inr above) =
            let names_are : length imports.names.items ≡ length (names_text l) = ap length names.of_link.table.names_are in
            let long : length (text_of_table p run imports) ≤ i - p.linkedit.fixups.start =
            omega (
              arith,
              above,
              names.place,
              names_are,
              table_long p.base run (fixup_segments p) imports.format imports.entries.items imports.names.items,
            ) in
            byte_of b table i (stands.texts 2 table (omega arith)) from to
            ∙ ap (λ (text : List ℕ). slice_index text (i - p.linkedit.fixups.start)) is
            ∙ zero_behind l p run imports (i - p.linkedit.fixups.start) names.of_link long

        decide : (i < p.linkedit.fixups.start) ⊎ (p.linkedit.fixups.start ≤ i) → slice_index b i ≡ 0
        decide (inl below) = rest (inl (omega (arith, below)))
        decide (inr from) = elim (cases_lt i (p.linkedit.fixups.start + length t.fixups)) [
          | inl to ↦ inside from to (behind 2 d (omega arith))
          | inr above ↦ rest (inr above)
        ]
