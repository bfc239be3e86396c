-- A record reads back from its spelling, by its layout alone.
--
-- The spelling is the rows' texts joined end to end. Where it stands, each row's text stands at the record's place
-- plus the lengths before it. There the numbers of the row are read back one by one, and a text is the bytes
-- themselves. So reading sets, row by row, the fields that the record has. Setting all fields of any record to those
-- of r gives r: that is true by computing for each layout, and is the only fact asked of one.
use Rattle.std.proofs.Common.{◌≡◌, ℕ, ◌+◌, ◌*◌, List, [], ◌∷◌, ◌++◌, length, slice_range, slice_index, refl, sym, ap, ◌∙◌, arith, append_assoc}
use Rattle.std.proofs.lemmas.List.{length-append, append-nil}
use Rattle.macho_bytes.specs.Numbers.{ByteOrder, little, big, row_bytes, AllBelow}
use Rattle.macho_bytes.specs.Texts.{Stands}
use Rattle.macho_bytes.specs.Layouts.{size_of, reading}
use Rattle.macho_bytes.specs.Spellings.{Row, numbers, text, Spelled, row_text, row_size, row_read, numbers_at, size_from, text_from, spelling, read_from, ReadsBack}
use Rattle.macho_bytes.proofs.Numbers.{IsSound, little_is_sound, big_is_sound, number-stands, stands-front, stands-back, length-row_bytes, length-row_little, length-row_big}
use Rattle.macho_bytes.proofs.Puts.{put-put, length-put}

-- the fields of a row fit it
abbrev pub RowFits : {R : Type 0} → R → R → Row R → Type 0
RowFits blank r (numbers width fields set) = AllBelow width (fields r) × (length (fields r) ≡ length (fields blank))
RowFits blank r (text field set) = length (field r) ≡ length (field blank)

abbrev pub RowsFit : {R : Type 0} → R → R → List (Row R) → Type 0
RowsFit blank r [] = Unit {0}
RowsFit blank r (row ∷ rows) = RowFits blank r row × RowsFit blank r rows

-- r0 with the fields of a row as r has them
abbrev pub row_filled : {R : Type 0} → R → R → Row R → R
row_filled r0 r (numbers width fields set) = set (slice_index (fields r)) r0
row_filled r0 r (text field set) = set (field r) r0

abbrev pub filled : {R : Type 0} → R → R → List (Row R) → R
filled r0 r [] = r0
filled r0 r (row ∷ rows) = filled (row_filled r0 r row) r rows

-- a row of numbers reads back where it stands
numbers_at-stands : (order : ByteOrder) → IsSound order → (w : ℕ) (ns bytes : List ℕ) (at offset : ℕ) → AllBelow w ns
    → Stands bytes (record { at = at + offset; text = row_bytes order w ns }) → numbers_at order w bytes at offset (length ns) ≡ ns
unfolding row_bytes
numbers_at-stands order sound w [] bytes at offset fits s = refl
numbers_at-stands order sound w (n ∷ ns) bytes at offset fits s =
    let here = number-stands order sound w n bytes (at + offset) fits.0
    (stands-front bytes (at + offset) (order.bytes_of w n) (row_bytes order w ns) s) in
    let next : at + (offset + w) ≡ at + offset + length (order.bytes_of w n) = omega (arith, sound.long w n) in
    let rest = numbers_at-stands order sound w ns bytes at (offset + w) fits.1
    (stands-back bytes (at + offset) (at + (offset + w)) (order.bytes_of w n) (row_bytes order w ns) next s) in
    rw (here, rest) refl

-- a row reads back where it stands
row_read-stands : {R : Type 0} (order : ByteOrder) → IsSound order → (blank r r0 : R) (bytes : List ℕ) (at offset : ℕ) (row : Row R)
    → RowFits blank r row
    → Stands bytes (record { at = at + offset; text = row_text order r row })
    → row_read order blank bytes at offset r0 row ≡ row_filled r0 r row
row_read-stands order sound blank r r0 bytes at offset (numbers width fields set) fits s =
    let same : numbers_at order width bytes at offset (length (fields blank)) ≡ fields r =
    ap (λ (k : ℕ). numbers_at order width bytes at offset k) (sym fits.1)
    ∙ numbers_at-stands order sound width (fields r) bytes at offset fits.0 s in
    ap (λ (ns : List ℕ). set (slice_index ns) r0) same
row_read-stands order sound blank r r0 bytes at offset (text field set) fits s =
    let ends : at + (offset + length (field blank)) ≡ at + offset + length (field r) = omega (arith, fits) in
    ap (λ (t : List ℕ). set t r0) (ap (λ (e : ℕ). slice_range bytes (at + offset) e) ends ∙ s.same)

-- the size of a row is the length of its text
length-row_text : {R : Type 0} (order : ByteOrder) → IsSound order → (blank r : R) (row : Row R) → RowFits blank r row
    → length (row_text order r row) ≡ row_size blank row
length-row_text order sound blank r (numbers width fields set) fits = length-row_bytes order sound width (fields r)
    ∙ ap (λ (k : ℕ). width * k) fits.1
length-row_text order sound blank r (text field set) fits = fits

-- what stands in front of a spelling stays in front
text_from-front : {R : Type 0} (order : ByteOrder) (r : R) (front : List ℕ) (rows : List (Row R))
    → text_from order r front rows ≡ front ++ text_from order r [] rows
text_from-front order r front [] = sym (append-nil front)
text_from-front order r front (row ∷ rows) =
    text_from-front order r (front ++ row_text order r row) rows
    ∙ append_assoc front (row_text order r row) (text_from order r [] rows)
    ∙ ap (λ (t : List ℕ). front ++ t) (sym (text_from-front order r (row_text order r row) rows))

-- the rest of a record reads back where its spelling stands
read_from-stands : {R : Type 0} (order : ByteOrder) → IsSound order
    → (blank r : R) (bytes : List ℕ) (at : ℕ) (rows : List (Row R)) (offset : ℕ) (r0 : R) (front : List ℕ)
    → length front ≡ offset → RowsFit blank r rows → Stands bytes (record { at = at; text = text_from order r front rows })
    → read_from order blank bytes at offset r0 rows ≡ filled r0 r rows
read_from-stands order sound blank r bytes at [] offset r0 front long fits s = refl
read_from-stands {R = R} order sound blank r bytes at (row ∷ rows) offset r0 front long fits s =
    let size = length-row_text order sound blank r row fits.0 in
    let whole : Stands bytes (record { at = at; text = (front ++ row_text order r row) ++ text_from order r [] rows }) =
    rw (← text_from-front order r (front ++ row_text order r row) rows) s in
    let both = stands-front bytes at (front ++ row_text order r row) (text_from order r [] rows) whole in
    let here = stands-back bytes at (at + offset) front (row_text order r row) (omega (arith, long)) both in
    let first = row_read-stands order sound blank r r0 bytes at offset row fits.0 here in
    let rest = read_from-stands order sound blank r bytes at rows (offset + row_size blank row) (row_filled r0 r row)
    (front ++ row_text order r row)
    (omega (arith, long, size, length-append front (row_text order r row))) fits.1 s in
    ap (λ (x : R). read_from order blank bytes at (offset + row_size blank row) x rows) first ∙ rest

-- the length of a spelling
length-text_from : {R : Type 0} (order : ByteOrder) → IsSound order → (blank r : R) (rows : List (Row R)) (offset : ℕ) (front : List ℕ)
    → length front ≡ offset → RowsFit blank r rows → length (text_from order r front rows) ≡ size_from blank offset rows
length-text_from order sound blank r [] offset front long fits = long
length-text_from order sound blank r (row ∷ rows) offset front long fits =
    length-text_from order sound blank r rows (offset + row_size blank row) (front ++ row_text order r row)
    (omega (arith, long, length-append front (row_text order r row), length-row_text order sound blank r row fits.0)) fits.1

-- the fields of a row are as many as its layout says
abbrev pub RowLong : {R : Type 0} → R → R → Row R → Type 0
RowLong blank r (numbers width fields set) = length (fields r) ≡ length (fields blank)
RowLong blank r (text field set) = length (field r) ≡ length (field blank)

abbrev pub RowsLong : {R : Type 0} → R → R → List (Row R) → Type 0
RowsLong blank r [] = Unit {0}
RowsLong blank r (row ∷ rows) = RowLong blank r row × RowsLong blank r rows

length-row_long : {R : Type 0} (order : ByteOrder) → IsSound order → (blank r : R) (row : Row R) → RowLong blank r row
    → length (row_text order r row) ≡ row_size blank row
length-row_long order sound blank r (numbers width fields set) long = length-row_bytes order sound width (fields r)
    ∙ ap (λ (k : ℕ). width * k) long
length-row_long order sound blank r (text field set) long = long

length-text_long : {R : Type 0} (order : ByteOrder) → IsSound order → (blank r : R) (rows : List (Row R)) (offset : ℕ) (front : List ℕ)
    → length front ≡ offset → RowsLong blank r rows → length (text_from order r front rows) ≡ size_from blank offset rows
length-text_long order sound blank r [] offset front is long = is
length-text_long order sound blank r (row ∷ rows) offset front is long =
    length-text_long order sound blank r rows (offset + row_size blank row) (front ++ row_text order r row)
    (omega (arith, is, length-append front (row_text order r row), length-row_long order sound blank r row long.0)) long.1

-- the length of a spelling, whatever its numbers: it asks only that each text has its length
pub length-spelling : {R : Type 0} (s : Spelled R) (r : R) → IsSound s.layout.order → RowsLong s.blank r s.rows
    → length (spelling s r) ≡ size_of s.layout
unfolding spelling
length-spelling s r sound long = length-text_long s.layout.order sound s.blank r s.rows 0 [] refl long ∙ s.sized

-- The one lemma for every record: if its fields fit their rows, and filling a blank record with them gives it back.
pub reads_back : {R : Type 0} (s : Spelled R) (r : R) → IsSound s.layout.order → RowsFit s.blank r s.rows → filled s.blank r s.rows ≡ r
    → ReadsBack s r
unfolding spelling reading
reads_back s r sound fits whole =
    record {
      long = length-text_from s.layout.order sound s.blank r s.rows 0 [] refl fits ∙ s.sized;
      back = λ bytes i stands.
          s.same bytes i ∙ read_from-stands s.layout.order sound s.blank r bytes i s.rows 0 s.blank [] refl fits stands ∙ whole;
    }

-- the same, part by part and for each byte order, as a tactic finds it
pub length-spelling_little : {R : Type 0} (s : Spelled R) (r : R) → s.layout.order ≡ little → RowsFit s.blank r s.rows
    → filled s.blank r s.rows ≡ r
    → length (spelling s r) ≡ size_of s.layout
length-spelling_little s r is fits whole = (reads_back s r (rw is little_is_sound) fits whole).long

pub reading-stands_little : {R : Type 0} (s : Spelled R) (r : R) (bytes : List ℕ) (i : ℕ) → s.layout.order ≡ little
    → RowsFit s.blank r s.rows
    → filled s.blank r s.rows ≡ r → Stands bytes (record { at = i; text = spelling s r }) → reading s.layout bytes i ≡ r
reading-stands_little s r bytes i is fits whole stands = (reads_back s r (rw is little_is_sound) fits whole).back bytes i stands

pub length-spelling_big : {R : Type 0} (s : Spelled R) (r : R) → s.layout.order ≡ big → RowsFit s.blank r s.rows
    → filled s.blank r s.rows ≡ r
    → length (spelling s r) ≡ size_of s.layout
length-spelling_big s r is fits whole = (reads_back s r (rw is big_is_sound) fits whole).long

pub reading-stands_big : {R : Type 0} (s : Spelled R) (r : R) (bytes : List ℕ) (i : ℕ) → s.layout.order ≡ big → RowsFit s.blank r s.rows
    → filled s.blank r s.rows ≡ r → Stands bytes (record { at = i; text = spelling s r }) → reading s.layout bytes i ≡ r
reading-stands_big s r bytes i is fits whole stands = (reads_back s r (rw is big_is_sound) fits whole).back bytes i stands

-- a spelling is its rows' texts, joined
pub spelling_is : {R : Type 0} (s : Spelled R) (r : R) → spelling s r ≡ text_from s.layout.order r [] s.rows
unfolding spelling
spelling_is s r = refl

-- what the write of a little-endian record is proved by: its rows are puts next to each other, and it reads back
pub ruleset little_record = (
  spelling_is,
  put-put,
  length-put,
  length-row_little,
  length-append,
  length-spelling_little,
  reading-stands_little,
)

-- the same of a big-endian record
pub ruleset big_record = (spelling_is, put-put, length-put, length-row_big, length-append, length-spelling_big, reading-stands_big)
