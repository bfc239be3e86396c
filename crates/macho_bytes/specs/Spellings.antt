-- How a record is spelled: a table of its fields in order, in rows of one width. What its layout reads of bytes is what the rows say.
use Rattle.std.specs.Prelude.{◌≡◌, ℕ, zero, suc, ◌+◌, ◌*◌, List, [], ◌∷◌, ◌++◌, length, slice_range, slice_index}
use Rattle.macho_bytes.specs.Numbers.{ByteOrder, row_bytes}
use Rattle.macho_bytes.specs.Texts.{Stands}
use Rattle.macho_bytes.specs.Layouts.{Layout, size_of, reading}

-- A row of a record R: numbers of one width in bytes, or a text. Each has the fields of a record, and a
-- record with these fields set.
pub data Row (R : Type 0) : Type 0 where
  numbers : (width : ℕ) (fields : R → List ℕ) (set : (ℕ → ℕ) → R → R) → Row R
  text : (field : R → List ℕ) (set : List ℕ → R → R) → Row R

-- how many bytes a row has
abbrev pub row_size : {R : Type 0} → R → Row R → ℕ
row_size blank (numbers width fields set) = width * length (fields blank)
row_size blank (text field set) = length (field blank)

abbrev pub size_from : {R : Type 0} → R → ℕ → List (Row R) → ℕ
size_from blank offset [] = offset
size_from blank offset (row ∷ rows) = size_from blank (offset + row_size blank row) rows

-- so many numbers of a width, one after the other, from a place plus an offset on
abbrev pub numbers_at : ByteOrder → ℕ → List ℕ → ℕ → ℕ → ℕ → List ℕ
numbers_at order width bytes at offset zero = []
numbers_at order width bytes at offset (suc count) =
    order.number_at width bytes (at + offset) ∷ numbers_at order width bytes at (offset + width) count

-- a record with the fields of a row as the bytes say, at a place plus the row's offset
abbrev pub row_read : {R : Type 0} → ByteOrder → R → List ℕ → ℕ → ℕ → R → Row R → R
row_read order blank bytes at offset r (numbers width fields set) =
    set (slice_index (numbers_at order width bytes at offset (length (fields blank)))) r
row_read order blank bytes at offset r (text field set) = set (slice_range bytes (at + offset) (at + (offset + length (field blank)))) r

abbrev pub read_from : {R : Type 0} → ByteOrder → R → List ℕ → ℕ → ℕ → R → List (Row R) → R
read_from order blank bytes at offset r [] = r
read_from order blank bytes at offset r (row ∷ rows) =
    read_from order blank bytes at (offset + row_size blank row) (row_read order blank bytes at offset r row) rows

-- The rows of a record, in order. `blank` is any record with texts of the right lengths: it tells how many bytes each row has. The layout
-- has as many bytes as the rows, and says the same of all bytes.
pub record Spelled (R : Type 0) : Type 0 where
  pub layout : Layout R
  pub blank : R
  pub rows : List (Row R)
  pub sized : size_from blank 0 rows ≡ layout.size
  pub same : (bytes : List ℕ) (at : ℕ)
      → layout.make (λ width offset. layout.order.number_at width bytes (at + offset))
      (λ offset. slice_range bytes (at + offset) (at + (offset + 16)))
      ≡ read_from layout.order blank bytes at 0 blank rows

-- the bytes that a record's fields of a row are spelled by
abbrev pub row_text : {R : Type 0} → ByteOrder → R → Row R → List ℕ
row_text order r (numbers width fields set) = row_bytes order width (fields r)
row_text order r (text field set) = field r

abbrev pub text_from : {R : Type 0} → ByteOrder → R → List ℕ → List (Row R) → List ℕ
text_from order r front [] = front
text_from order r front (row ∷ rows) = text_from order r (front ++ row_text order r row) rows

-- the spelling of a record
unfoldable pub spelling : {R : Type 0} → Spelled R → R → List ℕ
spelling s r = text_from s.layout.order r [] s.rows

-- A record's spelling has the layout's size, and wherever it stands the bytes say this record.
pub record ReadsBack {R : Type 0} (s : Spelled R) (r : R) : Type 0 where
  pub long : length (spelling s r) ≡ size_of s.layout
  pub back : (bytes : List ℕ) (i : ℕ) → Stands bytes (record { at = i; text = spelling s r }) → reading s.layout bytes i ≡ r
