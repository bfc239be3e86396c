-- The first wrong byte of a section that has bytes in the file.
--
-- The section has as many bytes as its header says, so the part of memory that is looked at is the section's. The marks are those of its
-- fields; the bytes without one are compared with the input's.
use Rattle.std.proofs.Common.{ℕ, List, length, slice_index, refl, sym, ap, ◌∙◌, arith}
use Rattle.macho_object.proofs.Options.{some_if}
use Rattle.macho_model.proofs.ObjectLaws.{section_long, keeps_of}
use Rattle.macho_image_rules.proofs.Marking.{bytes_are, byte_is_wrong}
use Rattle.macho_image_rules.proofs.Reading.{relocations_inside, marks_of}
use Rattle.macho_image_rules.proofs.marks.first_unlike.Goals as goal

pub field_marks-requires : goal.field_marks-requires
field_marks-requires c =
    let b = c.args.file.now.bytes in
    let k = c.args.place.section in
    let object = keeps_of c.args.file.now.is_dynamic b c.requires.object c.is_dynamic-object.ensures.kept in
    let bytes = (some_if _ _ _ c.in-Some-Some.ensures).1 in
    let list = (some_if _ _ _ c.in-Some-Some.ensures').1 in
    let long = ap length bytes ∙ section_long b k object c.requires.among c.requires.filled in
    relocations_inside b k (length c.in-Some-Some.bytes.now) c.in-Some-Some.list object c.requires.among long list

pub filed_bytes-found-requires-clause-mapped : goal.filed_bytes-found-requires-clause-mapped
filed_bytes-found-requires-clause-mapped c =
    let b = c.args.file.now.bytes in
    let k = c.args.place.section in
    let object = keeps_of c.args.file.now.is_dynamic b c.requires.object c.is_dynamic-object.ensures.kept in
    let bytes = (some_if _ _ _ c.in-Some-Some.ensures).1 in
    let long = ap length bytes ∙ section_long b k object c.requires.among c.requires.filled in
    λ some. c.requires.mapped (omega (arith, some, long))

pub filed_bytes-found-requires-clause-to : goal.filed_bytes-found-requires-clause-to
filed_bytes-found-requires-clause-to c =
    let b = c.args.file.now.bytes in
    let k = c.args.place.section in
    let object = keeps_of c.args.file.now.is_dynamic b c.requires.object c.is_dynamic-object.ensures.kept in
    let bytes = (some_if _ _ _ c.in-Some-Some.ensures).1 in
    let long = ap length bytes ∙ section_long b k object c.requires.among c.requires.filled in
    omega (arith, long, c.requires.to)

pub returns-in-Some-clause-why : goal.returns-in-Some-clause-why
returns-in-Some-clause-why c = λ l same.
    let b = c.args.file.now.bytes in
    let k = c.args.place.section in
    let object = keeps_of c.args.file.now.is_dynamic b c.requires.object c.is_dynamic-object.ensures.kept in
    let bytes = (some_if _ _ _ c.in-Some-Some.ensures).1 in
    let list = (some_if _ _ _ c.in-Some-Some.ensures').1 in
    let long = ap length bytes ∙ section_long b k object c.requires.among c.requires.filled in
    let why = c.in-Some.ensures.why in
    byte_is_wrong l c.args.image.now c.args.place b (length c.in-Some-Some.bytes.now) c.deref.result.now c.filed_bytes-found.result.now
    c.in-Some.i same
    (marks_of b k (length c.in-Some-Some.bytes.now) c.in-Some-Some.list c.in_ok-marks.marks.items c.deref.result.now list
    c.deref.ensures.value c.in_ok-marks.ensures)
    long (λ v byte. c.filed_bytes-found.ensures.only c.in-Some.i v why.0 byte) why.0 why.1
    (λ equal. why.2 (equal ∙ sym (ap (λ (x : List ℕ). slice_index x c.in-Some.i) bytes)))

pub returns-clause-found : goal.returns-clause-found
returns-clause-found c = λ l same none.
    let b = c.args.file.now.bytes in
    let k = c.args.place.section in
    let object = keeps_of c.args.file.now.is_dynamic b c.requires.object c.is_dynamic-object.ensures.kept in
    let bytes = (some_if _ _ _ c.in-Some-Some.ensures).1 in
    let list = (some_if _ _ _ c.in-Some-Some.ensures').1 in
    let long = ap length bytes ∙ section_long b k object c.requires.among c.requires.filled in
    bytes_are l c.args.image.now c.args.place b (length c.in-Some-Some.bytes.now) c.deref.result.now c.filed_bytes-found.result.now same
    (marks_of b k (length c.in-Some-Some.bytes.now) c.in-Some-Some.list c.in_ok-marks.marks.items c.deref.result.now list
    c.deref.ensures.value c.in_ok-marks.ensures)
    long c.filed_bytes-found.ensures.each
    (λ i low clear. c.in-None.ensures.found refl i low clear ∙ ap (λ (x : List ℕ). slice_index x i) bytes)
