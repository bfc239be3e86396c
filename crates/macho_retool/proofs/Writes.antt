-- What is written into an image, text by text.
--
-- The front of the new command is three texts, each where the one before it ends. The digests are made of bytes below the signature alone,
-- so those of the bytes in front of it are those of the whole image, and a text put behind some bytes is put at their length.
use Rattle.std.proofs.Common.{◌≡◌, ℕ, ◌+◌, ◌*◌, ◌-◌, ◌<◌, ◌≤◌, List, [], ◌∷◌, ◌++◌, length, get_or, drop, slice_range, refl, sym, ap, ◌∙◌, arith, append_assoc, min, max, take, replicate, inl, inr}
use Rattle.std.proofs.lemmas.Bool.{cases_lt}
use Rattle.std.proofs.lemmas.List.{length-append, length-replicate, ext_get_or, get_or_append_left, get_or-append_right}
use Rattle.std.proofs.lemmas.List.Edits.{get_or-between, length-between}
use Rattle.macho_bytes.specs.Numbers.{little, le_bytes, row_bytes}
use Rattle.macho_bytes.specs.Texts.{put}
use Rattle.macho_bytes.proofs.Puts.{put-put, length-put, is_put, get_or-put_in, get_or-put_below, get_or-put_above}
use Rattle.macho_bytes.proofs.Numbers.{length-row_little}
use Rattle.macho_bytes.proofs.Rounding.{rounded-above}
use Rattle.macho_model.specs.WrittenSum.{SIGNED_PAGE}
use Rattle.macho_model.specs.Signature.{page_count, page_digest, page_digests}
use Rattle.macho_signature.proofs.Pages.{page_digests-alike}
use Rattle.macho_retool.specs.declared.change.Change.{Change}
use Rattle.macho_retool.specs.declared.change.Change.TheVariants.{Id, Library, Rpath}
use Rattle.macho_retool.specs.declared.form.Form.{Form}
use Rattle.macho_retool.specs.Changes.{command_number, record_size, path_for, new_size}
use Rattle.macho_retool.specs.steps.Rewritten.{PlaceFits, front, changed_commands, unsigned, signed_at}
use Rattle.macho_retool.specs.declared.rewriting.Place.{Place}
use Rattle.macho_retool.proofs.Lists.{written_all}

-- three texts in a row
pub front_put : (numbers kept path out a b c : List ℕ) (at : ℕ) → length numbers ≡ 12 → 12 + length kept ≡ at
    → at + length path ≤ length out
    → a ≡ put 0 numbers out → b ≡ put 12 kept a → c ≡ put at path b → c ≡ put 0 (numbers ++ (kept ++ path)) out
front_put numbers kept path out a b c at long next fits is_a is_b is_c =
    let l1 = length-append numbers kept in
    let two : b ≡ put 0 (numbers ++ kept) out =
    is_b ∙ ap (λ t. put 12 kept t) is_a ∙ put-put 0 12 numbers kept out (omega (arith, long)) (omega (arith, next, fits)) in
    is_c ∙ ap (λ t. put at path t) two
    ∙ put-put 0 at (numbers ++ kept) path out (omega (arith, long, next, l1)) fits
    ∙ ap (λ t. put 0 t out) (append_assoc numbers kept path)

-- a text put into what is behind some bytes
put_behind : (front text rest : List ℕ) (at : ℕ) → at + length text ≤ length rest
    → front ++ put at text rest ≡ put (length front + at) text (front ++ rest)
put_behind front text rest at fits =
    let long = length-append front rest in
    is_put (length front + at) text (front ++ rest) (front ++ put at text rest) (omega (arith, long, fits))
    (length-append front (put at text rest) ∙ ap (λ n. length front + n) (length-put at text rest fits) ∙ sym long)
    (λ i from to.
    get_or-append_right front (put at text rest) (length front) i 0 refl (omega (arith, from))
    ∙ get_or-put_in at text rest (i - length front) fits (omega (arith, from)) (omega (arith, to, from))
    ∙ ap (λ (k : ℕ). get_or text k 0) (omega (arith, from)))
    (λ i below. elim (cases_lt i (length front)) [
      | inl lt ↦ get_or_append_left front (put at text rest) 0 i lt ∙ sym (get_or_append_left front rest 0 i lt)
      | inr le ↦
          get_or-append_right front (put at text rest) (length front) i 0 refl le
          ∙ get_or-put_below at text rest (i - length front) fits (omega (arith, below, le))
          ∙ sym (get_or-append_right front rest (length front) i 0 refl le)
    ])
    (λ i above.
    get_or-append_right front (put at text rest) (length front) i 0 refl (omega (arith, above))
    ∙ get_or-put_above at text rest (i - length front) fits (omega (arith, above))
    ∙ sym (get_or-append_right front rest (length front) i 0 refl (omega (arith, above))))

-- the digests of bytes below a limit depend on these alone
pub digests-alike : (limit : ℕ) (b c : List ℕ) → limit ≤ length b → limit ≤ length c
    → ((i : ℕ) → i < limit → get_or b i 0 ≡ get_or c i 0) → page_digests b limit ≡ page_digests c limit
unfolding page_digest
digests-alike limit b c in_b in_c same = page_digests-alike b c limit (λ k. one k)
  where
    part : (from to : ℕ) → to ≤ limit → slice_range b from to ≡ slice_range c from to
    part from to below =
        ext_get_or 0 (slice_range b from to) (slice_range c from to)
        (length-between b from to (omega (arith, below, in_b)) ∙ sym (length-between c from to (omega (arith, below, in_c))))
        (λ i lt.
        let inside : from + i < to = omega (arith, lt, length-between b from to (omega (arith, below, in_b))) in
        get_or-between b from to i 0 inside ∙ same (from + i) (omega (arith, inside, below)) ∙ sym (get_or-between c from to i 0 inside))

    one : (k : ℕ) → page_digest b k limit ≡ page_digest c k limit
    one k = rw (part (SIGNED_PAGE * k) (min (SIGNED_PAGE * (k + 1)) limit) (omega arith)) refl

-- the image with its digests, from the bytes in front of the signature and those behind
pub signed_whole : (form : Form) (image front rest now : List ℕ) → image ≡ front ++ rest → length front ≡ form.limit
    → form.limit + form.hashes_offset + 32 * page_count form.limit ≤ length image
    → length (page_digests front (length front)) ≡ 32 * page_count (length front)
    → now ≡ put form.hashes_offset (page_digests front (length front)) rest → front ++ now ≡ signed_at form image
unfolding signed_at
signed_whole form image front rest now is long fits sized signed =
    let whole : length image ≡ length front + length rest = ap length is ∙ length-append front rest in
    let count : 32 * page_count (length front) ≡ 32 * page_count form.limit = ap (λ n. 32 * page_count n) long in
    let same : page_digests front (length front) ≡ page_digests image form.limit =
    ap (λ n. page_digests front n) long
    ∙ digests-alike form.limit front image (omega (arith, long)) (omega (arith, long, whole))
    (λ i lt. sym (ap (λ t. get_or t i 0) is ∙ get_or_append_left front rest 0 i (omega (arith, long, lt)))) in
    ap (λ t. front ++ t) signed
    ∙ put_behind front (page_digests front (length front)) rest form.hashes_offset (omega (arith, fits, sized, whole, long, count))
    ∙ ap (λ n. put (n + form.hashes_offset) (page_digests front (length front)) (front ++ rest)) long
    ∙ ap (λ t. put (form.limit + form.hashes_offset) t (front ++ rest)) same
    ∙ ap (λ t. put (form.limit + form.hashes_offset) (page_digests image form.limit) t) (sym is)

-- a command's record has 12 bytes at least
pub record_is : (change : Change) → 12 ≤ record_size change
record_is (Id name) = omega arith
record_is (Library number name) = omega arith
record_is (Rpath number name) = omega arith

-- the front of a new command has the bytes of its record and its path
pub length-front : (change : Change) (size : ℕ) (old : List ℕ) → record_size change ≤ length old
    → length (front change size old) ≡ record_size change + length (path_for change)
length-front change size old fits =
    let numbers = row_bytes little 4 (command_number change ∷ size ∷ record_size change ∷ []) in
    let kept = slice_range old 12 (record_size change) in
    let long : length numbers ≡ 12 = length-row_little 4 (command_number change ∷ size ∷ record_size change ∷ []) in
    let mid = length-between old 12 (record_size change) fits in
    omega (arith, long, mid, record_is change, length-append numbers (kept ++ path_for change), length-append kept (path_for change))

-- a new command has room for its path and a NUL
pub sized_for : (change : Change) → record_size change + length (path_for change) + 1 ≤ new_size change
sized_for change = rounded-above 8 (record_size change + length (path_for change) + 1) (omega arith)

-- the commands that are written are as long as the zeros that they are written over
pub length-changed : (change : Change) (b : List ℕ) (p : Place) (form : Form) → PlaceFits change b p form
    → length (changed_commands change b p) ≡ max p.old_end p.new_end - p.at
unfolding changed_commands
length-changed change b p form fits =
    let old = slice_range b p.at (length b) in
    let n = max p.old_end p.new_end - p.at in
    let zeros = replicate n 0 in
    let long : length zeros ≡ n = length-replicate {A = ℕ} n 0 in
    let whole : length old ≡ length b - p.at = length-between b p.at (length b) (omega arith) in
    let h1 = fits.record_fits in
    let h2 = fits.inside in
    let h3 = fits.old_signed in
    let h4 = fits.digests in
    let h5 = fits.sized in
    let h6 = fits.moves in
    let size = sized_for change in
    let mid = length-front change p.new_size old (omega (arith, whole, h1, h2, h3, h4)) in
    let first = length-put 0 (front change p.new_size old) zeros (omega (arith, mid, long, h1, h2, h5, h6, size)) in
    let tail = length-between b (p.at + p.old_size) p.old_end (omega (arith, h3, h4)) in
    length-put p.new_size (slice_range b (p.at + p.old_size) p.old_end) (put 0 (front change p.new_size old) zeros)
    (omega (arith, tail, first, long, h2, h6)) ∙ first ∙ long

-- the commands, as they were written
pub commands_written : (change : Change) (b : List ℕ) (p : Place) (n len : ℕ) (items zeros out : List ℕ) → zeros ≡ items
    → items ≡ replicate n 0 → n ≡ max p.old_end p.new_end - p.at → len ≡ length items
    → out ≡ put p.new_size (slice_range b (p.at + p.old_size) p.old_end) (put 0 (front change p.new_size (slice_range b p.at
    (length b))) zeros)
    → length out ≡ length zeros → take len (out ++ drop (length out) items) ≡ changed_commands change b p
unfolding changed_commands
commands_written change b p n len items zeros out same are is_n is_len is long =
    written_all len out items (long ∙ ap length same) is_len ∙ is
    ∙ ap (λ z. put p.new_size (slice_range b (p.at + p.old_size) p.old_end) (put 0 (front change p.new_size (slice_range b p.at
    (length b))) z))
    (same ∙ are ∙ ap (λ k. replicate k 0) is_n)

-- the image, as it was written
pub image_written : (change : Change) (b : List ℕ) (p : Place) (form : Form) (len : ℕ) (items before text out : List ℕ) → before ≡ items
    → items ≡ b → len ≡ length items → text ≡ changed_commands change b p
    → out ≡ signed_at form (put p.at text (put 20 (le_bytes 4 (p.new_end - 32)) before)) → length out ≡ length before
    → take len (out ++ drop (length out) items) ≡ signed_at form (unsigned change b p)
unfolding unsigned
image_written change b p form len items before text out same are is_len is_text is long =
    written_all len out items (long ∙ ap length same) is_len ∙ is
    ∙ ap (λ t. signed_at form (put p.at t (put 20 (le_bytes 4 (p.new_end - 32)) before))) is_text
    ∙ ap (λ z. signed_at form (put p.at (changed_commands change b p) (put 20 (le_bytes 4 (p.new_end - 32)) z))) (same ∙ are)
