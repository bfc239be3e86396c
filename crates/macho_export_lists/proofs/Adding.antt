-- Entries that are added to a list: those of one line, and of a text line by line. A text has a first line and the lines
-- behind it, so its entries are that line's and those of the rest. Taking off what was added leaves what was there.
use Rattle.std.proofs.Common.{◌≡◌, ℕ, ◌+◌, ◌==◌, not, true, false, Bool, List, [], ◌∷◌, ◌++◌, length, get_or, take, drop, map, filter, refl, ap, sym, ◌∙◌, arith, append-nil, vec_len}
use Rattle.std.proofs.lemmas.Bool.{false_from_ne_true}
use Rattle.std.proofs.lemmas.List.{append_assoc, take-map, take_at, length-map, get_or_default}
use Rattle.std.proofs.lemmas.List.Elements.{filter-append}
use Rattle.std.proofs.lemmas.List.Splits.{slice_split_first, slice_split_none}
use Rattle.std.proofs.lemmas.List.Sums.{position_or_len_is}
use Rattle.std.specs.List.{slice_split, position_or_len}
use Rattle.std.specs.declared.vec.Vec.{Vec}
use Rattle.memchr.specs.Find.{Nowhere, NoneBefore, Passes, is_byte}
use Rattle.macho_model.specs.ExportLists.{entries_of, all_entries, plain_entries}
use Rattle.macho_export_lists.specs.Entries.{ListEntries, IsListOf, texts_of}
use Rattle.macho_export_lists.specs.steps.Lines.{is_newline, is_entry, entry_in, NEWLINE, entry_of, is_pattern}
use Rattle.macho_export_lists.specs.steps.Lists.{Adds, IsLonger, IsReading, no_entries}
use Rattle.macho_bytes.proofs.Comparing.{vec_len_is}

-- nothing, one plain entry, one pattern
pub adds_none : (e : ListEntries) → Adds e e []
adds_none e = record { plain = sym (append-nil e.plain); patterns = sym (append-nil e.patterns) }

joined : (p : List ℕ → Bool) (a b c xs ys : List (List ℕ)) → b ≡ a ++ filter p xs → c ≡ b ++ filter p ys → c ≡ a ++ filter p (xs ++ ys)
joined p a b c xs ys first second =
    second ∙ ap (λ zs. zs ++ filter p ys) first ∙ append_assoc a (filter p xs) (filter p ys)
    ∙ ap (λ zs. a ++ zs) (sym (filter-append p xs ys))

pub adds_more : (a b c : ListEntries) (xs ys : List (List ℕ)) → Adds a b xs → Adds b c ys → Adds a c (xs ++ ys)
adds_more a b c xs ys first second = record {
  plain = joined (λ e. not (is_pattern e)) a.plain b.plain c.plain xs ys first.plain second.plain;
  patterns = joined is_pattern a.patterns b.patterns c.patterns xs ys first.patterns second.patterns;
}

-- the entries of a text, by its first line
first_line : (text : List ℕ) (n : ℕ) → NoneBefore (Passes (is_byte NEWLINE) text) 0 (length text) n → Passes (is_byte NEWLINE) text n
    → position_or_len is_newline text ≡ n
first_line text n first here =
    position_or_len_is is_newline text n 0 (omega (arith, first.high))
    (λ k h. false_from_ne_true (is_newline (get_or text k 0)) (first.before k (omega arith) h)) (λ h. here)

pub next_line : (text : List ℕ) (n : ℕ) → NoneBefore (Passes (is_byte NEWLINE) text) 0 (length text) n → Passes (is_byte NEWLINE) text n
    → entries_of text ≡ entry_in (take n text) ++ entries_of (drop (n + 1) text)
unfolding entries_of
next_line text n first here =
    let place = first_line text n first here in
    let lines : slice_split is_newline text ≡ take n text ∷ slice_split is_newline (drop (n + 1) text) =
    slice_split_first is_newline text 0 (omega (arith, place, first.high))
    ∙ ap (λ k. take k text ∷ slice_split is_newline (drop (k + 1) text)) place in
    ap (λ ls. filter is_entry (map entry_of ls)) lines
    ∙ filter-append is_entry (entry_of (take n text) ∷ []) (map entry_of (slice_split is_newline (drop (n + 1) text)))

pub last_line : (text : List ℕ) → Nowhere (Passes (is_byte NEWLINE) text) 0 (length text) → entries_of text ≡ entry_in text
unfolding entries_of
last_line text none =
    ap (λ ls. filter is_entry (map entry_of ls))
    (slice_split_none is_newline text
    (λ k d h. false_from_ne_true (is_newline (get_or text k d))
    (λ is. none k (omega arith) h (ap is_newline (get_or_default text k 0 d h) ∙ is))))

-- reading a text
pub starts : (e : ListEntries) (text : List ℕ) → IsReading e e text text
starts e text = record { entries = []; adds = adds_none e; rest = refl }

pub reads_line : (start now next : ListEntries) (text left : List ℕ) (n : ℕ) → IsReading start now text left
    → NoneBefore (Passes (is_byte NEWLINE) left) 0 (length left) n
    → Passes (is_byte NEWLINE) left n → Adds now next (entry_in (take n left)) → IsReading start next text (drop (n + 1) left)
reads_line start now next text left n reading first here adds = record {
  entries = reading.entries ++ entry_in (take n left);
  adds = adds_more start now next reading.entries (entry_in (take n left)) reading.adds adds;
  rest =
      reading.rest ∙ ap (λ es. reading.entries ++ es) (next_line left n first here)
      ∙ sym (append_assoc reading.entries (entry_in (take n left)) (entries_of (drop (n + 1) left)));
}

pub reads_last : (start now next : ListEntries) (text left : List ℕ) → IsReading start now text left
    → Nowhere (Passes (is_byte NEWLINE) left) 0 (length left)
    → Adds now next (entry_in left) → Adds start next (entries_of text)
reads_last start now next text left reading none adds =
    let all : reading.entries ++ entry_in left ≡ entries_of text = sym
    (reading.rest ∙ ap (λ es. reading.entries ++ es) (last_line left none)) in
    let sum = adds_more start now next reading.entries (entry_in left) reading.adds adds in
    record {
      plain = sum.plain ∙ ap (λ es. start.plain ++ filter (λ e. not (is_pattern e)) es) all;
      patterns = sum.patterns ∙ ap (λ es. start.patterns ++ filter is_pattern es) all;
    }

-- a list of texts, with one text more
entries_push : (texts : List (List ℕ)) (text : List ℕ) → all_entries (texts ++ text ∷ []) ≡ all_entries texts ++ entries_of text
unfolding all_entries
entries_push [] text = append-nil (entries_of text)
entries_push (t ∷ texts) text = ap (λ es. entries_of t ++ es) (entries_push texts text)
    ∙ sym (append_assoc (entries_of t) (all_entries texts) (entries_of text))

pub text_more : (texts : List (List ℕ)) (text : List ℕ) (old new : ListEntries) → IsListOf texts old → Adds old new (entries_of text)
    → IsListOf (texts ++ text ∷ []) new
unfolding plain_entries
text_more texts text old new list adds =
    let all = entries_push texts text in
    record {
      plain =
          adds.plain ∙ ap (λ es. es ++ filter (λ e. not (is_pattern e)) (entries_of text)) list.plain
          ∙ sym (filter-append (λ e. not (is_pattern e)) (all_entries texts) (entries_of text))
          ∙ ap (filter (λ e. not (is_pattern e))) (sym all);
      patterns =
          adds.patterns ∙ ap (λ es. es ++ filter is_pattern (entries_of text)) list.patterns
          ∙ sym (filter-append is_pattern (all_entries texts) (entries_of text)) ∙ ap (filter is_pattern) (sym all);
    }

-- what was added is taken off
pub taken_off : {A : Type 0} (vs : List (Vec ℕ A)) (old more : List (List ℕ)) (n : ℕ) → texts_of vs ≡ old ++ more → n ≡ length old
    → texts_of (take n vs) ≡ old
taken_off vs old more n are long = sym (take-map (λ v. v.items) n vs) ∙ ap (take n) are ∙ take_at old more n (sym long)

-- a list of no text
pub no_text : (e : ListEntries) → e ≡ no_entries → IsListOf [] e
unfolding plain_entries all_entries
no_text e none = rw none (record { plain = refl; patterns = refl })

pub count_of : {A B : Type 0} (v : Vec (Vec ℕ A) B) (old : List (List ℕ)) (n : ℕ) → n ≡ vec_len v → texts_of v.items ≡ old → n ≡ length old
count_of v old n is are = is ∙ vec_len_is v ∙ sym (length-map v.items (λ w. w.items)) ∙ ap length are

pub same_entries : (plain patterns : List (List ℕ)) (old : ListEntries) → plain ≡ old.plain → patterns ≡ old.patterns
    → record { plain = plain; patterns = patterns } ≡ old
same_entries plain patterns old first second = rw (first, second) refl
