-- What a tree says, or a line, stands in the input at the place that is told.
-- A text stands at a place exactly where the rest of the input from there on begins with it (`rest_from`, `stands_from`).
-- So what stands with bytes before and behind it stands alone too, at a place later by the bytes before (`part_stands`);
-- and every tree is spelled as such a row of parts, over the lines too, where the place goes on at the next line's.
-- The lines are the parts between line feeds, in a row with the line feeds between them: the input from a line's place
-- on is the row of the parts that are left (`join_with_byte-slice_split`), and each line is the front of it.
use Rattle.std.proofs.Common.{◌≡◌, ℕ, ◌+◌, ◌-◌, Bool, true, false, cond, eqb, List, [], ◌∷◌, ◌++◌, length, take, drop, replicate, map, slice_index, Option, Some, None, refl, sym, ap, ◌∙◌, subst, append_assoc, arith}
use Rattle.std.specs.List.{AllByRecursion, join_with_byte, slice_split}
use Rattle.std.specs.Str.Lines.{lines, lines_of_parts as texts_of_parts, strip_carriage_return}
use Rattle.std.proofs.lemmas.List.{append-nil, drop-drop, take-append-drop, length-replicate}
use Rattle.std.proofs.lemmas.List.Splits.{join_with_byte-slice_split}
use Rattle.std.proofs.Math.Seq.{take-append_seam, drop-append_seam}
use Rattle.macho_stub_lines.specs.Bytes.{space, comma, colon, zero_digit, open_bracket, close_bracket, single_quote, double_quote, line_feed, is_passed}
use Rattle.macho_stub_lines.specs.Slices.{Slice, StandsIn, Line, lines_of_parts, lines_of, content_of}
use Rattle.macho_stub_lines.specs.Spelling.{ScalarTree, Plain, Single, Double, scalar_bytes, slice_of, IsScalarValue, IsNumberValue, Behind, NoValue, Value, behind_bytes, value_in, gap_of, EntryTree, entry_bytes, value_at, value_of}
use Rattle.macho_stub_lines.specs.FlowLists.{Block, bytes_then, IsFlowList}
use Rattle.macho_stub_lines.proofs.ListDerived.{tree_of_list}
use Rattle.macho_stub_lines.specs.steps.ListTrees.{Between, Spaces, Turn, Followed, Final, between_then, followed_then, final_then, behind_between, slices_from}

-- ---- a text in the input

-- the text stands at the place
abbrev pub StandsAt : List ℕ → ℕ → List ℕ → Type 0
StandsAt input at text = StandsIn input (record { at = at; text = text })

width_at : (at n : ℕ) → at + n - at ≡ n
width_at at n = omega arith

-- the rest of the input begins with what stands there
pub rest_from : (input text : List ℕ) (at : ℕ) → StandsAt input at text
    → drop at input ≡ text ++ drop (length text) (drop at input)
rest_from input text at stands =
    let n = length text in
    let same : take n (drop at input) ≡ text = ap (λ m. take m (drop at input)) (sym (width_at at n)) ∙ stands in
    sym (take-append-drop n (drop at input)) ∙ ap (λ all. all ++ drop n (drop at input)) same

-- what the rest of the input begins with stands there
pub stands_from : (input text rest : List ℕ) (at : ℕ) → drop at input ≡ text ++ rest → StandsAt input at text
stands_from input text rest at is =
    ap (λ m. take m (drop at input)) (width_at at (length text)) ∙ ap (take (length text)) is ∙ take-append_seam text rest

-- no bytes stand everywhere
pub nothing_stands : (input : List ℕ) (at : ℕ) → StandsAt input at []
nothing_stands input at = stands_from input [] (drop at input) at refl

-- a part of what stands there stands behind its front
pub part_stands : (input front text behind : List ℕ) (at : ℕ)
    → StandsIn input (record { at = at; text = front ++ (text ++ behind) })
    → StandsIn input (record { at = at + length front; text = text })
part_stands input front text behind at stands =
    let n = length front in
    let left = drop (length (front ++ (text ++ behind))) (drop at input) in
    let from : drop at input ≡ front ++ (text ++ (behind ++ left)) =
    rest_from input (front ++ (text ++ behind)) at stands ∙ append_assoc front (text ++ behind) left
    ∙ ap (λ all. front ++ all) (append_assoc text behind left) in
    stands_from input text (behind ++ left) (at + n)
    (sym (drop-drop n at input) ∙ ap (drop n) from ∙ drop-append_seam front (text ++ (behind ++ left)))

-- and so does a front alone
pub front_stands : (input text behind : List ℕ) (at : ℕ) → StandsAt input at (text ++ behind) → StandsAt input at text
front_stands input text behind at stands =
    let left = drop (length (text ++ behind)) (drop at input) in
    stands_from input text (behind ++ left) at (rest_from input (text ++ behind) at stands ∙ append_assoc text behind left)

-- and what is behind a front of n bytes
pub behind_stands : (input front text : List ℕ) (at n : ℕ) → length front ≡ n → StandsAt input at (front ++ text)
    → StandsAt input (at + n) text
behind_stands input front text at n long stands =
    let S : List ℕ → Type 0 = λ all. StandsAt input at (front ++ all) in
    let T : ℕ → Type 0 = λ k. StandsAt input (at + k) text in
    subst T long (part_stands input front text [] at (subst S (sym (append-nil text)) stands))

-- ---- scalars, numbers and values of keys

-- the text of a scalar stands inside its quotes
pub scalar_text_stands : (input : List ℕ) (at : ℕ) (scalar : ScalarTree) → StandsAt input at (scalar_bytes scalar)
    → StandsIn input (slice_of at scalar)
scalar_text_stands input at (Plain text) stands = stands
scalar_text_stands input at (Single text) stands = part_stands input (single_quote ∷ []) text (single_quote ∷ []) at stands
scalar_text_stands input at (Double text) stands = part_stands input (double_quote ∷ []) text (double_quote ∷ []) at stands

-- what a scalar says stands inside its value
pub scalar_stands : (input : List ℕ) (at : ℕ) (value : List ℕ) (says : Slice) → StandsIn input (record { at = at; text = value })
    → IsScalarValue at value says → StandsIn input says
scalar_stands input at value says stands v =
    let S : List ℕ → Type 0 = λ text. StandsAt input at text in
    let P : Slice → Type 0 = λ slice. StandsIn input slice in
    subst P (sym v.is)
    (scalar_text_stands input at v.scalar (front_stands input (scalar_bytes v.scalar) v.tail at (subst S v.spelled stands)))

-- what a number says stands inside its value
pub number_stands : (input : List ℕ) (at : ℕ) (value : List ℕ) (says : Slice) → StandsIn input (record { at = at; text = value })
    → IsNumberValue at value says → StandsIn input says
number_stands input at value says stands v =
    let S : List ℕ → Type 0 = λ text. StandsAt input at text in
    let P : ℕ → Type 0 = λ place. StandsAt input place says.text in
    let zeros = replicate v.zeros zero_digit in
    subst P (ap (λ n. at + n) (length-replicate v.zeros zero_digit) ∙ sym v.is)
    (part_stands input zeros says.text v.tail at (subst S v.spelled stands))

-- the value of a key stands behind it
pub value_stands : (input : List ℕ) (at : ℕ) (tree : EntryTree) → StandsIn input (record { at = at; text = entry_bytes tree })
    → StandsIn input (record { at = value_at at tree; text = value_of tree })
value_stands input at tree stands = by_behind tree.behind
    (behind_stands input (colon ∷ []) (behind_bytes tree.behind) (at + length tree.key) 1 refl
    (behind_stands input tree.key (colon ∷ behind_bytes tree.behind) at (length tree.key) refl stands))
  where
    by_behind : (behind : Behind) → StandsAt input (at + length tree.key + 1) (behind_bytes behind)
        → StandsAt input (at + length tree.key + 1 + gap_of behind) (value_in behind)
    by_behind (NoValue tail) there = nothing_stands input (at + length tree.key + 1 + 0)
    by_behind (Value gap value) there =
        behind_stands input (replicate gap space) value (at + length tree.key + 1) gap (length-replicate gap space) there

-- ---- flow lists

-- the line stands at its place
abbrev pub LineStands : List ℕ → Line → Type 0
LineStands input line = StandsIn input (record { at = line.at; text = line.text })

-- the rest of a line stands at the place, and the lines under it at theirs
abbrev pub BlockStands : List ℕ → ℕ → Block → Type 0
BlockStands input at block = StandsAt input at block.head × AllByRecursion (λ line. LineStands input line) block.more

bytes_stand : (input : List ℕ) (at n : ℕ) (bytes : List ℕ) (rest : Block) → length bytes ≡ n
    → BlockStands input at (bytes_then bytes rest) → BlockStands input (at + n) rest
bytes_stand input at n bytes rest long stands = (behind_stands input bytes rest.head at n long stands.0, stands.1)

between_stands : (input : List ℕ) (at : ℕ) (between : Between) (rest : Block) → BlockStands input at (between_then between rest)
    → BlockStands input (behind_between at between) rest
between_stands input at (Spaces count) rest stands =
    bytes_stand input at count (replicate count space) rest (length-replicate count space) stands
between_stands input at (Turn tail number next between) rest stands =
    between_stands input next between rest (stands.1.0, stands.1.1)

one_stands : (input : List ℕ) (at : ℕ) (scalar : ScalarTree) (rest : Block) → BlockStands input at (bytes_then (scalar_bytes scalar) rest)
    → StandsIn input (slice_of at scalar)
one_stands input at scalar rest stands =
    scalar_text_stands input at scalar (front_stands input (scalar_bytes scalar) rest.head at stands.0)

slices_stand : (input : List ℕ) (at : ℕ) (followed : List Followed) (final : Option Final) (rest : Block)
    → BlockStands input at (followed_then followed (final_then final rest))
    → AllByRecursion (λ slice. StandsIn input slice) (slices_from at followed final)
slices_stand input at [] None rest stands = tt
slices_stand input at [] (Some one) rest stands = (one_stands input at one.scalar (between_then one.behind rest) stands, tt)
slices_stand input at (one ∷ others) final rest stands =
    let last = followed_then others (final_then final rest) in
    let behind = between_then one.behind last in
    let before = between_then one.before (bytes_then (comma ∷ []) behind) in
    let at_before = at + length (scalar_bytes one.scalar) in
    let at_comma = behind_between at_before one.before in (
      one_stands input at one.scalar before stands,
      slices_stand input (behind_between (at_comma + 1) one.behind) others final rest
          (between_stands input (at_comma + 1) one.behind last
          (bytes_stand input at_comma 1 (comma ∷ []) behind refl
          (between_stands input at_before one.before (bytes_then (comma ∷ []) behind)
          (bytes_stand input at (length (scalar_bytes one.scalar)) (scalar_bytes one.scalar) before refl stands)))),
    )

-- the scalars of a list stand inside its value, and on the lines under it
pub list_stands : (input : List ℕ) (at : ℕ) (value : List ℕ) (more : List Line) (says : List Slice)
    → StandsIn input (record { at = at; text = value })
    → AllByRecursion (λ line. StandsIn input (record { at = line.at; text = line.text })) more
    → IsFlowList at value more says → AllByRecursion (StandsIn input) says
list_stands input at value more says head lines list =
    let l = tree_of_list at value more says list in
    let B : Block → Type 0 = λ block. BlockStands input at block in
    let A : List Slice → Type 0 = λ slices. AllByRecursion (λ slice. StandsIn input slice) slices in
    let end = bytes_then (close_bracket ∷ []) (record { head = l.tail; more = [] }) in
    let scalars = followed_then l.tree.followed (final_then l.tree.final end) in
    let opened = between_then l.tree.opening scalars in
    let stands : BlockStands input at (bytes_then (open_bracket ∷ []) opened) = subst B l.spelled (head, lines) in
    subst A (sym l.is)
    (slices_stand input (behind_between (at + 1) l.tree.opening) l.tree.followed l.tree.final end
    (between_stands input (at + 1) l.tree.opening scalars (bytes_stand input at 1 (open_bracket ∷ []) opened refl stands)))

-- ---- lines

strip_is_front : (part : List ℕ) → (behind : List ℕ) × (part ≡ strip_carriage_return part ++ behind)
strip_is_front part = by_test (eqb (slice_index part (length part - 1)) 13)
  where
    by_test : (t : Bool) → (behind : List ℕ) × (part ≡ cond t (take (length part - 1) part) part ++ behind)
    by_test true = (drop (length part - 1) part, sym (take-append-drop (length part - 1) part))
    by_test false = ([], sym (append-nil part))

-- the lines of the parts that are left, where the input goes on with these parts
lines_stand_from : (input : List ℕ) (number at : ℕ) (parts : List (List ℕ)) → drop at input ≡ join_with_byte line_feed parts
    → AllByRecursion (λ line. LineStands input line) (lines_of_parts number at parts)
lines_stand_from input number at [] is = tt
lines_stand_from input number at (part ∷ []) is = by_test (eqb (length part) 0)
  where
    by_test : (t : Bool) → AllByRecursion (λ line. LineStands input line)
        (cond t [] (record { number = number; at = at; text = part } ∷ []))
    by_test true = tt
    by_test false = (stands_from input part [] at (is ∙ sym (append-nil part)), tt)
lines_stand_from input number at (part ∷ next ∷ parts) is =
    let strip = strip_is_front part in
    let left = line_feed ∷ join_with_byte line_feed (next ∷ parts) in
    let from : drop at input ≡ strip_carriage_return part ++ (strip.0 ++ left) =
    is ∙ ap (λ all. all ++ left) strip.1 ∙ append_assoc (strip_carriage_return part) strip.0 left in
    let behind : drop (at + length part) input ≡ left =
    sym (drop-drop (length part) at input) ∙ ap (drop (length part)) is ∙ drop-append_seam part left in (
      stands_from input (strip_carriage_return part) (strip.0 ++ left) at from,
      lines_stand_from input (number + 1) (at + length part + 1) (next ∷ parts)
          (sym (drop-drop 1 (at + length part) input) ∙ ap (drop 1) behind),
    )

-- each line of the input stands at its place
pub lines_stand : (input : List ℕ)
    → AllByRecursion (λ line. StandsIn input (record { at = line.at; text = line.text })) (lines_of input)
lines_stand input = lines_stand_from input 1 0 (slice_split (λ b. eqb b line_feed) input)
    (sym (join_with_byte-slice_split line_feed input))

-- what each line has, each line with content has
pub all_content : (P : Line → Type 0) (all : List Line) → AllByRecursion P all → AllByRecursion P (content_of all)
all_content P [] each = tt
all_content P (line ∷ more) each = by_test (is_passed line.text) (all_content P more each.1)
  where
    by_test : (t : Bool) → AllByRecursion P (content_of more) → AllByRecursion P (cond t (content_of more) (line ∷ content_of more))
    by_test true others = others
    by_test false others = (each.0, others)

-- so each line with content stands at its place
pub content_stand : (input : List ℕ)
    → AllByRecursion (λ line. StandsIn input (record { at = line.at; text = line.text })) (content_of (lines_of input))
content_stand input = all_content (λ line. LineStands input line) (lines_of input) (lines_stand input)

same_texts : (number at : ℕ) (parts : List (List ℕ)) → map (λ line. line.text) (lines_of_parts number at parts) ≡ texts_of_parts parts
same_texts number at [] = refl
same_texts number at (part ∷ []) = by_test (eqb (length part) 0)
  where
    by_test : (t : Bool) → map (λ (line : Line). line.text) (cond t [] (record { number = number; at = at; text = part } ∷ []))
        ≡ cond t [] (part ∷ [])
    by_test true = refl
    by_test false = refl
same_texts number at (part ∷ next ∷ parts) =
    ap (λ all. strip_carriage_return part ∷ all) (same_texts (number + 1) (at + length part + 1) (next ∷ parts))

-- their texts are the lines as std cuts them
pub same_lines : (input : List ℕ) → map (λ line. line.text) (lines_of input) ≡ lines input
same_lines input = same_texts 1 0 (slice_split (λ b. eqb b line_feed) input)
