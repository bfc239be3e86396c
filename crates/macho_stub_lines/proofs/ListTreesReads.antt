-- What remains of a list is read, with its names.
-- `Reads` says so of any number of the line and of any names read before, so that it goes on from token to token
-- (`token_then`) and from line to line (`line_then`). Each part of the remains is one token, since what follows it
-- neither goes on with a scalar nor makes a comment of a space. What stands behind a list's part on its line says
-- nothing (`tail_reads`).
use Rattle.std.proofs.Common.{◌≡◌, ◌≢◌, ℕ, ◌+◌, ◌<◌, Bool, true, false, List, [], ◌∷◌, ◌++◌, length, drop, map, Ok, refl, sym, ap, ◌∙◌, subst, append_assoc, append-nil, length-append, drop_of_length-le, arith, inl, inr, ◌⊎◌}
use Rattle.std.proofs.Math.Seq.{drop-append_seam}
use Rattle.macho_stub_lines.specs.declared.list.Expect.{Expect}
use Rattle.macho_stub_lines.specs.declared.list.Expect.TheVariants.{AfterOpen, AfterComma, AfterName, Closed}
use Rattle.macho_stub_lines.specs.declared.list.TokenKind.TheVariants as token
use Rattle.macho_stub_lines.specs.Bytes.{space, comma, close_bracket, number_sign, is_tail, is_passed}
use Rattle.macho_stub_lines.specs.Lists.{TokenSpan, ListPart, mark, gap, names_of, token_front, behind, list_part, with_front}
use Rattle.macho_stub_lines.specs.Spelling.{scalar_bytes}
use Rattle.macho_stub_lines.specs.FlowLists.{Block, turn_then}
use Rattle.macho_stub_lines.proofs.Parts.{list_part_step, goes_on}
use Rattle.macho_stub_lines.specs.ReadLists.{read_line, GoesOn}
use Rattle.macho_stub_lines.proofs.ListTreesTails.{tail_begins, passed_begins}
use Rattle.macho_stub_lines.proofs.ListTreesRemains.{Remains, Gap, Turned, Comma, Name, Close, ending, scalar_begins, plain_ended, comment_free}
use Rattle.macho_stub_lines.proofs.ListTreesTokens.{named_by, one_space, space_token, comma_token, close_token, scalar_token, behind_gap}

-- a part of a list that has none of its names
abbrev nothing_in : Expect → ListPart
nothing_in expect = record { names = []; expect = expect }

-- The lines are read as the rest of a list of these names, behind any names before.
abbrev pub Reads : Expect → Block → List (List ℕ) → Type 0
Reads expect block names = (number : ℕ) (front : List (List ℕ))
    → (part : ListPart) × (with_front front (list_part number expect 0 block.head) ≡ Ok part)
    × GoesOn part (map read_line block.more) (front ++ names)

-- ---- one step

-- a token in front
token_then : (expect next : Expect) (bytes : List ℕ) (rest : Block) (token : TokenSpan) (names : List (List ℕ)) → 0 < length bytes
    → 0 < token.width → ((line : ℕ) → token_front line bytes ≡ Ok token) → ((line : ℕ) → behind line expect token.kind ≡ Ok next)
    → drop token.width bytes ≡ rest.head → Reads next rest names
    → Reads expect (record { head = bytes; more = rest.more }) (names_of token ++ names)
token_then expect next bytes rest token names some wide is follows cut reads number front =
    let inner = reads number (front ++ names_of token) in
    let e : with_front front (list_part number expect 0 bytes)
    ≡ with_front (front ++ names_of token) (list_part number next 0 rest.head) =
    sym (goes_on front number expect next bytes token (with_front front (list_part number expect 0 bytes)) some wide
    (is number) (follows number) refl)
    ∙ ap (λ (all : List ℕ). with_front (front ++ names_of token) (list_part number next 0 all)) cut in
    let G : List (List ℕ) → Type 0 = λ all. GoesOn inner.0 (map read_line rest.more) all in
    (inner.0, e ∙ inner.1, subst G (append_assoc front (names_of token) names) inner.2)

-- ---- what says nothing

-- a space, perhaps with a comment, is passed
gap_then : (number : ℕ) (expect : Expect) (bytes : List ℕ) (width : ℕ) (rest : List ℕ) → gap bytes ≡ mark token.Gap width
    → 0 < width → drop width (space ∷ bytes) ≡ rest → list_part number expect 0 rest ≡ Ok (nothing_in expect)
    → list_part number expect 0 (space ∷ bytes) ≡ Ok (nothing_in expect)
gap_then number expect bytes width rest is wide cut reads =
    list_part_step number expect expect (space ∷ bytes) (mark token.Gap width) (omega arith) wide
    (space_token number bytes ∙ ap (λ (one : TokenSpan). Ok one) is) (behind_gap number expect)
    ∙ ap (λ (all : List ℕ). with_front [] (list_part number expect 0 all)) cut ∙ ap (with_front []) reads

-- spaces and a comment behind a space
passed_reads : (number : ℕ) (expect : Expect) (bytes : List ℕ) → is_passed bytes ≡ true
    → list_part number expect 0 (space ∷ bytes) ≡ Ok (nothing_in expect)
unfolding list_part
passed_reads number expect [] h = gap_then number expect [] 1 [] refl (omega arith) refl refl
passed_reads number expect (b ∷ bytes) h = by_case (passed_begins b bytes h) (passed_reads number expect bytes)
  where
    by_case : (b ≡ number_sign) ⊎ ((b ≡ space) × (is_passed bytes ≡ true))
        → (is_passed bytes ≡ true → list_part number expect 0 (space ∷ bytes) ≡ Ok (nothing_in expect))
        → list_part number expect 0 (space ∷ b ∷ bytes) ≡ Ok (nothing_in expect)
    by_case (inl comment) others =
        let width = 1 + length (number_sign ∷ bytes) in
        ap (λ (first : ℕ). list_part number expect 0 (space ∷ first ∷ bytes)) comment
        ∙ gap_then number expect (number_sign ∷ bytes) width [] refl (omega arith)
        (drop_of_length-le (space ∷ number_sign ∷ bytes) (omega arith)) refl
    by_case (inr spaced) others =
        ap (λ (first : ℕ). list_part number expect 0 (space ∷ first ∷ bytes)) spaced.0
        ∙ gap_then number expect (space ∷ bytes) 1 (space ∷ bytes) refl (omega arith) refl
        (others spaced.1)

-- the rest of a line
tail_reads : (number : ℕ) (expect : Expect) (tail : List ℕ) → is_tail tail ≡ true
    → list_part number expect 0 tail ≡ Ok (nothing_in expect)
unfolding list_part
tail_reads number expect [] h = refl
tail_reads number expect (b ∷ bytes) h =
    let begins = tail_begins b bytes h in
    ap (λ (first : ℕ). list_part number expect 0 (first ∷ bytes)) begins.0 ∙ passed_reads number expect bytes begins.1

-- a line whose rest says nothing in front
line_then : (expect : Expect) (tail : List ℕ) (number at : ℕ) (rest : Block) (names : List (List ℕ)) → expect ≢ Closed → is_tail tail ≡ true
    → Reads expect rest names → Reads expect (turn_then tail number at rest) names
line_then expect tail number at rest names unclosed ends reads first front =
    let inner = reads number (front ++ []) in
    let e : with_front front (list_part first expect 0 tail) ≡ Ok (record { names = front ++ []; expect = expect }) =
    ap (with_front front) (tail_reads first expect tail ends) in
    let G : List (List ℕ) → Type 0 = λ all. GoesOn inner.0 (map read_line rest.more) (all ++ names) in
    (record { names = front ++ []; expect = expect }, e, (unclosed, inner.0, inner.1, subst G (append-nil front) inner.2))

-- ---- all that remains

-- what stands before, in the words of the reading
abbrev pub StandsAt : Expect → Bool → Type 0
StandsAt AfterOpen named = named ≡ false
StandsAt AfterComma named = named ≡ false
StandsAt AfterName named = named ≡ true
StandsAt Closed named = ⊥

-- a list that stands there is open
pub stands_open : (expect : Expect) (named : Bool) → StandsAt expect named → expect ≢ Closed
stands_open AfterOpen named stands = λ e. cc
stands_open AfterComma named stands = λ e. cc
stands_open AfterName named stands = λ e. cc
stands_open Closed named stands = absurd stands

-- the closing bracket may stand there
pub close_follows : (expect : Expect) (named : Bool) → StandsAt expect named → (line : ℕ) → behind line expect token.Close ≡ Ok Closed
unfolding behind
close_follows AfterOpen named stands line = refl
close_follows AfterComma named stands line = refl
close_follows AfterName named stands line = refl
close_follows Closed named stands line = absurd stands

name_follows : (expect : Expect) → StandsAt expect false → (line : ℕ) → behind line expect token.Name ≡ Ok AfterName
unfolding behind
name_follows AfterOpen stands line = refl
name_follows AfterComma stands line = refl
name_follows AfterName stands line = absurd cc
name_follows Closed stands line = absurd stands

comma_follows : (expect : Expect) → StandsAt expect true → (line : ℕ) → behind line expect token.Comma ≡ Ok AfterComma
unfolding behind
comma_follows AfterOpen stands line = absurd cc
comma_follows AfterComma stands line = absurd cc
comma_follows AfterName stands line = refl
comma_follows Closed stands line = absurd stands

-- What remains of a list is read with its names.
pub remains_read : (named : Bool) (block : Block) (names : List (List ℕ)) → Remains named block names → (expect : Expect)
    → StandsAt expect named → Reads expect block names
remains_read _ _ _ (Gap named rest names left) expect stands =
    token_then expect expect (space ∷ rest.head) rest (mark token.Gap 1) names (omega arith) (omega arith)
    (λ line. space_token line rest.head ∙ ap (λ (one : TokenSpan). Ok one) (one_space rest.head (comment_free named rest names left)))
    (λ line. behind_gap line expect) refl (remains_read named rest names left expect stands)
remains_read _ _ _ (Turned named tail number at rest names ends left) expect stands =
    line_then expect tail number at rest names (stands_open expect named stands) ends (remains_read named rest names left expect stands)
remains_read _ _ _ (Comma rest names left) expect stands =
    token_then expect AfterComma (comma ∷ rest.head) rest (mark token.Comma 1) names (omega arith) (omega arith)
    (λ line. comma_token line rest.head) (comma_follows expect stands) refl (remains_read false rest names left AfterComma refl)
remains_read _ _ _ (Name scalar rest names sound left) expect stands =
    let begins = scalar_begins scalar sound in
    let some : 0 < length (scalar_bytes scalar) = omega (arith, ap length begins.2) in
    let more : 0 < length (scalar_bytes scalar ++ rest.head) = omega (arith, length-append (scalar_bytes scalar) rest.head) in
    token_then expect AfterName (scalar_bytes scalar ++ rest.head) rest (named_by scalar) names more some
    (λ line. scalar_token line scalar rest.head sound (plain_ended true rest names left refl)) (name_follows expect stands)
    (drop-append_seam (scalar_bytes scalar) rest.head) (remains_read true rest names left AfterName refl)
remains_read _ _ _ (Close named tail ends) expect stands =
    token_then expect Closed (close_bracket ∷ tail) (ending tail) (mark token.Close 1) [] (omega arith) (omega arith)
    (λ line. close_token line tail) (close_follows expect named stands) refl
    (λ number front. (
      record { names = front ++ []; expect = Closed },
      ap (with_front front) (tail_reads number Closed tail ends),
      (refl, refl),
    ))
