-- What is read as the rest of a list remains of one.
-- A line that is read has a first token, and what follows that is read on (`first_token`). The token is a part of what
-- remains, and shortens the line, so the recursion is on a bound of its length (`line_found`). At the end of a line, or
-- with a comment, which takes all, the list is still open, so another line follows and what it begins with says nothing
-- (`turn_found`); the recursion there is on the lines. Behind the closing bracket spaces and a comment alone are read
-- (`closed_found`), and there is no other line (`last_line`).
use Rattle.std.proofs.Common.{◌≡◌, ℕ, zero, suc, ◌+◌, ◌-◌, ◌<◌, ◌≤◌, Bool, true, false, List, [], ◌∷◌, ◌++◌, length, drop, map, Ok, refl, sym, ap, ◌∙◌, append_assoc, append-nil, length-append, drop_of_length-le, arith}
use Rattle.std.proofs.Math.Seq.{drop-append_seam}
use Rattle.macho_stub_lines.specs.declared.list.Expect.{Expect}
use Rattle.macho_stub_lines.specs.declared.list.Expect.TheVariants.{AfterOpen, AfterComma, AfterName, Closed}
use Rattle.macho_stub_lines.specs.declared.list.TokenKind.TheVariants as token
use Rattle.macho_stub_lines.specs.Bytes.{space, number_sign, is_tail}
use Rattle.macho_stub_lines.specs.Slices.{Line}
use Rattle.macho_stub_lines.specs.Faults.{◌>>=◌}
use Rattle.macho_stub_lines.specs.Lists.{TokenSpan, ListPart, names_of, token_front, behind, list_part, with_front}
use Rattle.macho_stub_lines.specs.steps.Spelling.{text_of}
use Rattle.macho_stub_lines.specs.Spelling.{scalar_bytes}
use Rattle.macho_stub_lines.specs.FlowLists.{Block}
use Rattle.macho_stub_lines.proofs.Bind.{bind_ok, same_ok}
use Rattle.macho_stub_lines.proofs.Parts.{goes_on}
use Rattle.macho_stub_lines.specs.ReadLists.{read_line, GoesOn}
use Rattle.macho_stub_lines.proofs.ListTreesTails.{tail_spaced, tail_comment}
use Rattle.macho_stub_lines.proofs.ListTreesRemains.{Remains, Gap, Turned, Comma, Name, Close, scalar_begins}
use Rattle.macho_stub_lines.proofs.ListTreesTokens.{named_by, behind_gap, Begins, Spaced, Commented, Parted, Ended, Named, token_found}
use Rattle.macho_stub_lines.proofs.ListTreesReads.{StandsAt, stands_open, close_follows}

tail_empty : is_tail [] ≡ true
unfolding is_tail
tail_empty = refl

-- ---- one step

-- the first token of a line that is read, and the reading of what follows it
record Stepped (front : List (List ℕ)) (number : ℕ) (expect : Expect) (bytes : List ℕ) (part : ListPart) : Type 0 where
  token : TokenSpan
  next : Expect
  begins : Begins bytes token
  follows : behind number expect token.kind ≡ Ok next
  reads : with_front (front ++ names_of token) (list_part number next 0 (drop token.width bytes)) ≡ Ok part

-- a token has a byte or more
begins_wide : (bytes : List ℕ) (token : TokenSpan) → Begins bytes token → 0 < token.width
begins_wide _ _ (Spaced rest free) = omega arith
begins_wide _ _ (Commented rest) = omega arith
begins_wide _ _ (Parted rest) = omega arith
begins_wide _ _ (Ended rest) = omega arith
begins_wide _ _ (Named scalar rest sound) = omega (arith, ap length (scalar_begins scalar sound).2)

-- a line with a byte has a first token
first_token : (front : List (List ℕ)) (number : ℕ) (expect : Expect) (b : ℕ) (bytes : List ℕ) (part : ListPart)
    → with_front front (list_part number expect 0 (b ∷ bytes)) ≡ Ok part → Stepped front number expect (b ∷ bytes) part
unfolding list_part
first_token front number expect b bytes part h =
    let whole = bind_ok (list_part number expect 0 (b ∷ bytes))
    (λ (inner : ListPart). Ok (record { names = front ++ inner.names; expect = inner.expect })) part h in
    let rest = λ (token : TokenSpan) (next : Expect). with_front (names_of token) (list_part number next (token.width - 1) bytes) in
    let one = bind_ok (token_front number (b ∷ bytes)) (λ (token : TokenSpan). behind number expect token.kind >>= rest token)
    whole.0 whole.1 in
    let two = bind_ok (behind number expect one.0.kind) (rest one.0) whole.0 one.2 in
    let begins : Begins (b ∷ bytes) one.0 = token_found number b bytes one.0 one.1 in
    record {
      token = one.0;
      next = two.0;
      begins = begins;
      follows = two.1;
      reads = goes_on front number expect two.0 (b ∷ bytes) one.0 (Ok part) (omega arith)
          (begins_wide (b ∷ bytes) one.0 begins) one.1 two.1 h;
    }

-- the end of a line
line_end : (front : List (List ℕ)) (number : ℕ) (expect : Expect) (part : ListPart)
    → with_front front (list_part number expect 0 []) ≡ Ok part → (part.names ≡ front) × (part.expect ≡ expect)
unfolding list_part
line_end front number expect part h =
    let e = same_ok _ _ h in
    (ap (λ (p : ListPart). p.names) (sym e) ∙ append-nil front, ap (λ (p : ListPart). p.expect) (sym e))

-- a token that says nothing
silent : (front : List (List ℕ)) (number : ℕ) (next after : Expect) (cut rest : List ℕ) (part : ListPart) → after ≡ next → cut ≡ rest
    → with_front (front ++ []) (list_part number next 0 cut) ≡ Ok part → with_front front (list_part number after 0 rest) ≡ Ok part
silent front number next after cut rest part same e reads = rw (← append-nil front, same, ← e) reads

-- a gap, which changes nothing either
gap_passed : (front : List (List ℕ)) (number : ℕ) (expect next : Expect) (cut rest : List ℕ) (part : ListPart)
    → behind number expect token.Gap ≡ Ok next → cut ≡ rest → with_front (front ++ []) (list_part number next 0 cut) ≡ Ok part
    → with_front front (list_part number expect 0 rest) ≡ Ok part
gap_passed front number expect next cut rest part follows e reads =
    silent front number next expect cut rest part (same_ok expect next (sym (behind_gap number expect) ∙ follows)) e reads

-- a comment takes all
comment_cut : (rest : List ℕ) → drop (1 + length (number_sign ∷ rest)) (space ∷ number_sign ∷ rest) ≡ []
comment_cut rest = drop_of_length-le (space ∷ number_sign ∷ rest) (omega arith)

-- ---- behind the closing bracket

-- the list is over, and nothing more is said
abbrev IsOver : List (List ℕ) → List ℕ → ListPart → Type 0
IsOver front bytes part = (is_tail bytes ≡ true) × (part.names ≡ front) × (part.expect ≡ Closed)

closed_step : (front : List (List ℕ)) (number n : ℕ) (bytes : List ℕ) (part : ListPart) (token : TokenSpan) (next : Expect)
    → Begins bytes token → behind number Closed token.kind ≡ Ok next → length bytes ≤ suc n
    → with_front (front ++ names_of token) (list_part number next 0 (drop token.width bytes)) ≡ Ok part
    → ((front : List (List ℕ)) (rest : List ℕ) → length rest ≤ n → with_front front (list_part number Closed 0 rest) ≡ Ok part
    → IsOver front rest part)
    → IsOver front bytes part
unfolding behind
closed_step front number n _ part _ next (Spaced rest free) follows short reads shorter =
    let over = shorter front rest (omega arith) (gap_passed front number Closed next rest rest part follows refl reads) in
    (tail_spaced rest over.0, over.1, over.2)
closed_step front number n _ part _ next (Commented rest) follows short reads shorter =
    let cut = drop (1 + length (number_sign ∷ rest)) (space ∷ number_sign ∷ rest) in
    let e = line_end front number Closed part (gap_passed front number Closed next cut [] part follows (comment_cut rest) reads) in
    (tail_comment rest, e.0, e.1)
closed_step front number n _ part _ next (Parted rest) follows short reads shorter = absurd cc
closed_step front number n _ part _ next (Ended rest) follows short reads shorter = absurd cc
closed_step front number n _ part _ next (Named scalar rest sound) follows short reads shorter = absurd cc

-- Behind the closing bracket spaces and a comment alone are read.
closed_found : (front : List (List ℕ)) (number n : ℕ) (bytes : List ℕ) (part : ListPart) → length bytes ≤ n
    → with_front front (list_part number Closed 0 bytes) ≡ Ok part → IsOver front bytes part
unfolding is_tail
closed_found front number n [] part short reads = let e = line_end front number Closed part reads in (refl, e.0, e.1)
closed_found front number zero (b ∷ bytes) part short reads = absurd (omega arith)
closed_found front number (suc n) (b ∷ bytes) part short reads =
    let step = first_token front number Closed b bytes part reads in
    closed_step front number n (b ∷ bytes) part step.token step.next step.begins step.follows short step.reads
    (λ front rest. closed_found front number n rest part)

-- ---- in the list

-- the lines are read as the rest of a list, with these names in all
abbrev IsRead : ℕ → Expect → List (List ℕ) → List ℕ → List Line → List (List ℕ) → Type 0
IsRead number expect front bytes more all = (part : ListPart) × (with_front front (list_part number expect 0 bytes) ≡ Ok part)
    × GoesOn part (map read_line more) all

-- the lines are the rest of a list, whose names stand behind these
pub record Found (named : Bool) (block : Block) (front all : List (List ℕ)) : Type 0 where
  pub names : List (List ℕ)
  pub left : Remains named block names
  pub are : all ≡ front ++ names

-- whatever is read from the lines on is found
abbrev NextFound : List Line → Type 0
NextFound [] = Unit {0}
NextFound (line ∷ more) = (number : ℕ) (expect : Expect) (named : Bool) (front all : List (List ℕ)) → StandsAt expect named
    → IsRead number expect front line.text more all → Found named (record { head = line.text; more = more }) front all

-- at the end of a line another line follows
turn_found : (expect : Expect) (named : Bool) (front all : List (List ℕ)) (tail : List ℕ) (more : List Line) (part : ListPart)
    → StandsAt expect named → is_tail tail ≡ true → part.names ≡ front → part.expect ≡ expect → NextFound more
    → GoesOn part (map read_line more) all → Found named (record { head = tail; more = more }) front all
turn_found expect named front all tail [] part stands ends e x next goes = absurd (stands_open expect named stands (sym x ∙ goes.0))
turn_found expect named front all tail (line ∷ more) part stands ends e x next goes =
    let here : with_front front (list_part line.number expect 0 line.text) ≡ Ok goes.1 = rw (sym e, sym x) goes.2 in
    let found = next line.number expect named front all stands (goes.1, here, goes.3) in
    record {
      names = found.names;
      left = Turned named tail line.number line.at (record { head = line.text; more = more }) found.names ends found.left;
      are = found.are;
    }

-- what a comma and a scalar stand behind
comma_at : (number : ℕ) (expect next : Expect) (named : Bool) → StandsAt expect named → behind number expect token.Comma ≡ Ok next
    → (named ≡ true) × (AfterComma ≡ next)
unfolding behind
comma_at number AfterOpen next named stands follows = absurd cc
comma_at number AfterComma next named stands follows = absurd cc
comma_at number AfterName next named stands follows = (stands, same_ok AfterComma next follows)
comma_at number Closed next named stands follows = absurd stands

name_at : (number : ℕ) (expect next : Expect) (named : Bool) → StandsAt expect named → behind number expect token.Name ≡ Ok next
    → (named ≡ false) × (AfterName ≡ next)
unfolding behind
name_at number AfterOpen next named stands follows = (stands, same_ok AfterName next follows)
name_at number AfterComma next named stands follows = (stands, same_ok AfterName next follows)
name_at number AfterName next named stands follows = absurd cc
name_at number Closed next named stands follows = absurd stands

-- the line that closes the list is the last
last_line : (more : List Line) (part : ListPart) (all : List (List ℕ)) → part.expect ≡ Closed → GoesOn part (map read_line more) all
    → (more ≡ []) × (part.names ≡ all)
last_line [] part all over goes = (refl, goes.1)
last_line (line ∷ more) part all over goes = absurd (goes.0 over)

-- whatever is read of a shorter line is found
abbrev ShorterFound : ℕ → List Line → Type 0
ShorterFound n more = (number : ℕ) (expect : Expect) (named : Bool) (front all : List (List ℕ)) (bytes : List ℕ) → length bytes ≤ n
    → StandsAt expect named → IsRead number expect front bytes more all
    → Found named (record { head = bytes; more = more }) front all

-- one token, by what it is
line_step : (number n : ℕ) (expect : Expect) (named : Bool) (front all : List (List ℕ)) (bytes : List ℕ) (more : List Line)
    (part : ListPart) (token : TokenSpan) (next : Expect) → Begins bytes token → behind number expect token.kind ≡ Ok next
    → length bytes ≤ suc n → with_front (front ++ names_of token) (list_part number next 0 (drop token.width bytes)) ≡ Ok part
    → GoesOn part (map read_line more) all → StandsAt expect named → NextFound more → ShorterFound n more
    → Found named (record { head = bytes; more = more }) front all
line_step number n expect named front all _ more part _ next (Spaced rest free) follows short reads goes stands nexts shorter =
    let found = shorter number expect named front all rest (omega arith) stands
    (part, gap_passed front number expect next rest rest part follows refl reads, goes) in
    record { names = found.names; left = Gap named (record { head = rest; more = more }) found.names found.left; are = found.are }
line_step number n expect named front all _ more part _ next (Commented rest) follows short reads goes stands nexts shorter =
    let cut = drop (1 + length (number_sign ∷ rest)) (space ∷ number_sign ∷ rest) in
    let e = line_end front number expect part (gap_passed front number expect next cut [] part follows (comment_cut rest) reads) in
    turn_found expect named front all (space ∷ number_sign ∷ rest) more part stands (tail_comment rest) e.0 e.1 nexts goes
line_step number n expect named front all _ more part _ next (Parted rest) follows short reads goes stands nexts shorter =
    let at = comma_at number expect next named stands follows in
    let found = shorter number AfterComma false front all rest (omega arith) refl
    (part, silent front number next AfterComma rest rest part at.1 refl reads, goes) in
    rw at.0 (record { names = found.names; left = Comma (record { head = rest; more = more }) found.names found.left; are = found.are })
line_step number n expect named front all _ more part _ next (Ended rest) follows short reads goes stands nexts shorter =
    let shut : Closed ≡ next = same_ok Closed next (sym (close_follows expect named stands number) ∙ follows) in
    let over = closed_found front number (length rest) rest part (omega arith)
    (silent front number next Closed rest rest part shut refl reads) in
    let last = last_line more part all over.2 goes in
    rw last.0 (record { names = []; left = Close named rest over.0; are = sym last.1 ∙ over.1 ∙ sym (append-nil front) })
line_step number n expect named front all _ more part _ next (Named scalar rest sound) follows short reads goes stands nexts shorter =
    let at = name_at number expect next named stands follows in
    let some : 0 < length (scalar_bytes scalar) = begins_wide (scalar_bytes scalar ++ rest) (named_by scalar) (Named scalar rest sound) in
    let before = front ++ text_of scalar ∷ [] in
    let here : with_front before (list_part number AfterName 0 rest) ≡ Ok part =
    rw (at.1, sym (drop-append_seam (scalar_bytes scalar) rest)) reads in
    let short : length rest ≤ n = omega (arith, length-append (scalar_bytes scalar) rest) in
    let found = shorter number AfterName true before all rest short refl (part, here, goes) in
    rw at.0 (record {
      names = text_of scalar ∷ found.names;
      left = Name scalar (record { head = rest; more = more }) found.names sound found.left;
      are = found.are ∙ append_assoc front (text_of scalar ∷ []) found.names;
    })

-- a line, token by token, and then the lines under it
line_found : (more : List Line) → NextFound more → (n : ℕ) → ShorterFound n more
line_found more nexts n number expect named front all [] short stands read =
    let e = line_end front number expect read.0 read.1 in
    turn_found expect named front all [] more read.0 stands tail_empty e.0 e.1 nexts read.2
line_found more nexts zero number expect named front all (b ∷ bytes) short stands read = absurd (omega arith)
line_found more nexts (suc n) number expect named front all (b ∷ bytes) short stands read =
    let step = first_token front number expect b bytes read.0 read.1 in
    line_step number n expect named front all (b ∷ bytes) more read.0 step.token step.next step.begins step.follows short step.reads
    read.2 stands nexts (line_found more nexts n)

lines_found : (more : List Line) → NextFound more
lines_found [] = tt
lines_found (line ∷ more) = λ number expect named front all.
    line_found more (lines_found more) (length line.text) number expect named front all line.text (omega arith)

-- What is read as the rest of a list remains of one.
pub read_remains : (number : ℕ) (expect : Expect) (named : Bool) (front all : List (List ℕ)) (bytes : List ℕ) (more : List Line)
    → StandsAt expect named → (part : ListPart) → with_front front (list_part number expect 0 bytes) ≡ Ok part
    → GoesOn part (map read_line more) all → Found named (record { head = bytes; more = more }) front all
read_remains number expect named front all bytes more stands part reads goes =
    line_found more (lines_found more) (length bytes) number expect named front all bytes (omega arith) stands (part, reads, goes)
