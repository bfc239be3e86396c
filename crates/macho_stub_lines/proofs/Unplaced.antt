-- Flow lists and what stands behind a colon by their bytes, and with places: where a value is one of those with places, its texts are those
-- of one by its bytes, and a value by its bytes has such places, wherever it begins. Of scalars and numbers `UnplacedScalars` has it.
use Rattle.std.proofs.Common.{◌≡◌, ◌≢◌, ◌⊎◌, inl, inr, ℕ, zero, suc, ◌+◌, ◌<◌, ◌&&◌, Bool, true, false, cond, eqb, List, [], ◌∷◌, ◌++◌, length, map, drop, replicate, slice_index, refl, sym, ap, ◌∙◌, subst, arith}
use Rattle.std.specs.List.{prefix_len}
use Rattle.macho_stub_lines.specs.Bytes.{indent, unspaced, is_blank_or_comment, is_passed, space, comma, open_bracket, close_bracket, end, is_tail}
use Rattle.macho_stub_lines.specs.steps.Bytes.{is_space}
use Rattle.macho_stub_lines.specs.Slices.{Slice, Line, texts_of}
use Rattle.macho_stub_lines.specs.Spelling.{scalar_bytes, slice_of, Behind, NoValue, Value, behind_bytes, value_in, IsBehind}
use Rattle.macho_stub_lines.specs.FlowLists as placed
use Rattle.macho_stub_lines.specs.FlowLists.{Block, bytes_then}
use Rattle.macho_stub_lines.specs.Values.{IsScalar, IsGap, spaces, turn, AreScalars, none, last, next}
use Rattle.macho_stub_lines.specs.steps.Values.{IsFlowList}
use Rattle.macho_stub_lines.proofs.Bind.{ne_at}
use Rattle.macho_stub_lines.proofs.EntryTrees.{unspaced_is, spaces_pass, value_at_stop, value_stops}
use Rattle.macho_stub_lines.proofs.Runs.{Stops, Run, run_of, replicate_from_all, all_made, all_made_of}
use Rattle.macho_stub_lines.proofs.UnplacedScalars.{scalar_spelled, scalar_tree}
use Rattle.macho_stub_lines.proofs.ListTreesTails.{tail_begins}
use Rattle.macho_stub_lines.proofs.ScalarTrees.{slice_text}

-- ---- flow lists

-- lines by their texts
abbrev pub line_texts : List Line → List (List ℕ)
line_texts lines = map (λ line. line.text) lines

abbrev block : List ℕ → List Line → Block
block head more = record { head = head; more = more }

abbrev lines_of : Block → List (List ℕ)
lines_of block = block.head ∷ line_texts block.more

gap_alone : (at : ℕ) (block : Block) (behind : ℕ) (rest : Block) → placed.IsGap at block behind rest
    → IsGap (lines_of block) (lines_of rest)
gap_alone at block behind rest (placed.spaces a count r) = spaces count r.head (line_texts r.more)
gap_alone at block behind rest (placed.turn a b number next_at tail after r h gap) =
    turn tail (lines_of after) (lines_of rest) h (gap_alone next_at after behind rest gap)

scalars_alone : (at : ℕ) (block : Block) (says : List Slice) (rest : Block) → placed.AreScalars at block says rest
    → AreScalars (lines_of block) (texts_of says) (lines_of rest)
scalars_alone at block says rest (placed.none a r) = none (lines_of r)
scalars_alone at block says rest (placed.last a behind scalar after r s gap) =
    let S : List ℕ → Type 0 = λ t. IsScalar (scalar_bytes scalar) t in
    last (scalar_bytes scalar) (slice_of at scalar).text after.head (line_texts after.more) (lines_of rest)
    (subst S (sym (slice_text at scalar)) (scalar_spelled scalar s))
    (gap_alone (at + length (scalar_bytes scalar)) after behind rest gap)
scalars_alone at block says rest (placed.next a comma_at next_at scalar before behind others r slices s gap after more) =
    let S : List ℕ → Type 0 = λ t. IsScalar (scalar_bytes scalar) t in
    next (scalar_bytes scalar) (slice_of at scalar).text before.head behind.head (line_texts before.more) (line_texts behind.more)
    (lines_of others) (texts_of slices) (lines_of rest)
    (subst S (sym (slice_text at scalar)) (scalar_spelled scalar s))
    (gap_alone (at + length (scalar_bytes scalar)) before comma_at (bytes_then (comma ∷ []) behind) gap)
    (gap_alone (comma_at + 1) behind next_at others after) (scalars_alone next_at others slices rest more)

-- a list with places is one by its bytes
pub list_alone : (at : ℕ) (value : List ℕ) (more : List Line) (says : List Slice) → placed.IsFlowList at value more says
    → IsFlowList value (line_texts more) (texts_of says)
list_alone at value more says l =
    let whole : block value more ≡ bytes_then (open_bracket ∷ []) l.opened = l.spelled in
    let G : List (List ℕ) → Type 0 = λ under. IsGap (l.opened.head ∷ under) (lines_of l.scalars) in
    record {
      opened = l.opened.head;
      bracket = ap (λ (b : Block). b.head) whole;
      scalars = lines_of l.scalars;
      gap = subst G (ap (λ (b : Block). line_texts b.more) (sym whole)) (gap_alone (at + 1) l.opened l.first_at l.scalars l.gap);
      tail = l.tail;
      are = scalars_alone l.first_at l.scalars says (bytes_then (close_bracket ∷ []) (record { head = l.tail; more = [] })) l.are;
      ends = l.ends;
      inside = all_made (λ (line : List ℕ). line ≢ end) (λ (line : Line). line.text) more l.inside;
    }

record GapPlaced (at : ℕ) (head : List ℕ) (more : List Line) (rest : List (List ℕ)) : Type 0 where
  behind : ℕ
  left : Block
  same : lines_of left ≡ rest
  gap : placed.IsGap at (record { head = head; more = more }) behind left

gap_placed : (lines rest : List (List ℕ)) → IsGap lines rest → (at : ℕ) (head : List ℕ) (more : List Line)
    → head ∷ line_texts more ≡ lines → GapPlaced at head more rest
gap_placed lines rest (spaces count line under) at head more e =
    let here : replicate count space ++ line ≡ head = cc in
    let G : List ℕ → Type 0 = λ h. placed.IsGap at (record { head = h; more = more }) (at + count) (record { head = line; more = more }) in
    record {
      behind = at + count;
      left = record { head = line; more = more };
      same = ap (λ (m : List (List ℕ)). line ∷ m) (cc);
      gap = subst G here (placed.spaces at count (record { head = line; more = more }));
    }
gap_placed lines rest (turn tail below r h gap) at head [] e = absurd (none_below below r gap (cc))
  where
    none_below : (lines rest : List (List ℕ)) → IsGap lines rest → [] ≡ lines → ⊥
    none_below lines rest (spaces count line under) e = absurd cc
    none_below lines rest (turn tail below r h gap) e = absurd cc
gap_placed lines rest (turn tail below r h gap) at head (line ∷ more) e =
    let here : tail ≡ head = cc in
    let g = gap_placed below r gap line.at line.text more (cc) in
    let after : Block = record { head = line.text; more = more } in
    let G : List ℕ → Type 0 = λ t. placed.IsGap at (record { head = t; more = line ∷ more }) g.behind g.left in
    record {
      behind = g.behind;
      left = g.left;
      same = g.same;
      gap = subst G here (placed.turn at g.behind line.number line.at tail after g.left h g.gap);
    }

record ScalarsPlaced (at : ℕ) (head : List ℕ) (more : List Line) (texts : List (List ℕ)) (rest : List (List ℕ)) : Type 0 where
  says : List Slice
  left : Block
  same : lines_of left ≡ rest
  are : placed.AreScalars at (record { head = head; more = more }) says left
  texts_are : texts_of says ≡ texts

scalars_placed : (lines texts rest : List (List ℕ)) → AreScalars lines texts rest → (at : ℕ) (head : List ℕ) (more : List Line)
    → head ∷ line_texts more ≡ lines → ScalarsPlaced at head more texts rest
scalars_placed lines texts rest (none r) at head more e =
    let block : Block = record { head = head; more = more } in
    record { says = []; left = block; same = e; are = placed.none at block; texts_are = refl }
scalars_placed lines texts rest (last bytes text line under r s gap) at head more e =
    let t = scalar_tree bytes text s in
    let n = length (scalar_bytes t.tree) in
    let here : scalar_bytes t.tree ++ line ≡ head = ap (λ (b : List ℕ). b ++ line) t.spelled ∙ cc in
    let g = gap_placed (line ∷ under) rest gap (at + n) line more (ap (λ (m : List (List ℕ)). line ∷ m) (cc)) in
    let A : List ℕ → Type 0 = λ h. placed.AreScalars at (record { head = h; more = more }) (slice_of at t.tree ∷ []) g.left in
    record {
      says = slice_of at t.tree ∷ [];
      left = g.left;
      same = g.same;
      are = subst A here (placed.last at g.behind t.tree (record { head = line; more = more }) g.left t.sound g.gap);
      texts_are = ap (λ (x : List ℕ). x ∷ []) (slice_text at t.tree ∙ t.says);
    }
scalars_placed lines texts rest (next bytes text line behind under below others says r s gap after more_scalars) at head more e =
    let t = scalar_tree bytes text s in
    let n = length (scalar_bytes t.tree) in
    let here : scalar_bytes t.tree ++ line ≡ head = ap (λ (b : List ℕ). b ++ line) t.spelled ∙ cc in
    let g = gap_placed (line ∷ under) ((comma ∷ behind) ∷ below) gap (at + n) line more (ap (λ (m : List (List ℕ)). line ∷ m) (cc)) in
    let comma_there : g.left.head ≡ comma ∷ behind = cc in
    let h = gap_placed (behind ∷ below) others after (g.behind + 1) behind g.left.more (ap (λ (m : List (List ℕ)). behind ∷ m) (cc)) in
    let o = scalars_placed others says rest more_scalars h.behind h.left.head h.left.more h.same in
    let B : Block = record { head = behind; more = g.left.more } in
    let G : List ℕ → Type 0 = λ c. placed.IsGap (at + n) (record { head = line; more = more }) g.behind
    (record { head = c; more = g.left.more }) in
    let A : List ℕ → Type 0 = λ x. placed.AreScalars at (record { head = x; more = more }) (slice_of at t.tree ∷ o.says) o.left in
    record {
      says = slice_of at t.tree ∷ o.says;
      left = o.left;
      same = o.same;
      are = subst A here (placed.next at g.behind h.behind t.tree (record { head = line; more = more }) B h.left o.left o.says t.sound
          (subst G comma_there g.gap) h.gap o.are);
      texts_are = ap (λ (x : List ℕ). x ∷ texts_of o.says) (slice_text at t.tree ∙ t.says)
          ∙ ap (λ (x : List (List ℕ)). text ∷ x) o.texts_are;
    }

-- and a list by its bytes has places
pub list_placed : (at : ℕ) (value : List ℕ) (more : List Line) (texts : List (List ℕ)) → IsFlowList value (line_texts more) texts
    → (says : List Slice) × placed.IsFlowList at value more says × (texts_of says ≡ texts)
list_placed at value more texts l =
    let g = gap_placed (l.opened ∷ line_texts more) l.scalars l.gap (at + 1) l.opened more refl in
    let rest : List (List ℕ) = (close_bracket ∷ l.tail) ∷ [] in
    let s = scalars_placed l.scalars texts rest l.are g.behind g.left.head g.left.more g.same in
    let bracket : s.left.head ≡ close_bracket ∷ l.tail = cc in
    let nothing : s.left.more ≡ [] = no_lines s.left.more (cc) in
    let left : s.left ≡ bytes_then (close_bracket ∷ []) (record { head = l.tail; more = [] }) =
    ap (λ (h : List ℕ). block h s.left.more) bracket
    ∙ ap (block (close_bracket ∷ l.tail)) nothing in
    let A : Block → Type 0 = λ b. placed.AreScalars g.behind g.left s.says b in (
      s.says,
      record {
        opened = record { head = l.opened; more = more };
        spelled = ap (λ (h : List ℕ). block h more) l.bracket;
        first_at = g.behind;
        scalars = g.left;
        gap = g.gap;
        tail = l.tail;
        are = subst A left s.are;
        ends = l.ends;
        inside = all_made_of (λ (line : List ℕ). line ≢ end) (λ (line : Line). line.text) more l.inside;
      },
      s.texts_are,
    )
  where
    no_lines : (lines : List Line) → line_texts lines ≡ [] → lines ≡ []
    no_lines [] e = refl
    no_lines (line ∷ lines) e = absurd cc

-- ---- what stands behind a colon

-- the value there, empty where nothing but spaces and a comment stands
abbrev pub value_behind : List ℕ → List ℕ
value_behind behind = cond (is_passed behind) [] (unspaced behind)

-- nothing stands there, or a space first
abbrev pub IsSpaced : List ℕ → Type 0
IsSpaced behind = (behind ≡ []) ⊎ (slice_index behind 0 ≡ space)

spaced_passed : (b : ℕ) (rest : List ℕ) → b ≡ space → is_passed (b ∷ rest) ≡ is_passed rest
unfolding is_passed unspaced indent
spaced_passed b rest e = rw e (ap (λ (k : ℕ). is_blank_or_comment (drop k (space ∷ rest))) (one_more (prefix_len is_space rest)))
  where
    one_more : (n : ℕ) → 1 + n ≡ suc n
    one_more n = omega arith

tail_passed : (tail : List ℕ) → is_tail tail ≡ true → is_passed tail ≡ true
unfolding is_passed unspaced indent is_blank_or_comment
tail_passed [] e = refl
tail_passed (b ∷ rest) e = let f = tail_begins b rest e in spaced_passed b rest f.0 ∙ f.1

passed_tail : (behind : List ℕ) → IsSpaced behind → is_passed behind ≡ true → is_tail behind ≡ true
unfolding is_tail
passed_tail [] s e = refl
passed_tail (b ∷ rest) (inl n) e = absurd cc
passed_tail (b ∷ rest) (inr s) e = rw (s) (sym (spaced_passed b rest s) ∙ e)

pub spaced_of : (behind : Behind) → IsBehind behind → IsSpaced (behind_bytes behind)
spaced_of (NoValue []) h = inl refl
spaced_of (NoValue (b ∷ tail)) h = inr (tail_begins b tail h).0
spaced_of (Value zero value) h = absurd (omega (arith, h.0))
spaced_of (Value (suc gap) value) h = inr refl

-- the value of a tree
pub value_alone : (behind : Behind) → IsBehind behind → value_behind (behind_bytes behind) ≡ value_in behind
unfolding is_passed
value_alone (NoValue tail) h = rw (tail_passed tail h) refl
value_alone (Value gap value) h =
    let s = value_stops value h.1 in
    let u = unspaced_is (replicate gap space) value (spaces_pass gap) s.0 in
    ap (λ (v : List ℕ). cond (is_blank_or_comment v) [] v) u ∙ rw (s.1) refl

-- and what stands there as a tree
pub behind_tree : (behind : List ℕ) → IsSpaced behind → (tree : Behind) × IsBehind tree × (behind_bytes tree ≡ behind)
unfolding is_passed is_blank_or_comment
behind_tree behind s = by_test (is_passed behind) refl
  where
    by_run : is_passed behind ≡ false → Run is_space behind → (tree : Behind) × IsBehind tree × (behind_bytes tree ≡ behind)
    by_run e run =
        let u : unspaced behind ≡ run.rest = ap unspaced run.is ∙ unspaced_is run.front run.rest run.passes run.stops in
        let value : is_blank_or_comment run.rest ≡ false = ap is_blank_or_comment (sym u) ∙ e in
        let row : run.front ≡ replicate (length run.front) space = replicate_from_all space run.front run.passes in (
          Value (length run.front) run.rest,
          (some run.front run.rest run.is run.stops value, value_at_stop run.rest run.stops value),
          sym (run.is ∙ ap (λ (f : List ℕ). f ++ run.rest) row),
        )
      where
        first : (b : ℕ) (rest : List ℕ) → behind ≡ b ∷ rest → IsSpaced behind → b ≡ space
        first b rest is (inl n) = absurd cc
        first b rest is (inr f) = ap (λ (l : List ℕ). slice_index l 0) (sym is) ∙ f

        some : (front rest : List ℕ) → behind ≡ front ++ rest → Stops is_space rest → is_blank_or_comment rest ≡ false → 0 < length front
        some [] [] is stops v = absurd cc
        some [] (b ∷ rest) is stops v = absurd (ne_at b space stops (first b rest is s))
        some (b ∷ front) rest is stops v = omega arith

    by_test : (t : Bool) → is_passed behind ≡ t → (tree : Behind) × IsBehind tree × (behind_bytes tree ≡ behind)
    by_test true e = (NoValue behind, passed_tail behind s e, refl)
    by_test false e = by_run e (run_of is_space behind)
