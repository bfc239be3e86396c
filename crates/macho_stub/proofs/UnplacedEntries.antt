-- Entries by their lines alone, and with places. An entry with places has one without them (`forget`), and the lines of one are the texts
-- of those of the other. The other way, lines that are spelled by entries without places are spelled by entries with these lines' places
-- (`entries_placed`). What an entry says is the same of both, as the values are (`Unplaced` of the crate below); so it is of those that
-- have a key (`says_forth`, `says_back`).
use Rattle.std.proofs.Common.{◌≡◌, ◌⊎◌, ℕ, Bool, true, false, cond, List, [], ◌∷◌, ◌++◌, map, replicate, slice_index, ◌≢◌, Option, Some, None, refl, sym, ap, ◌∙◌, inl, inr, subst, append_assoc}
use Rattle.std.proofs.lemmas.List.{map-append}
use Rattle.std.specs.List.{AllByRecursion, filter, flat_map}
use Rattle.std.specs.Str.{bytes_eq}
use Rattle.macho_stub_lines.specs.Bytes.{space, colon, is_key_byte}
use Rattle.macho_stub_lines.specs.Slices.{Slice, Line, texts_of}
use Rattle.macho_stub_lines.specs.Spelling as tree
use Rattle.macho_stub_lines.specs.Spelling.{entry_bytes, behind_bytes}
use Rattle.macho_stub_lines.specs.steps.Values as value
use Rattle.macho_stub_lines.proofs.Unplaced.{line_texts, list_alone, list_placed, spaced_of, value_alone, behind_tree}
use Rattle.macho_stub_lines.proofs.Runs.{all_made, all_made_of}
use Rattle.macho_stub.specs.Grammar.{IsEntry, Entry, entry_lines, value_of, IsEntryOf, SaysUnder, IsFlowList, SaysNames}
use Rattle.macho_stub.specs.Places.{belongs, SaysAlone, entries_then, place_of}
use Rattle.macho_stub.specs.Places as old
use Rattle.macho_stub.proofs.Alone.{all_both}
use Rattle.macho_bytes.proofs.Maps.{all_filter, all_weaker}

-- ---- lists

-- a list that is made is cut where what makes it is
pub record Cut {A B : Type 0} (f : A → B) (xs : List A) (front rest : List B) : Type 0 where
  pub more : List A
  pub left : List A
  pub parts : xs ≡ more ++ left
  pub are : map f more ≡ front
  pub same : map f left ≡ rest

pub cut : {A B : Type 0} (f : A → B) (xs : List A) (front rest : List B) → map f xs ≡ front ++ rest → Cut f xs front rest
cut f xs [] rest e = record { more = []; left = xs; parts = refl; are = refl; same = e }
cut f [] (b ∷ front) rest e = absurd cc
cut f (x ∷ xs) (b ∷ front) rest e =
    let here : f x ≡ b = cc in
    let c = cut f xs front rest (cc) in
    record {
      more = x ∷ c.more;
      left = c.left;
      parts = ap (λ (all : List _). x ∷ all) c.parts;
      are = ap (λ y. y ∷ map f c.more) here ∙ ap (λ all. b ∷ all) c.are;
      same = c.same;
    }

-- ---- entries

-- an entry without places
abbrev pub forget : old.Entry → Entry
forget one = record { key = one.entry.key; behind = behind_bytes one.entry.behind; under = line_texts one.more }

abbrev pub Sound : old.Entry → Type 0
Sound one = tree.IsEntry one.entry

pub entry_alone : (one : old.Entry) → Sound one → IsEntry (forget one).key (forget one).behind
unfolding is_key_byte
entry_alone one s = record { some = s.some; bytes = s.bytes; spaced = spaced_of one.entry.behind s.behind }

pub value_same : (one : old.Entry) → Sound one → value_of (forget one) ≡ tree.value_of one.entry
value_same one s = value_alone one.entry.behind s.behind

-- its first line, with these bytes in front
abbrev pub first_of : List ℕ → old.Entry → Line
first_of front one = record { number = one.number; at = one.at; text = front ++ entry_bytes one.entry }

pub record EntryPlaced (front : List ℕ) (entry : Entry) (lines : List Line) (rest : List (List ℕ)) : Type 0 where
  pub one : old.Entry
  pub sound : Sound one
  pub left : List Line
  pub parts : lines ≡ first_of front one ∷ (one.more ++ left)
  pub same : line_texts left ≡ rest
  pub is : forget one ≡ entry

abbrev line_as : Line → List ℕ → Line
line_as line text = record { number = line.number; at = line.at; text = text }

pub entry_placed : (front : List ℕ) (entry : Entry) → IsEntry entry.key entry.behind → (lines : List Line) (rest : List (List ℕ))
    → line_texts lines ≡ entry_lines front entry ++ rest → EntryPlaced front entry lines rest
unfolding is_key_byte
entry_placed front entry i [] rest e = absurd cc
entry_placed front entry i (line ∷ lines) rest e =
    let text : line.text ≡ front ++ (entry.key ++ colon ∷ entry.behind) = cc in
    let c = cut (λ (l : Line). l.text) lines entry.under rest (cc) in
    let b = behind_tree entry.behind i.spaced in
    let one : old.Entry = record {
      number = line.number;
      at = line.at;
      entry = record { key = entry.key; behind = b.0 };
      more = c.more;
    } in
    record {
      one = one;
      sound = record { some = i.some; bytes = i.bytes; behind = b.1 };
      left = c.left;
      parts = ap (λ (m : List Line). line ∷ m) c.parts
          ∙ ap (λ t. line_as line t ∷ (c.more ++ c.left)) (text ∙ ap (λ (x : List ℕ). front ++ (entry.key ++ colon ∷ x)) (sym b.2));
      same = c.same;
      is = made entry.key b.2 c.are;
    }
  where
    made : (key : List ℕ) {behind : List ℕ} {under : List (List ℕ)} → behind ≡ entry.behind → under ≡ entry.under
        → (record { key = entry.key; behind = behind; under = under }) ≡ entry
    made key p q = rw (p, q) refl

-- the entries of a mapping
pub entries_lines : (column : ℕ) (entries : List old.Entry) (rest : List Line) → line_texts (entries_then column entries rest)
    ≡ flat_map (entry_lines (replicate column space)) (map forget entries) ++ line_texts rest
entries_lines column [] rest = refl
entries_lines column (one ∷ others) rest =
    let others_lines = flat_map (entry_lines (replicate column space)) (map forget others) in
    ap (λ (m : List (List ℕ)). (replicate column space ++ entry_bytes one.entry) ∷ m)
    (map-append (λ (l : Line). l.text) one.more (entries_then column others rest)
    ∙ ap (λ (m : List (List ℕ)). line_texts one.more ++ m) (entries_lines column others rest)
    ∙ sym (append_assoc (line_texts one.more) others_lines (line_texts rest)))

pub record EntriesPlaced (column : ℕ) (entries : List Entry) (lines : List Line) (rest : List (List ℕ)) : Type 0 where
  pub olds : List old.Entry
  pub sound : AllByRecursion Sound olds
  pub left : List Line
  pub parts : lines ≡ entries_then column olds left
  pub same : line_texts left ≡ rest
  pub are : map forget olds ≡ entries

pub entries_placed : (read : List (List ℕ)) (column : ℕ) (entries : List Entry) → AllByRecursion (IsEntryOf read column) entries
    → (lines : List Line) (rest : List (List ℕ))
    → line_texts lines ≡ flat_map (entry_lines (replicate column space)) entries ++ rest → EntriesPlaced column entries lines rest
entries_placed read column [] each lines rest e = record { olds = []; sound = tt; left = lines; parts = refl; same = e; are = refl }
entries_placed read column (entry ∷ entries) each lines rest e =
    let front = replicate column space in
    let behind = flat_map (entry_lines front) entries in
    let f = entry_placed front entry each.0.is lines (behind ++ rest) (e ∙ append_assoc (entry_lines front entry) behind rest) in
    let r = entries_placed read column entries each.1 f.left rest f.same in
    record {
      olds = f.one ∷ r.olds;
      sound = (f.sound, r.sound);
      left = r.left;
      parts = f.parts ∙ ap (λ (m : List Line). first_of front f.one ∷ (f.one.more ++ m)) r.parts;
      same = r.same;
      are = ap (λ (x : Entry). x ∷ map forget r.olds) f.is ∙ ap (λ (xs : List Entry). entry ∷ xs) r.are;
    }

-- ---- flow lists

of_value : (entry : Entry) (texts : List (List ℕ)) → value.IsFlowList (value_of entry) entry.under texts → IsFlowList entry texts
of_value entry texts l = record {
  opened = l.opened;
  bracket = l.bracket;
  scalars = l.scalars;
  gap = l.gap;
  tail = l.tail;
  are = l.are;
  ends = l.ends;
  inside = l.inside;
}

to_value : (entry : Entry) (texts : List (List ℕ)) → IsFlowList entry texts → value.IsFlowList (value_of entry) entry.under texts
to_value entry texts l = record {
  opened = l.opened;
  bracket = l.bracket;
  scalars = l.scalars;
  gap = l.gap;
  tail = l.tail;
  are = l.are;
  ends = l.ends;
  inside = l.inside;
}

-- ---- skipped values

abbrev IsSkipped : ℕ → Entry → Type 0
IsSkipped column entry =
    ((texts : List (List ℕ)) × IsFlowList entry texts)
    ⊎ ((slice_index (value_of entry) 0 ≢ 91) × AllByRecursion (λ line. belongs column line ≡ true) entry.under)

skipped_forth : (column : ℕ) (one : old.Entry) → Sound one → old.IsSkipped column one → IsSkipped column (forget one)
skipped_forth column one s (inl l) =
    let F : List ℕ → Type 0 = λ v. value.IsFlowList v (line_texts one.more) (texts_of l.0) in
    inl (
      texts_of l.0,
      of_value (forget one) (texts_of l.0) (subst F (sym (value_same one s)) (list_alone (place_of column one) (tree.value_of one.entry)
          one.more l.0 l.1)),
    )
skipped_forth column one s (inr b) = inr (
  (λ e. b.0 (ap (λ (v : List ℕ). slice_index v 0) (sym (value_same one s)) ∙ e)),
  all_made (λ (line : List ℕ). belongs column line ≡ true) (λ (l : Line). l.text) one.more b.1,
)

skipped_back : (column : ℕ) (one : old.Entry) → Sound one → IsSkipped column (forget one) → old.IsSkipped column one
skipped_back column one s (inl l) =
    let F : List ℕ → Type 0 = λ v. value.IsFlowList v (line_texts one.more) l.0 in
    let p = list_placed (place_of column one) (tree.value_of one.entry) one.more l.0 (subst F (value_same one s)
    (to_value (forget one) l.0 l.1)) in
    inl (p.0, p.1)
skipped_back column one s (inr b) = inr (
  (λ e. b.0 (ap (λ (v : List ℕ). slice_index v 0) (value_same one s) ∙ e)),
  all_made_of (λ (line : List ℕ). belongs column line ≡ true) (λ (l : Line). l.text) one.more b.1,
)

pub each_sound : (read : List (List ℕ)) (column : ℕ) (entries : List old.Entry) → AllByRecursion (old.IsEntryOf read column) entries
    → AllByRecursion Sound entries
each_sound read column entries each = all_weaker (old.IsEntryOf read column) Sound (λ one i. i.entry) entries each

pub each_forth : (read : List (List ℕ)) (column : ℕ) (entries : List old.Entry) → AllByRecursion (old.IsEntryOf read column) entries
    → AllByRecursion (IsEntryOf read column) (map forget entries)
each_forth read column entries each = all_made (IsEntryOf read column) forget entries
    (all_weaker (old.IsEntryOf read column) (λ one. IsEntryOf read column (forget one))
    (λ one i. record { is = entry_alone one i.entry; skipped = λ h. skipped_forth column one i.entry (i.skipped h) }) entries each)

pub each_back : (read : List (List ℕ)) (column : ℕ) (entries : List old.Entry) → AllByRecursion Sound entries
    → AllByRecursion (IsEntryOf read column) (map forget entries) → AllByRecursion (old.IsEntryOf read column) entries
each_back read column entries sound each = all_weaker (λ one. Sound one × IsEntryOf read column (forget one)) (old.IsEntryOf read column)
    (λ one b. record { entry = b.0; skipped = λ h. skipped_back column one b.0 (b.1.skipped h) }) entries
    (all_both Sound (λ one. IsEntryOf read column (forget one)) entries sound (all_made_of (IsEntryOf read column) forget entries each))

-- ---- what is said under a key

filter_forget : (key : List ℕ) (entries : List old.Entry) → filter (λ (entry : Entry). bytes_eq entry.key key) (map forget entries)
    ≡ map forget (filter (λ one. bytes_eq one.entry.key key) entries)
filter_forget key [] = refl
filter_forget key (one ∷ others) = by (bytes_eq one.entry.key key) (filter_forget key others)
  where
    by : (t : Bool) → filter (λ (entry : Entry). bytes_eq entry.key key) (map forget others)
        ≡ map forget (filter (λ one. bytes_eq one.entry.key key) others)
        → cond t (forget one ∷ filter (λ (entry : Entry). bytes_eq entry.key key) (map forget others))
        (filter (λ (entry : Entry). bytes_eq entry.key key) (map forget others))
        ≡ map forget (cond t (one ∷ filter (λ one. bytes_eq one.entry.key key) others) (filter (λ one. bytes_eq one.entry.key key) others))
    by true e = ap (λ (all : List Entry). forget one ∷ all) e
    by false e = e

pub says_forth : {X Y : Type 0} (key : List ℕ) (lacking : Option X) (other : Option Y) (says : old.Entry → X → Type 0)
    (new : Entry → Y → Type 0) (x : X) (y : Y) → (lacking ≡ Some x → other ≡ Some y)
    → ((one : old.Entry) → Sound one → says one x → new (forget one) y) → (entries : List old.Entry) → AllByRecursion Sound entries
    → old.SaysUnder key lacking says entries x → SaysUnder key other new (map forget entries) y
says_forth {X} {Y} key lacking other says new x y none step entries sound s =
    let had = filter (λ one. bytes_eq one.entry.key key) entries in
    alone had (filter_forget key entries) (all_filter Sound (λ one. bytes_eq one.entry.key key) entries sound) s
  where
    alone : (es : List old.Entry) → filter (λ (entry : Entry). bytes_eq entry.key key) (map forget entries) ≡ map forget es
        → AllByRecursion Sound es → SaysAlone lacking says es x → SaysUnder key other new (map forget entries) y
    alone [] e p s = inl (e, none s)
    alone (one ∷ []) e p s = inr (forget one, e, step one p.0 s)
    alone (one ∷ more ∷ others) e p s = absurd s

pub says_back : {X Y : Type 0} (key : List ℕ) (lacking : Option X) (other : Option Y) (says : old.Entry → X → Type 0)
    (new : Entry → Y → Type 0) (view : X → Y) (y : Y) → (other ≡ Some y → (x : X) × (lacking ≡ Some x) × (view x ≡ y))
    → ((one : old.Entry) → Sound one → new (forget one) y → (x : X) × says one x × (view x ≡ y))
    → (entries : List old.Entry) → AllByRecursion Sound entries → SaysUnder key other new (map forget entries) y
    → (x : X) × old.SaysUnder key lacking says entries x × (view x ≡ y)
says_back {X} {Y} key lacking other says new view y none step entries sound s =
    let had = filter (λ one. bytes_eq one.entry.key key) entries in
    alone had (filter_forget key entries) (all_filter Sound (λ one. bytes_eq one.entry.key key) entries sound) s
  where
    found : List Entry
    found = filter (λ (entry : Entry). bytes_eq entry.key key) (map forget entries)

    alone : (es : List old.Entry) → found ≡ map forget es → AllByRecursion Sound es → SaysUnder key other new (map forget entries) y
        → (x : X) × SaysAlone lacking says es x × (view x ≡ y)
    alone [] e p (inl n) = none n.1
    alone [] e p (inr i) = let f : [] ≡ i.0 ∷ [] = sym e ∙ i.1 in absurd cc
    alone (one ∷ []) e p (inl n) = let f : forget one ∷ [] ≡ [] = sym e ∙ n.0 in absurd cc
    alone (one ∷ []) e p (inr i) =
        let f : forget one ∷ [] ≡ i.0 ∷ [] = sym e ∙ i.1 in
        let same : i.0 ≡ forget one = cc in
        let N : Entry → Type 0 = λ entry. new entry y in
        step one p.0 (subst N same i.2)
    alone (one ∷ more ∷ others) e p (inl n) = let f : forget one ∷ map forget (more ∷ others) ≡ [] = sym e ∙ n.0 in absurd cc
    alone (one ∷ more ∷ others) e p (inr i) = let f : forget one ∷ map forget (more ∷ others) ≡ i.0 ∷ [] = sym e ∙ i.1 in absurd cc

-- where a key must stand, or nothing is said
pub must : {X Y : Type 0} (view : X → Y) (y : Y) → None ≡ Some y → (x : X) × (None ≡ Some x) × (view x ≡ y)
must view y e = absurd cc

pub no_texts : (y : List (List ℕ)) → Some [] ≡ Some y → (x : List Slice) × (Some [] ≡ Some x) × (texts_of x ≡ y)
no_texts y e = ([], refl, cc)

pub some_none : {X Y : Type 0} (x : X) (y : Y) → None ≡ Some x → None ≡ Some y
some_none x y e = absurd cc

pub no_texts_forth : (x : List Slice) → Some [] ≡ Some x → Some [] ≡ Some (texts_of x)
no_texts_forth x e = let is : [] ≡ x = cc in ap (λ (l : List Slice). Some (texts_of l)) is

-- a flow list
pub list_forth : (column : ℕ) (says : List Slice) (one : old.Entry) → Sound one → old.SaysNames column one says
    → IsFlowList (forget one) (texts_of says)
list_forth column says one s l =
    let F : List ℕ → Type 0 = λ v. value.IsFlowList v (line_texts one.more) (texts_of says) in
    of_value (forget one) (texts_of says) (subst F (sym (value_same one s)) (list_alone (place_of column one) (tree.value_of one.entry)
    one.more says l))

pub list_back : (column : ℕ) (texts : List (List ℕ)) (one : old.Entry) → Sound one → IsFlowList (forget one) texts
    → (says : List Slice) × old.SaysNames column one says × (texts_of says ≡ texts)
list_back column texts one s l =
    let F : List ℕ → Type 0 = λ v. value.IsFlowList v (line_texts one.more) texts in
    list_placed (place_of column one) (tree.value_of one.entry) one.more texts (subst F (value_same one s) (to_value (forget one) texts l))
