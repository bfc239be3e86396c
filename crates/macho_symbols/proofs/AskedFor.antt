-- Names that are asked for. A name that leads to the next import isn't noted yet, and is noted behind the others; any other
-- name leaves the imports as they are. Name after name, this is a fold over the names. What was noted by a call that gives
-- up stands behind what was there before, so that taking it off leaves all as it was.
use Rattle.std.proofs.Common.{◌≡◌, ℕ, ◌+◌, ◌<◌, Bool, true, false, if◌then◌else◌, is_none, List, [], ◌∷◌, ◌++◌, length, map, get_or, take, All, Contains, refl, ap, subst, sym, ◌∙◌, arith, append-nil, append_assoc, Vec, vec_len}
use Rattle.std.proofs.lemmas.List.{length-map, take_at, get_or-map, take_more}
use Rattle.std.proofs.lemmas.List.Elements.{All-nil, All-cons, All-append, All-more}
use Rattle.std.proofs.lemmas.Bool.{eqb-true}
use Rattle.macho_model.specs.declared.targets.Target.{Target}
use Rattle.macho_model.specs.declared.targets.Target.TheVariants as target
use Rattle.macho_model.specs.Links.{Link}
use Rattle.macho_model.specs.Resolution.{definition_of}
use Rattle.macho_export_lists.specs.Entries.{texts_of}
use Rattle.macho_symbol_names.specs.declared.fault.SymbolFault.{SymbolFault}
use Rattle.macho_symbol_names.specs.declared.fault.SymbolFault.TheVariants.{DuplicateSymbol, UndefinedSymbol, ExportListMissing, OutOfMemory}
use Rattle.macho_symbols.specs.declared.solved.Solved.{Solved}
use Rattle.macho_symbol_names.specs.Kept.{FileRows, kept_of}
use Rattle.macho_symbols.specs.Kept.{ResolvedRows, IsResolved, noted_of}
use Rattle.macho_symbols.specs.Told.{noting_name, noting_names, AreDefined, IsMissing}
use Rattle.macho_symbol_names.specs.Events.{events, best_of}
use Rattle.macho_symbol_names.specs.Tables.{heads_of}
use Rattle.macho_symbols.specs.Targets.{named_in}
use Rattle.macho_symbols.specs.steps.Targets.{is_next, is_nothing, is_missing_in, noting_name_in, noting_names_in}
use Rattle.macho_symbols.specs.steps.Solved.{IsSolved, IsUnchanged, HasGrown, HaveNoted, IsMissingIn}
use Rattle.macho_symbols.proofs.Defined.{definition_is}
use Rattle.macho_symbols.proofs.UsesHere.{nothing_by, next_is}
use Rattle.macho_bytes.proofs.Comparing.{vec_len_is}

-- a name leads to nothing where it has no definition
pub missing_is : (files : List FileRows) (noted : List (List ℕ)) (name : List ℕ)
    → is_nothing (named_in files noted name) ≡ is_missing_in files name
unfolding named_in
missing_is files noted name = nothing_by files noted name (best_of name (events files))

-- one name: it is missing, it is no new import, or it is noted
pub missing_told : (files : List FileRows) (noted : List (List ℕ)) (name told : List ℕ) → told ≡ name
    → is_nothing (named_in files noted name) ≡ true
    → Contains (name ∷ []) told × (is_missing_in files told ≡ true)
missing_told files noted name told is nothing =
    subst (λ n. Contains (name ∷ []) n × (is_missing_in files n ≡ true)) (sym is)
    ((0, omega arith, refl), sym (missing_is files noted name) ∙ nothing)

one_found : (files : List FileRows) (noted : List (List ℕ)) (name : List ℕ) → is_nothing (named_in files noted name) ≡ false
    → All (λ n. is_missing_in files n ≡ false) (name ∷ [])
one_found files noted name something =
    All-cons (λ n. is_missing_in files n ≡ false) name [] (sym (missing_is files noted name) ∙ something)
    (All-nil (λ n. is_missing_in files n ≡ false))

noting_one : (files : List FileRows) (noted : List (List ℕ)) (name : List ℕ) (t : Bool)
    → is_next (length noted) (named_in files noted name) ≡ t
    → noting_names_in files noted (name ∷ []) ≡ (if t then noted ++ name ∷ [] else noted)
unfolding noting_names_in
noting_one files noted name t is = ap (λ u. if u then noted ++ name ∷ [] else noted) is

-- the number of imports is that of the noted names
pub count_is : (s : Solved) (n : ℕ) → n ≡ vec_len s.imports → n ≡ length (noted_of s.imports.items)
count_is s n is = is ∙ vec_len_is s.imports ∙ sym (length-map s.imports.items (λ i. i.name.items))

pub same_grown : (s : Solved) → HasGrown s s
same_grown s
    = record {
      files = refl;
      heads = refl;
      entries = refl;
      found = refl;
      commons = refl;
      more = [];
      imports = sym (append-nil s.imports.items);
    }

pub none_noted_yet : (s : Solved) → IsSolved s → HaveNoted s s []
unfolding noting_names_in
none_noted_yet s is = record {
  solved = is;
  grown = same_grown s;
  noted = refl;
  found = All-nil
      (λ n. is_missing_in s.files.items n ≡ false);
}

pub nothing_new : (s : Solved) (name : List ℕ) → IsSolved s → is_nothing (named_in s.files.items (noted_of s.imports.items) name) ≡ false
    → is_next (length (noted_of s.imports.items)) (named_in s.files.items (noted_of s.imports.items) name) ≡ false
    → HaveNoted s s (name ∷ [])
nothing_new s name is something old = record {
  solved = is;
  grown = same_grown s;
  noted = sym (noting_one s.files.items (noted_of s.imports.items) name false old);
  found = one_found s.files.items (noted_of s.imports.items) name something;
}

pub one_new : (s t : Solved) (name : List ℕ) → IsSolved t → HasGrown s t
    → is_nothing (named_in s.files.items (noted_of s.imports.items) name) ≡ false
    → is_next (length (noted_of s.imports.items)) (named_in s.files.items (noted_of s.imports.items) name) ≡ true
    → noted_of t.imports.items ≡ noted_of s.imports.items ++ name ∷ [] → HaveNoted s t (name ∷ [])
one_new s t name is grown something new notes = record {
  solved = is;
  grown = grown;
  noted = notes ∙ sym (noting_one s.files.items (noted_of s.imports.items) name true new);
  found = one_found s.files.items (noted_of s.imports.items) name something;
}

-- what is the next import has the next number
pub next_import : (n : ℕ) (t : Target) → is_next n t ≡ true → t ≡ target.Import n
next_import n (target.Import id) is = ap target.Import (eqb-true id n is)
next_import n (target.Section file section offset) is = absurd cc
next_import n (target.Common id) is = absurd cc
next_import n target.Base is = absurd cc
next_import n (target.Absolute value) is = absurd cc
next_import n target.None is = absurd cc

-- names after names
noting_more : (files : List FileRows) (noted xs ys : List (List ℕ))
    → noting_names_in files noted (xs ++ ys) ≡ noting_names_in files (noting_names_in files noted xs) ys
unfolding noting_names_in
noting_more files noted [] ys = refl
noting_more files noted (x ∷ xs) ys = noting_more files (noting_name_in files noted x) xs ys

pub grown_more : (a b c : Solved) → HasGrown a b → HasGrown b c → HasGrown a c
grown_more a b c first second = record {
  files = second.files ∙ first.files;
  heads = second.heads ∙ first.heads;
  entries = second.entries ∙ first.entries;
  found = second.found ∙ first.found;
  commons = second.commons ∙ first.commons;
  more = first.more ++ second.more;
  imports = second.imports ∙ ap (λ is. is ++ second.more) first.imports ∙ append_assoc a.imports.items first.more second.more;
}

pub unchanged_grown : (a b : Solved) → IsUnchanged a b → HasGrown a b
unchanged_grown a b same = record {
  files = same.files;
  heads = same.heads;
  entries = same.entries;
  found = same.found;
  commons = same.commons;
  more = [];
  imports = same.imports ∙ sym (append-nil a.imports.items);
}

pub noted_more_names : (a b c : Solved) (xs ys : List (List ℕ)) → HaveNoted a b xs → HaveNoted b c ys → HaveNoted a c (xs ++ ys)
noted_more_names a b c xs ys first second = record {
  solved = second.solved;
  grown = grown_more a b c first.grown second.grown;
  noted =
      second.noted ∙ ap (λ fs. noting_names_in fs (noted_of b.imports.items) ys) first.grown.files
      ∙ ap (λ ns. noting_names_in a.files.items ns ys) first.noted ∙ sym (noting_more a.files.items (noted_of a.imports.items) xs ys);
  found = All-append (λ n. is_missing_in a.files.items n ≡ false) xs ys first.found
      (subst (λ fs. All (λ n. is_missing_in fs n ≡ false) ys) first.grown.files second.found);
}

pub next_name : {A : Type 0} (a b c : Solved) (vs : List (Vec ℕ A)) (i : ℕ) (v : Vec ℕ A) (name : List ℕ) → i < length vs
    → v ≡ get_or vs i v → name ≡ v.items
    → HaveNoted a b (take i (texts_of vs)) → HaveNoted b c (name ∷ []) → HaveNoted a c (take (i + 1) (texts_of vs))
next_name a b c vs i v name within here is first second =
    let item : get_or (texts_of vs) i [] ≡ name = get_or-map (λ w. w.items) vs i v [] within ∙ ap (λ w. w.items) (sym here) ∙ sym is in
    subst (HaveNoted a c)
    (sym (take_more (texts_of vs) i [] (omega (arith, within, length-map vs (λ w. w.items)))
    ∙ ap (λ n. take i (texts_of vs) ++ n ∷ []) item))
    (noted_more_names a b c (take i (texts_of vs)) (name ∷ []) first second)

-- a name of a list is missing
pub missing_among : {A : Type 0} (files fs : List FileRows) (vs : List (Vec ℕ A)) (i : ℕ) (v : Vec ℕ A) (name : List ℕ)
    (fault : SymbolFault)
    → i < length vs → v ≡ get_or vs i v → name ≡ v.items → fs ≡ files → IsMissingIn fs (name ∷ []) fault
    → IsMissingIn files (texts_of vs) fault
missing_among files fs vs i v name OutOfMemory within here is same told = tt
missing_among files fs vs i v name (DuplicateSymbol n first second) within here is same told = told
missing_among files fs vs i v name (UndefinedSymbol n file) within here is same told = told
missing_among files fs vs i v name (ExportListMissing n) within here is same told =
    let item : get_or (texts_of vs) i n.items ≡ name = get_or-map (λ w. w.items) vs i v n.items within ∙ ap (λ w. w.items) (sym here)
    ∙ sym is in
    let first : told.0.0 ≡ 0 = omega (arith, told.0.1) in
    let only : name ≡ n.items = sym (ap (λ k. get_or (name ∷ []) k n.items) first) ∙ told.0.2 in (
      (i, omega (arith, within, length-map vs (λ w. w.items)), item ∙ only),
      ap (λ xs. is_missing_in xs n.items) (sym same) ∙ told.1,
    )

-- what was noted is taken off
pub taken_back : (a b c : Solved) (n : ℕ) → HasGrown a b → n ≡ length a.imports.items → c.files.items ≡ b.files.items
    → heads_of c.table ≡ heads_of b.table → c.table.entries.items ≡ b.table.entries.items → c.found.items ≡ b.found.items
    → c.commons.items ≡ b.commons.items
    → c.imports.items ≡ take n b.imports.items → c.numbers.items ≡ a.numbers.items → IsUnchanged a c
taken_back a b c n grown long files heads entries found commons imports numbers = record {
  files = files ∙ grown.files;
  heads = heads ∙ grown.heads;
  entries = entries ∙ grown.entries;
  found = found ∙ grown.found;
  commons = commons ∙ grown.commons;
  imports = imports ∙ ap (take n) grown.imports ∙ take_at a.imports.items grown.more n (sym long);
  numbers = numbers;
}

-- the same by the link
missing_by_link : (l : Link) (name : List ℕ) → is_missing_in (map kept_of l.inputs) name ≡ is_none (definition_of l name)
missing_by_link l name = ap is_none (sym (definition_is l name))

noting_name_is : (l : Link) (noted : List (List ℕ)) (name : List ℕ)
    → noting_name_in (map kept_of l.inputs) noted name ≡ noting_name l noted name
noting_name_is l noted name = ap (λ t. if t then noted ++ name ∷ [] else noted) (next_is l noted name)

noting_names_is : (l : Link) (noted names : List (List ℕ)) → noting_names_in (map kept_of l.inputs) noted names ≡ noting_names l noted names
unfolding noting_names_in noting_names
noting_names_is l noted [] = refl
noting_names_is l noted (n ∷ names) =
    ap (λ ns. noting_names_in (map kept_of l.inputs) ns names) (noting_name_is l noted n) ∙ noting_names_is l (noting_name l noted n) names

pub names_noted : (l : Link) (noted names texts : List (List ℕ)) (r q : ResolvedRows) → IsResolved l noted r → q.files ≡ r.files
    → texts ≡ names
    → q.noted ≡ noting_names_in r.files r.noted texts → IsResolved l (noting_names l noted names) q
names_noted l noted names texts r q is files same notes = record {
  keeps = files ∙ is.keeps;
  notes =
      notes ∙ ap (λ fs. noting_names_in fs r.noted texts) is.keeps ∙ ap (λ ns. noting_names_in (map kept_of l.inputs) ns texts) is.notes
      ∙ noting_names_is l noted texts ∙ ap (noting_names l noted) same;
}

pub names_found : (l : Link) (noted names texts : List (List ℕ)) (r : ResolvedRows) → IsResolved l noted r → texts ≡ names
    → All (λ n. is_missing_in r.files n ≡ false) texts → AreDefined l names
names_found l noted names texts r is same found =
    subst (AreDefined l) same (λ k d h. sym (missing_by_link l (get_or texts k d))
    ∙ ap (λ fs. is_missing_in fs (get_or texts k d)) (sym is.keeps) ∙ found k d h)

pub name_missing : (l : Link) (noted names texts : List (List ℕ)) (r : ResolvedRows) → IsResolved l noted r → texts ≡ names
    → (fault : SymbolFault) → IsMissingIn r.files texts fault → IsMissing l names fault
name_missing l noted names texts r is same OutOfMemory told = tt
name_missing l noted names texts r is same (DuplicateSymbol n first second) told = told
name_missing l noted names texts r is same (UndefinedSymbol n file) told = told
name_missing l noted names texts r is same (ExportListMissing n) told = (
  subst (λ xs. Contains xs n.items) same told.0,
  sym (missing_by_link l n.items) ∙ ap (λ fs. is_missing_in fs n.items) (sym is.keeps) ∙ told.1,
)

-- the number of imports that there were
pub imports_count : (s : Solved) (n : ℕ) → n ≡ vec_len s.imports → n ≡ length s.imports.items
imports_count s n is = is ∙ vec_len_is s.imports

-- the names of a list, one by one: one is missing, or one more is found
pub missing_at : {A : Type 0} (files : List FileRows) (noted : List (List ℕ)) (vs : List (Vec ℕ A)) (i : ℕ) (v : Vec ℕ A)
    (name told : List ℕ)
    → i < length vs → v ≡ get_or vs i v → name ≡ v.items → told ≡ name → is_nothing (named_in files noted name) ≡ true
    → Contains (texts_of vs) told × (is_missing_in files told ≡ true)
missing_at files noted vs i v name told within here is same nothing =
    subst (λ n. Contains (texts_of vs) n × (is_missing_in files n ≡ true)) (sym same) (
      (
        i,
        omega (arith, within, length-map vs (λ w. w.items)),
        get_or-map (λ w. w.items) vs i v name within ∙ ap (λ w. w.items) (sym here)
            ∙ sym is,
      ),
      sym (missing_is files noted name) ∙ nothing,
    )

pub found_next : {A : Type 0} (files : List FileRows) (noted : List (List ℕ)) (vs : List (Vec ℕ A)) (i : ℕ) (v : Vec ℕ A) (name : List ℕ)
    → i < length vs
    → v ≡ get_or vs i v → name ≡ v.items → is_nothing (named_in files noted name) ≡ false
    → All (λ n. is_missing_in files n ≡ false) (take i (texts_of vs))
    → All (λ n. is_missing_in files n ≡ false) (take (i + 1) (texts_of vs))
found_next files noted vs i v name within here is something before =
    let inside : i < length (texts_of vs) = omega (arith, within, length-map vs (λ w. w.items)) in
    let item : get_or (texts_of vs) i name ≡ name = get_or-map (λ w. w.items) vs i v name within ∙ ap (λ w. w.items) (sym here) ∙ sym is in
    All-more (λ n. is_missing_in files n ≡ false) (texts_of vs) i name inside before
    (ap (is_missing_in files) item ∙ sym (missing_is files noted name) ∙ something)
