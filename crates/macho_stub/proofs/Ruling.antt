-- The checks of documents answer by the rules: they pass exactly where none is broken, and else the first that is is told.
-- A check makes one test for each rule, in the order of the rules, and fails at the first whose rule is broken. So each test
-- needs to decide its rule alone (`one_judged`); that all are judged as a whole follows by putting them in a row (`judged_then`).
-- From what is answered the rules are known, then (`library_made`, `library_told`). The other way round needs no tests:
-- the checks answer something, what they answer is known by the rules, and the rules have room for one answer
-- (`library_back`, `told_back`), since one list has one first rule that is broken (`same_first`).
use Rattle.std.proofs.Common.{◌≡◌, ℕ, zero, suc, ◌<◌, ◌||◌, not, Bool, true, false, cond, eqb, List, [], ◌∷◌, ◌++◌, length, Ok, Err, refl, sym, ap, ◌∙◌, arith, ◌⊎◌, inl, inr, subst, append_assoc}
use Rattle.std.specs.List.{Any, flat_map}
use Rattle.std.specs.Str.{bytes_eq}
use Rattle.std.specs.Prelude.{codes}
use Rattle.std.proofs.lemmas.List.{nil_from_length}
use Rattle.std.proofs.lemmas.Bool.{not-true, not-false, or_parts}
use Rattle.macho_stub_lines.specs.declared.fault.StubRule.{StubRule}
use Rattle.macho_stub_lines.specs.declared.fault.StubRule.TheVariants.{S2, S4, S5, S6, S7, S8, S9}
use Rattle.macho_stub_lines.specs.Faults.{Fault, Reading, ◌>>=◌, broken}
use Rattle.macho_stub.specs.Documents.{ItemFields, DocumentFields}
use Rattle.macho_stub.specs.Library.{has_target, LibraryFields}
use Rattle.macho_stub.specs.steps.Checks.{same_document, is_listed, gathered_texts, checked_libraries, checked_main, checked_document, checked_documents, library_of}
use Rattle.macho_stub.specs.Rules.{Breaks, rules_of}
use Rattle.macho_stub.specs.steps.Rules.{KeepsAll, IsFirstBroken, IsTold, SaySame, MakesLibrary}
use Rattle.macho_stub_lines.proofs.Bind.{bind_ok, no_ok, same_ok, bytes_same, eq_at, ne_at}
use Rattle.macho_stub_lines.proofs.Runs.{all_append, all_behind}
use Rattle.macho_stub.proofs.Gathered.{gathers, weak_gathers}
use Rattle.macho_stub.proofs.Ruled.{IsListed, listed, listed_back, document_same, document_test}
use Rattle.macho_bytes.proofs.Bools.{true_or_false}
use Rattle.macho_bytes.proofs.Comparing.{same_bytes}

-- ---- readings that failed

abbrev pub failed : {A : Type 0} → Fault → Reading A
failed fault = Err fault

-- a reading that failed has one fault
pub same_err : {A : Type 0} (d e : Fault) → failed {A = A} d ≡ failed e → d ≡ e
same_err d e h = cc

-- what a step that failed, or one behind it, tells
pub bind_err : {A B : Type 0} (r : Reading A) (f : A → Reading B) (line : ℕ) (rule : StubRule) → (r >>= f) ≡ broken line rule
    → (r ≡ broken line rule) ⊎ ((x : A) × (r ≡ Ok x) × (f x ≡ broken line rule))
bind_err (Ok x) f line rule e = inr (x, refl, e)
bind_err {A} {B} (Err d) f line rule e = inl (ap failed (same_err {A = B} d (record { line = line; rule = rule }) e))

-- what gives a value tells no fault
pub ok_not_told : {A : Type 0} (x : A) (line : ℕ) (rule : StubRule) → Ok x ≡ broken {A = A} line rule → ⊥
ok_not_told x line rule e = no_ok line rule x (sym e)

-- steps in a row
in_row : {A : Type 0} (r s : Reading (Unit {0})) (t : Reading A) → (r >>= λ _. s >>= λ _. t) ≡ ((r >>= λ _. s) >>= λ _. t)
in_row (Ok u) s t = refl
in_row (Err e) s t = refl

-- ---- judging by rules

-- What is answered of these rules: nothing where none is broken, or the first that is.
abbrev Judges : DocumentFields → List (StubRule × DocumentFields) → Reading (Unit {0}) → Type 0
Judges main rules (Ok u) = KeepsAll main rules
Judges main rules (Err fault) = IsFirstBroken main rules fault.rule fault.line

-- rules that are kept stand before the first that is broken
behind_kept : (main : DocumentFields) (front rules : List (StubRule × DocumentFields)) (rule : StubRule) (line : ℕ) → KeepsAll main front
    → IsFirstBroken main rules rule line → IsFirstBroken main (front ++ rules) rule line
behind_kept main front rules rule line kept first = record {
  before = front ++ first.before;
  document = first.document;
  behind = first.behind;
  parts = ap (λ (all : List (StubRule × DocumentFields)). front ++ all) first.parts
      ∙ sym (append_assoc front first.before ((rule, first.document) ∷ first.behind));
  kept = all_append (λ (one : StubRule × DocumentFields). Breaks one.0 main one.1 → ⊥) front first.before kept first.kept;
  breaks = first.breaks;
  here = first.here;
}

-- a test that decides one rule, and what is tested then
one_judged : (main document : DocumentFields) (rule : StubRule) (rules : List (StubRule × DocumentFields)) (rest : Reading (Unit {0}))
    (test : Bool) → (test ≡ true → Breaks rule main document) → (test ≡ false → Breaks rule main document → ⊥) → Judges main rules rest
    → Judges main ((rule, document) ∷ rules) (cond test (broken document.line rule) rest)
one_judged main document rule rules rest true met kept j =
    record { before = []; document = document; behind = rules; parts = refl; kept = tt; breaks = met refl; here = refl }
one_judged main document rule rules (Ok u) false met kept j = (kept refl, j)
one_judged main document rule rules (Err fault) false met kept j =
    behind_kept main ((rule, document) ∷ []) rules fault.rule fault.line (kept refl, tt) j

-- a last test, which passes where the rule is kept
last_judged : (main document : DocumentFields) (rule : StubRule) (test : Bool) → (test ≡ false → Breaks rule main document)
    → (test ≡ true → Breaks rule main document → ⊥) → Judges main ((rule, document) ∷ []) (cond test (Ok tt) (broken document.line rule))
last_judged main document rule true met kept = (kept refl, tt)
last_judged main document rule false met kept =
    record { before = []; document = document; behind = []; parts = refl; kept = tt; breaks = met refl; here = refl }

-- some rules, and then others
judged_then : (main : DocumentFields) (rules others : List (StubRule × DocumentFields)) (r s : Reading (Unit {0})) → Judges main rules r
    → Judges main others s → Judges main (rules ++ others) (r >>= λ _. s)
judged_then main rules others (Ok u) (Ok v) j k =
    all_append (λ (one : StubRule × DocumentFields). Breaks one.0 main one.1 → ⊥) rules others j k
judged_then main rules others (Ok u) (Err fault) j k = behind_kept main rules others fault.rule fault.line j k
judged_then main rules others (Err fault) s j k = record {
  before = j.before;
  document = j.document;
  behind = j.behind ++ others;
  parts = ap (λ (all : List (StubRule × DocumentFields)). all ++ others) j.parts
      ∙ append_assoc j.before ((fault.rule, j.document) ∷ j.behind) others;
  kept = j.kept;
  breaks = j.breaks;
  here = j.here;
}

-- ---- the main library

libraries_judged : (main : DocumentFields) (items : List ItemFields) → main.libraries ≡ items
    → Judges main ((S7, main) ∷ (S8, main) ∷ []) (checked_libraries main.line items)
libraries_judged main [] is =
    let none : length main.libraries ≡ 0 = ap length is in (
      (λ (many : 1 < length main.libraries). omega (arith, none, many)),
      ((λ (any : Breaks S8 main main). let some = any.2 in omega (arith, none, some)), tt),
    )
libraries_judged main (item ∷ []) is =
    one_judged main main S7 ((S8, main) ∷ []) (cond (has_target item.targets) (Ok tt) (broken main.line S8)) false (λ h. absurd cc)
    (λ _ many. let one : length main.libraries ≡ 1 = ap length is in omega (arith, one, many))
    (last_judged main main S8 (has_target item.targets) (λ h. subst NoTarget (sym is) (0, item, omega arith, refl, h))
    (λ h any. here h (subst NoTarget is any)))
  where
    NoTarget : List ItemFields → Type 0
    NoTarget items = Any (λ (one : ItemFields). has_target one.targets ≡ false) items

    here : has_target item.targets ≡ true → NoTarget (item ∷ []) → ⊥
    here h (zero, one, within, at, other) = true_or_false (has_target item.targets) h
        (ap (λ (i : ItemFields). has_target i.targets) at ∙ other)
    here h (suc k, one, within, at, other) = omega (arith, within)
libraries_judged main (item ∷ other ∷ items) is =
    record {
      before = [];
      document = main;
      behind = (S8, main) ∷ [];
      parts = refl;
      kept = tt;
      breaks = let many = ap length is in omega (arith, many);
      here = refl;
    }

main_judged : (main : DocumentFields)
    → Judges main ((S5, main) ∷ (S6, main) ∷ (S7, main) ∷ (S8, main) ∷ []) (checked_main main)
unfolding checked_main
main_judged main =
    one_judged main main S5 ((S6, main) ∷ (S7, main) ∷ (S8, main) ∷ [])
    (cond (eqb (length main.current_version) 0) (broken main.line S6) (checked_libraries main.line main.libraries))
    (not (has_target main.targets)) (not-true (has_target main.targets))
    (λ h other. true_or_false (has_target main.targets) (not-false (has_target main.targets) h) other)
    (one_judged main main S6 ((S7, main) ∷ (S8, main) ∷ []) (checked_libraries main.line main.libraries)
    (eqb (length main.current_version) 0) (λ h. nil_from_length main.current_version (eq_at _ _ h)) (λ h none. ne_at _ _ h (ap length none))
    (libraries_judged main main.libraries refl))

-- ---- each document

document_judged : (main document : DocumentFields)
    → Judges main ((S4, document) ∷ (S9, document) ∷ []) (checked_document main document)
unfolding checked_document
document_judged main document =
    one_judged main document S4 ((S9, document) ∷ [])
    (cond (same_document document main || is_listed document.install_name main.libraries) (Ok tt) (broken document.line S9))
    (not (bytes_eq document.version (codes "4")))
    (λ h is. true_or_false (bytes_eq document.version (codes "4")) (bytes_same _ _ is) (not-true _ h))
    (λ h other. other (same_bytes _ _ (not-false _ h)))
    (last_judged main document S9 (same_document document main || is_listed document.install_name main.libraries) breaks keeps)
  where
    breaks : (same_document document main || is_listed document.install_name main.libraries) ≡ false → Breaks S9 main document
    breaks h =
        let n = or_parts (same_document document main) (is_listed document.install_name main.libraries) h in (
          (λ s. true_or_false (same_document document main) (document_test document main s) n.0),
          (λ l. true_or_false (is_listed document.install_name main.libraries) (listed_back document.install_name main.libraries l) n.1),
        )

    by : (a b : Bool) → (a || b) ≡ true → (a ≡ true → SaySame document main) → (b ≡ true → IsListed document.install_name main.libraries)
        → Breaks S9 main document → ⊥
    by true b h f g other = other.0 (f refl)
    by false b h f g other = other.1 (g h)

    keeps : (same_document document main || is_listed document.install_name main.libraries) ≡ true → Breaks S9 main document → ⊥
    keeps h = by (same_document document main) (is_listed document.install_name main.libraries) h (document_same document main)
        (listed document.install_name main.libraries)

-- the rules on each document
abbrev each_rule : DocumentFields → List (StubRule × DocumentFields)
each_rule document = (S4, document) ∷ (S9, document) ∷ []

documents_judged : (main : DocumentFields) (documents : List DocumentFields)
    → Judges main (flat_map each_rule documents) (checked_documents main documents)
unfolding checked_documents
documents_judged main [] = tt
documents_judged main (document ∷ documents) =
    judged_then main (each_rule document) (flat_map each_rule documents) (checked_document main document) (checked_documents main documents)
    (document_judged main document) (documents_judged main documents)

-- all that is checked
abbrev checked : DocumentFields → List DocumentFields → Reading (Unit {0})
checked main documents = checked_main main >>= λ _. checked_documents main documents

all_judged : (main : DocumentFields) (documents : List DocumentFields) → Judges main (rules_of main documents) (checked main documents)
all_judged main documents =
    judged_then main ((S5, main) ∷ (S6, main) ∷ (S7, main) ∷ (S8, main) ∷ []) (flat_map each_rule documents) (checked_main main)
    (checked_documents main documents) (main_judged main) (documents_judged main documents)

-- ---- one answer

-- where all rules are kept, none is the first that is broken
none_broken : (main : DocumentFields) (rules : List (StubRule × DocumentFields)) (rule : StubRule) (line : ℕ) → KeepsAll main rules
    → IsFirstBroken main rules rule line → ⊥
none_broken main rules rule line kept first =
    let K : List (StubRule × DocumentFields) → Type 0 = λ all. KeepsAll main all in
    let at = all_behind (λ (one : StubRule × DocumentFields). Breaks one.0 main one.1 → ⊥) first.before
    ((rule, first.document) ∷ first.behind)
    (subst K first.parts kept) in
    at.0 first.breaks

same_split : (main : DocumentFields) (x y : StubRule × DocumentFields) (front other behind rest : List (StubRule × DocumentFields))
    → front ++ x ∷ behind ≡ other ++ y ∷ rest → KeepsAll main front → KeepsAll main other → Breaks x.0 main x.1
    → Breaks y.0 main y.1 → x ≡ y
same_split main x y [] [] behind rest e k l a b = cc
same_split main x y [] (o ∷ other) behind rest e k l a b =
    let is : x ≡ o = cc in
    let B : StubRule × DocumentFields → Type 0 = λ one. Breaks one.0 main one.1 in
    absurd (l.0 (subst B is a))
same_split main x y (f ∷ front) [] behind rest e k l a b =
    let is : y ≡ f = cc in
    let B : StubRule × DocumentFields → Type 0 = λ one. Breaks one.0 main one.1 in
    absurd (k.0 (subst B is b))
same_split main x y (f ∷ front) (o ∷ other) behind rest e k l a b =
    let tails : front ++ x ∷ behind ≡ other ++ y ∷ rest = cc in
    same_split main x y front other behind rest tails k.1 l.1 a b

-- there is one first rule that is broken
same_first : (main : DocumentFields) (rules : List (StubRule × DocumentFields)) (rule other : StubRule) (line at : ℕ)
    → IsFirstBroken main rules rule line → IsFirstBroken main rules other at → broken {A = LibraryFields} line rule ≡ broken at other
same_first main rules rule other line at f g =
    let is : (rule, f.document) ≡ (other, g.document) =
    same_split main (rule, f.document) (other, g.document) f.before g.before f.behind g.behind
    (sym f.parts ∙ g.parts) f.kept g.kept f.breaks g.breaks in
    let r : rule ≡ other = ap (λ (one : StubRule × DocumentFields). one.0) is in
    let l : line ≡ at = f.here ∙ ap (λ (one : StubRule × DocumentFields). one.1.line) is ∙ sym g.here in
    ap (λ n. broken n rule) l ∙ ap (broken at) r

-- ---- the library

-- the library of these documents
abbrev made : DocumentFields → List DocumentFields → LibraryFields
made main documents = record {
  install_name = main.install_name;
  current_version = main.current_version;
  symbols = gathered_texts false documents;
  weak_symbols = gathered_texts true documents;
}

computed : (main : DocumentFields) (others : List DocumentFields)
    → library_of (main ∷ others) ≡ (checked main (main ∷ others) >>= λ _. Ok (made main (main ∷ others)))
unfolding library_of
computed main others = in_row (checked_main main) (checked_documents main (main ∷ others)) (Ok (made main (main ∷ others)))

-- a library that is computed is what the documents make
pub library_made : (documents : List DocumentFields) (library : LibraryFields) → library_of documents ≡ Ok library
    → MakesLibrary documents library
unfolding library_of
library_made [] library e = absurd (no_ok 1 S2 library e)
library_made (main ∷ others) library e =
    let documents = main ∷ others in
    let b = bind_ok (checked main documents) (λ _. Ok (made main documents)) library (sym (computed main others) ∙ e) in
    let is : made main documents ≡ library = same_ok _ _ b.2 in
    let J : Reading (Unit {0}) → Type 0 = λ r. Judges main (rules_of main documents) r in
    record {
      main = main;
      others = others;
      first = refl;
      sound = subst J b.1 (all_judged main documents);
      install_name = ap (λ l. l.install_name) (sym is);
      current_version = ap (λ l. l.current_version) (sym is);
      symbols = ap (λ l. l.symbols) (sym is) ∙ gathers documents;
      weak_symbols = ap (λ l. l.weak_symbols) (sym is) ∙ weak_gathers documents;
    }

-- and a rule that is computed is the one that is told
pub library_told : (documents : List DocumentFields) (line : ℕ) (rule : StubRule) → library_of documents ≡ broken line rule
    → IsTold rule line documents
unfolding library_of
library_told [] line rule e =
    let f = same_err {A = LibraryFields} (record { line = 1; rule = S2 }) (record { line = line; rule = rule }) e in
    (ap (λ (x : Fault). x.rule) (sym f), ap (λ (x : Fault). x.line) (sym f))
library_told (main ∷ others) line rule e =
    let documents = main ∷ others in
    elim (bind_err (checked main documents) (λ _. Ok (made main documents)) line rule (sym (computed main others) ∙ e)) [
      | inl b ↦ let J : Reading (Unit {0}) → Type 0 = λ r. Judges main (rules_of main documents) r in subst J b (all_judged main documents)
      | inr b ↦ absurd (ok_not_told (made main documents) line rule b.2)
    ]

-- no rule is told of documents that make a library
none_told : (documents : List DocumentFields) (library : LibraryFields) (rule : StubRule) (line : ℕ) → MakesLibrary documents library
    → IsTold rule line documents → ⊥
none_told [] library rule line m t = let e = m.first in absurd cc
none_told (main ∷ others) library rule line m t =
    let is : m.main ≡ main = same_head m.first in
    let K : DocumentFields → Type 0 = λ d. KeepsAll d (rules_of d (main ∷ others)) in
    none_broken main (rules_of main (main ∷ others)) rule line (subst K is m.sound) t
  where
    same_head : {x y : DocumentFields} {xs ys : List DocumentFields} → x ∷ xs ≡ y ∷ ys → y ≡ x
    same_head e = cc

-- documents make one library
one_library : (documents : List DocumentFields) (a b : LibraryFields) → MakesLibrary documents a → MakesLibrary documents b → a ≡ b
one_library documents a b m n =
    let is : m.main ≡ n.main = same_head (sym m.first ∙ n.first) in
    let i : a.install_name ≡ b.install_name = m.install_name ∙ ap (λ (d : DocumentFields). d.install_name) is ∙ sym n.install_name in
    let c : a.current_version ≡ b.current_version =
    m.current_version ∙ ap (λ (d : DocumentFields). d.current_version) is ∙ sym n.current_version in
    let s : a.symbols ≡ b.symbols = m.symbols ∙ sym n.symbols in
    let w : a.weak_symbols ≡ b.weak_symbols = m.weak_symbols ∙ sym n.weak_symbols in
    ap (λ x. record a { install_name = x }) i ∙ ap (λ x. record a { install_name = b.install_name; current_version = x }) c
    ∙ ap (λ x. record b { symbols = x; weak_symbols = a.weak_symbols }) s ∙ ap (λ x. record b { weak_symbols = x }) w
  where
    same_head : {x y : DocumentFields} {xs ys : List DocumentFields} → x ∷ xs ≡ y ∷ ys → x ≡ y
    same_head e = cc

-- What documents make is computed.
pub library_back : (documents : List DocumentFields) (library : LibraryFields) → MakesLibrary documents library → library_of documents
    ≡ Ok library
library_back documents library m = by (library_of documents) refl
  where
    by : (r : Reading LibraryFields) → library_of documents ≡ r → r ≡ Ok library
    by (Ok other) e = ap (λ (l : LibraryFields). Ok l) (one_library documents other library (library_made documents other e) m)
    by (Err fault) e = absurd (none_told documents library fault.rule fault.line m (library_told documents fault.line fault.rule e))

-- The rule that is told of documents is computed.
pub told_back : (documents : List DocumentFields) (rule : StubRule) (line : ℕ) → IsTold rule line documents
    → library_of documents ≡ broken line rule
unfolding library_of
told_back [] rule line t = ap (λ n. broken {A = LibraryFields} n S2) (sym t.1) ∙ ap (λ r. broken {A = LibraryFields} line r) (sym t.0)
told_back (main ∷ others) rule line t = by (library_of (main ∷ others)) refl
  where
    by : (r : Reading LibraryFields) → library_of (main ∷ others) ≡ r → r ≡ broken line rule
    by (Ok library) e = absurd (none_told (main ∷ others) library rule line (library_made (main ∷ others) library e) t)
    by (Err fault) e = same_first main (rules_of main (main ∷ others)) fault.rule rule fault.line line
        (library_told (main ∷ others) fault.line fault.rule e) t
