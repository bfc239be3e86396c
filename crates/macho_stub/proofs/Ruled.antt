-- The tests that are computed decide the rules: each says yes exactly where its rule holds.
-- A name is sought by comparing it with each other one, and names are compared byte by byte, so a name that is found is
-- among them, and the other way round. Two documents say the same where each of their parts is the same, and lists are
-- the same where they are as long and the same place by place (`all_same_is`); so the test on documents is a row of
-- tests that are right one by one (`document_same`, `document_test`).
use Rattle.std.proofs.Common.{◌≡◌, ℕ, ◌&&◌, Bool, true, false, List, [], ◌∷◌, Contains, slice_index_or, refl, ap, ◌∙◌, subst}
use Rattle.std.proofs.lemmas.Bool.{and_parts}
use Rattle.std.proofs.lemmas.List.Elements.{Contains-get_or}
use Rattle.std.proofs.lemmas.List.Folds.{Any-from_list_any, list_any-from_Any, list_any_at}
use Rattle.std.specs.List.{list_any, Any}
use Rattle.std.specs.Str.{bytes_eq}
use Rattle.macho_stub.specs.Documents.{ItemFields, DocumentFields}
use Rattle.macho_stub.specs.steps.Checks.{all_same, same_names, same_item, same_items, same_document, is_listed}
use Rattle.macho_stub.specs.steps.Rules.{SaySame}
use Rattle.macho_stub_lines.proofs.Bind.{bytes_same}
use Rattle.macho_bytes.proofs.Bools.{and_both}
use Rattle.macho_bytes.proofs.Comparing.{same_bytes}

-- ---- tests

-- a name that is found is contained
contained : (name : List ℕ) (names : List (List ℕ)) → list_any (λ other. bytes_eq other name) names ≡ true → Contains names name
contained name names h =
    let r = Any-from_list_any (λ other. bytes_eq other name) names h in
    subst (Contains names) (r.3 ∙ same_bytes r.1 name r.4) (Contains-get_or names r.0 r.1 r.2)

contained_back : (name : List ℕ) (names : List (List ℕ)) → Contains names name → list_any (λ other. bytes_eq other name) names ≡ true
contained_back name names c =
    list_any_at (λ other. bytes_eq other name) names c.0 name c.1 (bytes_same (slice_index_or names c.0 name) name c.2)

-- the library is among the names of one of the items
abbrev pub IsListed : List ℕ → List ItemFields → Type 0
IsListed name items = Any (λ (item : ItemFields). Contains item.names name) items

-- a name that passes the test is listed
pub listed : (name : List ℕ) (items : List ItemFields) → is_listed name items ≡ true → IsListed name items
unfolding is_listed
listed name items h =
    let r = Any-from_list_any (λ (item : ItemFields). list_any (λ other. bytes_eq other name) item.names) items h in
    (r.0, r.1, r.2, r.3, contained name r.1.names r.4)

-- and a listed name passes
pub listed_back : (name : List ℕ) (items : List ItemFields) → IsListed name items → is_listed name items ≡ true
unfolding is_listed
listed_back name items l =
    list_any-from_Any (λ (item : ItemFields). list_any (λ other. bytes_eq other name) item.names) items
    (l.0, l.1, l.2, l.3, contained_back name l.1.names l.4)

-- ---- what is the same

-- a test of sameness that is right for the elements is right for lists
all_same_is : {X : Type 0} (same : X → X → Bool) → ((x y : X) → same x y ≡ true → x ≡ y) → (xs ys : List X) → all_same same xs ys ≡ true
    → xs ≡ ys
unfolding all_same
all_same_is same is [] [] h = refl
all_same_is same is [] (y ∷ ys) h = absurd cc
all_same_is same is (x ∷ xs) [] h = absurd cc
all_same_is {X} same is (x ∷ xs) (y ∷ ys) h =
    let b = and_parts (same x y) (all_same same xs ys) h in
    ap (λ z. z ∷ xs) (is x y b.0) ∙ ap (λ (zs : List X). y ∷ zs) (all_same_is same is xs ys b.1)

all_same_refl : {X : Type 0} (same : X → X → Bool) → ((x : X) → same x x ≡ true) → (xs : List X) → all_same same xs xs ≡ true
unfolding all_same
all_same_refl same is [] = refl
all_same_refl same is (x ∷ xs) = and_both (same x x) (all_same same xs xs) (is x) (all_same_refl same is xs)

names_same : (xs ys : List (List ℕ)) → same_names xs ys ≡ true → xs ≡ ys
unfolding same_names
names_same xs ys h = all_same_is bytes_eq same_bytes xs ys h

names_refl : (xs : List (List ℕ)) → same_names xs xs ≡ true
unfolding same_names
names_refl xs = all_same_refl bytes_eq (λ x. bytes_same x x refl) xs

item_same : (a b : ItemFields) → same_item a b ≡ true → a ≡ b
unfolding same_item
item_same a b h =
    let p = and_parts (same_names a.targets b.targets && same_names a.names b.names) (same_names a.weak_names b.weak_names) h in
    let q = and_parts (same_names a.targets b.targets) (same_names a.names b.names) p.0 in
    ap (λ (t : List (List ℕ)). record a { targets = t }) (names_same a.targets b.targets q.0)
    ∙ ap (λ (t : List (List ℕ)). record { targets = b.targets; names = t; weak_names = a.weak_names }) (names_same a.names b.names q.1)
    ∙ ap (λ (t : List (List ℕ)). record { targets = b.targets; names = b.names; weak_names = t })
    (names_same a.weak_names b.weak_names p.1)

item_refl : (a : ItemFields) → same_item a a ≡ true
unfolding same_item
item_refl a = and_both _ _ (and_both _ _ (names_refl a.targets) (names_refl a.names)) (names_refl a.weak_names)

items_same : (xs ys : List ItemFields) → same_items xs ys ≡ true → xs ≡ ys
unfolding same_items
items_same xs ys h = all_same_is same_item item_same xs ys h

items_refl : (xs : List ItemFields) → same_items xs xs ≡ true
unfolding same_items
items_refl xs = all_same_refl same_item item_refl xs

-- documents that pass the test say the same
pub document_same : (a b : DocumentFields) → same_document a b ≡ true → SaySame a b
unfolding same_document
document_same a b h =
    let p6 = and_parts _ (same_items a.reexports b.reexports) h in
    let p5 = and_parts _ (same_items a.exports b.exports) p6.0 in
    let p4 = and_parts _ (same_items a.libraries b.libraries) p5.0 in
    let p3 = and_parts _ (bytes_eq a.current_version b.current_version) p4.0 in
    let p2 = and_parts _ (bytes_eq a.install_name b.install_name) p3.0 in
    let p1 = and_parts (bytes_eq a.version b.version) (same_names a.targets b.targets) p2.0 in
    let v = same_bytes a.version b.version p1.0 in
    let t = names_same a.targets b.targets p1.1 in
    let i = same_bytes a.install_name b.install_name p2.1 in
    let c = same_bytes a.current_version b.current_version p3.1 in
    let l = items_same a.libraries b.libraries p4.1 in
    let e = items_same a.exports b.exports p5.1 in
    let r = items_same a.reexports b.reexports p6.1 in
    ap (λ x. record a { version = x }) v ∙ ap (λ x. record a { version = b.version; targets = x }) t
    ∙ ap (λ x. record a { version = b.version; targets = b.targets; install_name = x }) i
    ∙ ap (λ x. record a { version = b.version; targets = b.targets; install_name = b.install_name; current_version = x }) c
    ∙ ap (λ x. record a {
      version = b.version;
      targets = b.targets;
      install_name = b.install_name;
      current_version = b.current_version;
      libraries = x;
    }) l
    ∙ ap (λ x. record b { line = a.line; exports = x; reexports = a.reexports }) e
    ∙ ap (λ x. record b { line = a.line; reexports = x }) r

-- and those that say the same pass
pub document_test : (a b : DocumentFields) → SaySame a b → same_document a b ≡ true
unfolding same_document
document_test a b is =
    ap (λ (d : DocumentFields). same_document d b) is
    ∙ and_both _ _ (and_both _ _
    (and_both _ _ (and_both _ _ (and_both _ _ (and_both _ _ (bytes_same b.version b.version refl) (names_refl b.targets))
    (bytes_same b.install_name b.install_name refl)) (bytes_same b.current_version b.current_version refl)) (items_refl b.libraries))
    (items_refl b.exports)) (items_refl b.reexports)
