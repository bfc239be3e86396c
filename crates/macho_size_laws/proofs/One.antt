-- The sizes of a link are one list.
--
-- The exported names rise and are all that are exported, so they are one list; what each keeps its place by is told by the
-- name. So the trie
-- is one, and with it all sizes.
use Rattle.std.proofs.Common.{◌≡◌, ℕ, ◌<◌, List, [], ◌∷◌, map, length, refl, sym, ap, ◌∙◌, subst, arith, false}
use Rattle.std.specs.Prelude.{All, AllPairs, Contains}
use Rattle.std.proofs.lemmas.List.{length-map, get_or-map}
use Rattle.std.proofs.lemmas.List.Elements.{All-head, All-tail}
use Rattle.macho_model.specs.declared.targets.Target.{Target}
use Rattle.macho_model.specs.declared.targets.Target.TheVariants as target
use Rattle.macho_model.specs.Links.{Link}
use Rattle.macho_model.specs.Targets.{target_of_name}
use Rattle.macho_model.specs.Told.{ToldExport, IsToldExport, ExportsAreTold}
use Rattle.macho_trie.specs.Exports.{Exported}
use Rattle.macho_promise.specs.TrieSays.{IsTrieText}
use Rattle.macho_promise.specs.Sizes.{IsTrieSize, counts_with, kept_for}
use Rattle.macho_bytes.proofs.Members.{map_contains, all_contains}
use Rattle.macho_size_laws.specs.Laws.{SizesAreOne}
use Rattle.macho_size_laws.proofs.Rising.{Before, rising_same}
use Rattle.macho_size_laws.proofs.Texts.{one_text}

no_export : ToldExport
no_export = record { name = []; target = target.None; weak = false }

abbrev names_of : List ToldExport → List (List ℕ)
names_of xs = map (λ e. e.name) xs

-- the names rise
rising_names : (xs : List ToldExport) → AllPairs (λ a b. Before a.name b.name) xs → AllPairs Before (names_of xs)
rising_names xs pairs i j d low within =
    let inside : j < length xs = omega (arith, within, length-map xs (λ (e : ToldExport). e.name)) in
    rw (
      get_or-map (λ (e : ToldExport). e.name) xs i no_export d (omega (arith, low, inside)),
      get_or-map (λ (e : ToldExport). e.name) xs j no_export d inside,
    ) (pairs i j no_export low inside)

-- each name that one list tells the other tells too
told_too : (l : Link) (xs ys : List ToldExport) → ExportsAreTold l xs → ExportsAreTold l ys → (z : List ℕ) → Contains (names_of xs) z
    → Contains (names_of ys) z
told_too l xs ys a b z there =
    let e = map_contains (λ (e : ToldExport). e.name) xs z there in
    let told = all_contains (λ (x : ToldExport). IsToldExport l x.name x.weak × (x.target ≡ target_of_name l x.name)) xs e.0 a.each e.1 in
    subst (λ (n : List ℕ). Contains (names_of ys) n) e.2 (b.all e.0.name e.0.weak told.0)

names_are_one : (l : Link) (xs ys : List ToldExport) → ExportsAreTold l xs → ExportsAreTold l ys → names_of xs ≡ names_of ys
names_are_one l xs ys a b =
    rising_same (names_of xs) (names_of ys) (rising_names xs a.rising) (rising_names ys b.rising) (told_too l xs ys a b)
    (told_too l ys xs b a)

-- what keeps the place of each is told by its name
abbrev kept_by : Link → List ℕ → List ℕ × Exported
kept_by l name = (name, kept_for l name (target_of_name l name))

kept_names : (l : Link) (xs : List ToldExport) → All (λ e. IsToldExport l e.name e.weak × (e.target ≡ target_of_name l e.name)) xs
    → map (λ e. (e.name, kept_for l e.name e.target)) xs ≡ map (kept_by l) (names_of xs)
kept_names l [] each = refl
kept_names l (x ∷ xs) each =
    let here = All-head (λ (e : ToldExport). IsToldExport l e.name e.weak × (e.target ≡ target_of_name l e.name)) x xs each in
    let rest = kept_names l xs (All-tail (λ (e : ToldExport). IsToldExport l e.name e.weak ×
    (e.target ≡ target_of_name l e.name)) x xs each) in
    ap (λ (t : Target). let ps : List (List ℕ × Exported) = (x.name, kept_for l x.name t) ∷ map (λ e.
    (e.name, kept_for l e.name e.target)) xs in ps)
    here.1
    ∙ ap (λ (ps : List (List ℕ × Exported)). kept_by l x.name ∷ ps) rest

-- THE trie has one size
trie_is_one : (l : Link) (m n : ℕ) → IsTrieSize l m → IsTrieSize l n → m ≡ n
trie_is_one l m n a b =
    let symbols = kept_names l a.exports a.told.each ∙ ap (map (kept_by l)) (names_are_one l a.exports b.exports a.told b.told)
    ∙ sym (kept_names l b.exports b.told.each) in
    let same = one_text (map (λ e. (e.name, kept_for l e.name e.target)) b.exports) a.bytes b.bytes
    (subst (λ (ps : List (List ℕ × Exported)). IsTrieText ps a.bytes) symbols a.trie) b.trie in
    sym a.long ∙ ap length same ∙ b.long

pub sizes_one : SizesAreOne
sizes_one l counts others a b = a.are ∙ ap (counts_with l) (trie_is_one l counts.trie others.trie a.trie b.trie) ∙ sym b.are
