-- Each link whose exported names are spelled has sizes.
--
-- Its exported names are a list that rises, so no two of them are equal, and they have a trie, whatever keeps their places. The
-- size of its bytes, none where nothing is exported, is that of the trie; all other sizes are computed of the link.
use Rattle.std.proofs.Common.{ℕ, ◌+◌, List, [], ◌∷◌, length, map, refl, arith, inl, inr}
use Rattle.macho_model.specs.Links.{Link}
use Rattle.macho_model.specs.Told.{ToldExport}
use Rattle.macho_trie.specs.Exports.{Exported}
use Rattle.macho_promise.specs.TrieSays.{IsTrieText}
use Rattle.macho_promise.specs.Sizes.{IsTrieSize, counts_with, kept_for}
use Rattle.macho_sizes_exist_laws.specs.Laws.{ExportsAreSpelled, SizesAre}
use Rattle.macho_sizes_exist_laws.proofs.Trees.{Numbered, AreInsertable, names_in, trie_of}
use Rattle.macho_sizes_exist_laws.proofs.Rising.{Names, Rises, Each, never_before_itself}
use Rattle.macho_sizes_exist_laws.proofs.Listing.{IsRight, Listed, listed}

-- the symbols that exports are kept by
abbrev kept : (ToldExport → Exported) → List ToldExport → List (List ℕ × Exported)
kept f xs = map (λ e. (e.name, f e)) xs

named : (f : ToldExport → Exported) (xs : List ToldExport) (i t : ℕ) (z : List ℕ) → Numbered (names_in (kept f xs)) i z t → Names xs z
named f [] i t z none = none
named f (x ∷ xs) i t z (inl here) = inl here.0
named f (x ∷ xs) i t z (inr later) = inr (named f xs (i + 1) t z later)

insertable : (l : Link) (f : ToldExport → Exported) (xs : List ToldExport) → ExportsAreSpelled l → Rises xs → Each (IsRight l) xs
    → AreInsertable (names_in (kept f xs))
insertable l f [] spelled rises each = tt
insertable l f (x ∷ xs) spelled rises each = (
  spelled x.name x.weak each.0.0,
  λ i t number. never_before_itself x.name (rises.0 x.name (named f xs i t x.name number)),
  insertable l f xs spelled rises.1 each.1,
)

text_of : (symbols : List (List ℕ × Exported)) → AreInsertable (names_in symbols) → (bytes : List ℕ) × IsTrieText symbols bytes
text_of [] able = ([], inl (refl, refl))
text_of (x ∷ symbols) able =
    let t = trie_of (x ∷ symbols) able in
    (t.0, inr (omega arith, t.1))

trie_size : (l : Link) → ExportsAreSpelled l → (size : ℕ) × IsTrieSize l size
trie_size l spelled = by (listed l)
  where
    by : Listed l → (size : ℕ) × IsTrieSize l size
    by x =
        let f : ToldExport → Exported = λ e. kept_for l e.name e.target in
        let t = text_of (kept f x.exports) (insertable l f x.exports spelled x.rises x.each) in
        (length t.0, record { exports = x.exports; told = x.told; bytes = t.0; trie = t.1; long = refl })

pub sizes_are : SizesAre
unfolding counts_with
sizes_are l spelled =
    let t = trie_size l spelled in
    (counts_with l t.0, record { trie = t.1; are = refl })
