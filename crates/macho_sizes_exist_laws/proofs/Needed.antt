-- A link that has sizes has exported names that are spelled.
--
-- Each of them leads to a symbol of the trie that keeps room for them. So it is the labels on its way, one after the other, and
-- the bytes of labels are 1 to 255.
use Rattle.std.proofs.Common.{◌≡◌, ℕ, ◌-◌, ◌<◌, List, [], ◌∷◌, ◌++◌, length, map, Option, refl, sym, ap, ◌∙◌, subst, arith, inl, inr}
use Rattle.std.specs.Prelude.{slice_index, Contains}
use Rattle.std.proofs.lemmas.Bool.{cases_lt}
use Rattle.std.proofs.lemmas.List.{length-append, length-map, get_or_append_left, get_or-append_right, get_or-map}
use Rattle.macho_model.specs.Told.{ToldExport}
use Rattle.macho_trie.specs.Exports.{Exported, as_value}
use Rattle.macho_trie.specs.Trees.{Edges, no_edge, edge, LeadsTo, AreRadix}
use Rattle.macho_trie.specs.Encoding.{IsExportsTrie}
use Rattle.macho_promise.specs.TrieSays.{IsTrieText}
use Rattle.macho_promise.specs.Sizes.{IsTrieSize, kept_for}
use Rattle.macho_sizes_exist_laws.specs.Names.{IsSpelled}
use Rattle.macho_sizes_exist_laws.specs.Laws.{SizesNeedSpelling}
use Rattle.macho_sizes_exist_laws.proofs.Trees.{names_in}

-- texts that are spelled, one after the other
both_spelled : (a b : List ℕ) → IsSpelled a → IsSpelled b → IsSpelled (a ++ b)
both_spelled a b first second k within = elim (cases_lt k (length a)) [
  | inl low ↦
      let is : slice_index (a ++ b) k ≡ slice_index a k = get_or_append_left a b 0 k low in
      let byte = first k low in
      (omega (arith, is, byte.0), omega (arith, is, byte.1))
  | inr high ↦
      let is : slice_index (a ++ b) k ≡ slice_index b (k - length a) = get_or-append_right a b (length a) k 0 refl high in
      let byte = second (k - length a) (omega (arith, within, high, length-append a b)) in
      (omega (arith, is, byte.0), omega (arith, is, byte.1))
]

empty_spelled : (name : List ℕ) → name ≡ [] → IsSpelled name
empty_spelled name is k within = absurd (omega (arith, within, ap length is))

leads_spelled : (es : Edges) (name : List ℕ) (s : ℕ) → AreRadix es → LeadsTo es name s → IsSpelled name
leads_spelled no_edge name s r none = absurd none
leads_spelled (edge label symbol below rest) name s r (inl (left, e, inl end)) =
    subst IsSpelled (sym e) (both_spelled label left r.0.plain (empty_spelled left end.0))
leads_spelled (edge label symbol below rest) name s r (inl (left, e, inr on)) =
    subst IsSpelled (sym e) (both_spelled label left r.0.plain (leads_spelled below left s r.2 on))
leads_spelled (edge label symbol below rest) name s r (inr later) = leads_spelled rest name s r.4 later

root_spelled : (symbol : Option ℕ) (below : Edges) (name : List ℕ) (s : ℕ) → AreRadix below
    → LeadsTo (edge [] symbol below no_edge) name s → IsSpelled name
root_spelled symbol below name s r (inl (left, e, inl end)) = empty_spelled name (e ∙ end.0)
root_spelled symbol below name s r (inl (left, e, inr on)) = subst IsSpelled (sym e) (leads_spelled below left s r on)
root_spelled symbol below name s r (inr none) = absurd none

-- each name of a trie is spelled
in_trie : (symbols : List (List ℕ × Exported)) (bytes : List ℕ) (name : List ℕ) → IsExportsTrie symbols bytes
    → Contains (names_in symbols) name → IsSpelled name
in_trie symbols bytes name t there =
    let within : there.0 < length symbols = omega (arith, there.1, length-map symbols (λ (p : List ℕ × Exported). p.0)) in
    let is = get_or-map (λ (p : List ℕ × Exported). p.0) symbols there.0 ([], as_value 0 0) name within in
    root_spelled t.symbol t.below name there.0 t.radix ((t.names name there.0).1 (within, sym is ∙ there.2))

in_text : (symbols : List (List ℕ × Exported)) (bytes : List ℕ) (name : List ℕ) → IsTrieText symbols bytes
    → Contains (names_in symbols) name → IsSpelled name
in_text symbols bytes name (inl none) there =
    absurd (omega (arith, there.1, length-map symbols (λ (p : List ℕ × Exported). p.0), ap length none.0))
in_text symbols bytes name (inr (some, t)) there = in_trie symbols bytes name t there

-- the names of what keeps the places of exports are theirs
same_names : (f : ToldExport → Exported) (xs : List ToldExport) → map (λ e. e.name) xs ≡ names_in (map (λ e. (e.name, f e)) xs)
same_names f [] = refl
same_names f (x ∷ xs) = ap (λ (ns : List (List ℕ)). x.name ∷ ns) (same_names f xs)

pub sizes_need_spelling : SizesNeedSpelling
sizes_need_spelling l counts are name weak told = by are.trie
  where
    by : IsTrieSize l counts.trie → IsSpelled name
    by t =
        let f : ToldExport → Exported = λ e. kept_for l e.name e.target in
        let C : List (List ℕ) → Type 0 = λ ns. Contains ns name in
        in_text (map (λ e. (e.name, f e)) t.exports) t.bytes name t.trie
        (subst C (same_names f t.exports) (t.told.all name weak told))
