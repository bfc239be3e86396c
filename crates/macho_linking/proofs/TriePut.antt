-- The exports trie of a planned link: what is said of its exports keeps the places that were kept, so its bytes have room in the range that
-- was kept for it.
use Rattle.std.proofs.Common.{◌≡◌, ℕ, ◌+◌, ◌-◌, ◌^◌, ◌<◌, ◌≤◌, ◌⊎◌, inl, inr, List, map, length, refl, sym, ap, subst, arith}
use Rattle.std.proofs.lemmas.Bool.{cases_lt}
use Rattle.std.proofs.lemmas.List.{length-map}
use Rattle.macho_model.specs.declared.targets.Limit.TheVariants as limit
use Rattle.macho_model.specs.Links.{Link}
use Rattle.macho_model.specs.Needs.{imports_of, libraries_needed}
use Rattle.macho_symbols.specs.declared.exports.ExportName.{ExportName}
use Rattle.macho_symbols.specs.declared.solved.Import.{Import}
use Rattle.macho_symbols.specs.Exported.{AreExports}
use Rattle.macho_symbols.specs.Told.{ImportsAre}
use Rattle.macho_linkedit.specs.declared.exports.NamedExport.{NamedExport}
use Rattle.macho_linkedit.specs.Tries.{kept, said, AreKept, AreSaid, IsReserved, IsTriePut}
use Rattle.macho_promise.specs.TrieSays.{IsTrieText}
use Rattle.macho_trie.specs.Tries.{FindsAll, FindsOnly}
use Rattle.macho_model.specs.Placement.{Placed}
use Rattle.macho_symbol_tables.specs.Exports.{AreExportsOf, exports_told}
use Rattle.macho_symbol_tables.proofs.Kept.{kept_are_one}
use Rattle.macho_promise_laws.proofs.Heads.{tables_follow}
use Rattle.macho_promise_laws.proofs.FoundSizes.{ranges_suffice}
use Rattle.macho_promise_laws.specs.Meaning.{TrieMeans}
use Rattle.macho_linking.specs.declared.planned.Planned.{Planned}
use Rattle.macho_linking.specs.steps.Planned.{IsPlanned, placement_of, counts_of}
use Rattle.macho_linking.specs.steps.Written.{TrieIsPut}

libraries_within : (l : Link) (b : Planned) → IsPlanned l b → length (libraries_needed l) ≤ 240
libraries_within l b h = by (cases_lt 240 (length (libraries_needed l)))
  where
    by : (240 < length (libraries_needed l)) ⊎ (length (libraries_needed l) ≤ 240)
        → length (libraries_needed l) ≤ 240
    by (inl more) = absurd (h.sized.limits.numbers limit.Libraries (length (libraries_needed l)) (refl, more))
    by (inr few) = few

-- libraries have numbers of 32 bits
pub libraries_few : (l : Link) (b : Planned) → IsPlanned l b → length b.libraries.now + 1 < 2 ^ 32
libraries_few l b h =
    omega (arith, libraries_within l b h, ap length h.inputs.libraries, length-map b.libraries.now (λ text. text.items))

-- the exports, the imports and the libraries are the link's
pub exports_are : (l : Link) (b : Planned) (exports : List ExportName) (imports : List Import) → IsPlanned l b
    → exports ≡ b.read.now.exports.items → ImportsAre l (imports_of l) imports
    → AreExportsOf l exports imports (map (λ n. n.items) b.libraries.now)
exports_are l b exports imports h same are = record {
  exports_are = subst (AreExports l (imports_of l)) (sym same) h.read.exports;
  imports_are = are;
  libraries_are = h.inputs.libraries;
}

-- the trie's room is that of the exports, whatever is said of them
pub reserved : (l : Link) (b : Planned) (told : List ExportName) (exports : List NamedExport) → IsPlanned l b
    → told ≡ b.read.now.exports.items → AreKept l (exports_told told) exports
    → (others : List NamedExport) × IsReserved b.sized.now.trie others × (map kept others ≡ map kept exports)
reserved l b told exports h same keeps =
    let keeps : AreKept l (exports_told b.read.now.exports.items) exports =
    subst (λ (es : List ExportName). AreKept l (exports_told es) exports) same keeps in
    (h.kept, h.sized.reserved, kept_are_one l (exports_told b.read.now.exports.items) h.kept exports h.exports keeps)

-- and its range has as many bytes, in the file
pub room_suffices : (l : Link) (b : Planned) (n : ℕ) → IsPlanned l b → n ≤ b.sized.now.trie.size
    → (n ≤ (placement_of b).linkedit.trie.end - (placement_of b).linkedit.trie.start)
    × ((placement_of b).linkedit.trie.start + n ≤ (placement_of b).linkedit.signature.end)
room_suffices l b n h fits =
    let keeps = ranges_suffice l (counts_of b) (placement_of b) h.sized.placed h.sized.counted in
    let follow = tables_follow l (counts_of b) (placement_of b) h.sized.placed in (
      omega (arith, keeps.trie, h.sized.room, fits),
      omega (arith, keeps.trie, h.sized.room, fits, follow.trie.1, follow.signature),
    )

-- put there, it is the link's trie
pub trie_put : (l : Link) (b : Planned) (old new : List ℕ) (size : ℕ) (exports : List NamedExport) → IsPlanned l b
    → (w : IsTriePut b.sized.now.trie exports (placement_of b).linkedit.trie.start size old new) → TrieMeans l (placement_of b) w.text
    → TrieIsPut l (placement_of b) size old new
trie_put l b old new size exports h w says = record {
  text = w.text;
  is = w.is;
  long = w.long;
  fits = (room_suffices l b (length w.text) h (omega (arith, w.long, w.fits))).0;
  says = says;
}

-- what the bytes of the trie tell, by the lists that they were made from
pub trie_means : (l : Link) (p : Placed) (names : List ExportName) (exports given : List NamedExport) (text : List ℕ)
    → given ≡ exports → AreSaid l p (exports_told names) exports → IsTrieText (map said given) text
    → FindsAll (map said given) text → FindsOnly (map said given) text → TrieMeans l p text
trie_means l p names exports given text same said_are exact all only = record {
  told = exports_told names;
  exports = given;
  said_are = subst (AreSaid l p (exports_told names)) (sym same) said_are;
  exact = exact;
  all = all;
  only = only;
}
