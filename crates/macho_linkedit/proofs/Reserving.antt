-- Names with what keeps their places, and with what they are exported as.
--
-- A register's names are those that were pushed, whatever was pushed with them. So the tree of the names serves for both. A
-- value's greatest address has no fewer bytes than any other address, and its flags one byte; a reexport keeps its own place.
use Rattle.std.proofs.Common.{◌≡◌, ℕ, ◌+◌, ◌<◌, ◌≤◌, List, [], ◌∷◌, map, length, get_or, refl, sym, ap, subst, ◌∙◌, arith, inl, inr}
use Rattle.std.specs.Prelude.{All}
use Rattle.std.proofs.lemmas.List.{get_or-map, length-map}
use Rattle.macho_trie.specs.Exports.{Exported, as_value}
use Rattle.macho_trie.specs.Says.{symbol_of}
use Rattle.macho_trie.specs.Symbols.{symbols_of, names_of}
use Rattle.macho_trie.specs.Encoding.{says_of, IsExportsTrie}
use Rattle.macho_trie.specs.Tries.{IsSizeOf, Reserves, AreReserved, IsWritten, FindsAll, FindsOnly}
use Rattle.macho_promise.specs.TrieSays.{IsTrieText}
use Rattle.macho_trie.specs.declared.symbols.Symbol.{Symbol}
use Rattle.macho_trie.specs.declared.symbols.Symbols.{Symbols}
use Rattle.macho_linkedit.specs.declared.exports.ExportSays.{ExportSays}
use Rattle.macho_linkedit.specs.declared.exports.ExportSays.TheVariants.{Value, Reexport}
use Rattle.macho_linkedit.specs.declared.exports.NamedExport.{NamedExport}
use Rattle.macho_linkedit.specs.declared.exports.ReservedTrie.{ReservedTrie}
use Rattle.macho_linkedit.specs.Tries.{said_of, kept_of, said, kept, names_in, HasFlags, IsReserved, IsTriePut}
use Rattle.macho_linkedit.specs.steps.Values.{IsSmall, AreSmall}

-- maps of equal functions, one after another
first_of : (xs : List Symbol) → map (λ (p : List ℕ × Exported). p.0) (map symbol_of xs) ≡ map (λ i. i.name.now) xs
first_of [] = refl
first_of (x ∷ xs) = ap (λ (ns : List (List ℕ)). x.name.now ∷ ns) (first_of xs)

names_kept : (xs : List NamedExport) → map (λ (p : List ℕ × Exported). p.0) (map kept xs) ≡ names_in xs
names_kept [] = refl
names_kept (x ∷ xs) = ap (λ (ns : List (List ℕ)). x.name.now ∷ ns) (names_kept xs)

names_said : (xs : List NamedExport) → map (λ (p : List ℕ × Exported). p.0) (map said xs) ≡ names_in xs
names_said [] = refl
names_said (x ∷ xs) = ap (λ (ns : List (List ℕ)). x.name.now ∷ ns) (names_said xs)

-- the names of a register
pub kept_names : (s : Symbols) (exports : List NamedExport) → symbols_of s ≡ map kept exports → names_of s ≡ names_in exports
kept_names s exports is = sym (first_of s.items.items) ∙ ap (map (λ (p : List ℕ × Exported). p.0)) is ∙ names_kept exports

pub said_names : (s : Symbols) (exports : List NamedExport) → symbols_of s ≡ map said exports → names_of s ≡ names_in exports
said_names s exports is = sym (first_of s.items.items) ∙ ap (map (λ (p : List ℕ × Exported). p.0)) is ∙ names_said exports

-- equal keepers are of equal names
pub same_names : (xs ys : List NamedExport) → map kept xs ≡ map kept ys → names_in xs ≡ names_in ys
same_names xs ys is = sym (names_kept xs) ∙ ap (map (λ (p : List ℕ × Exported). p.0)) is ∙ names_kept ys

-- what keeps a place is no smaller
keeps : (x : ExportSays) → HasFlags x → IsSmall x → Reserves (kept_of x) (said_of x)
keeps (Value flags value) few fits = (refl, omega (arith, few), fits)
keeps (Reexport library) few fits = refl

pub are_reserved : (exports : List NamedExport) → All (λ e. HasFlags e.says) exports
    → AreSmall exports (length exports) → AreReserved (map kept exports) (map said exports)
are_reserved exports few fits = record { count = length-map exports said ∙ sym (length-map exports kept); each = each }
  where
    d : NamedExport
    d = record { name = record { ref_ptr = (0, 0); now = [] }; says = Value 0 0 }

    each : (s : ℕ) → s < length (map kept exports) → Reserves (says_of (map kept exports) s) (says_of (map said exports) s)
    each s lt =
        let inside : s < length exports = omega (arith, length-map exports kept) in
        let a : says_of (map kept exports) s ≡ kept_of (get_or exports s d).says = ap (λ (p : List ℕ × Exported). p.1)
        (get_or-map kept exports s d ([], as_value 0 0) inside) in
        let b : says_of (map said exports) s ≡ said_of (get_or exports s d).says = ap (λ (p : List ℕ × Exported). p.1)
        (get_or-map said exports s d ([], as_value 0 0) inside) in
        subst (λ (x : Exported). Reserves x (says_of (map said exports) s)) (sym a)
        (subst (λ (x : Exported). Reserves (kept_of (get_or exports s d).says) x) (sym b)
        (keeps (get_or exports s d).says (few s d inside) (fits.each s d inside)))

-- THE bytes fit the room.
pub fits_room : (t : ReservedTrie) (reserved exports : List NamedExport) (m : ℕ) → IsReserved t reserved
    → map kept reserved ≡ map kept exports
    → AreReserved (map kept exports) (map said exports) → IsSizeOf t.trie (names_in exports) (map said exports) m → m ≤ t.size
fits_room t reserved exports m is same kept_is size =
    is.room (map said exports) m (subst (λ (xs : List (List ℕ × Exported)). AreReserved xs (map said exports)) (sym same) kept_is)
    (subst (λ (ns : List (List ℕ)). IsSizeOf t.trie ns (map said exports) m) (sym (same_names reserved exports same)) size)

-- so does what is said by a register of these names
pub said_fits : (t : ReservedTrie) (s : Symbols) (reserved exports : List NamedExport) (m : ℕ) → IsReserved t reserved
    → map kept reserved ≡ map kept exports → AreReserved (map kept exports) (map said exports) → symbols_of s ≡ map said exports
    → IsSizeOf t.trie (names_of s) (symbols_of s) m → m ≤ t.size
said_fits t s reserved exports m is same kept_is are size =
    fits_room t reserved exports m is same kept_is
    (subst (λ (xs : List (List ℕ × Exported)). IsSizeOf t.trie (names_in exports) xs m) are
    (subst (λ (ns : List (List ℕ)). IsSizeOf t.trie ns (symbols_of s) m) (said_names s exports are) size))

trie_text : (symbols : List (List ℕ × Exported)) (text : List ℕ) → (symbols ≡ [] → text ≡ [])
    → (1 ≤ length symbols → IsExportsTrie symbols text) → IsTrieText symbols text
trie_text [] text none some = inl (refl, none refl)
trie_text (x ∷ symbols) text none some = inr (omega arith, some (omega arith))

-- and so the trie that was written is theirs
pub trie_is_put : (t : ReservedTrie) (s : Symbols) (reserved exports : List NamedExport) (at n : ℕ) (old new : List ℕ)
    → IsReserved t reserved → map kept reserved ≡ map kept exports → AreReserved (map kept exports) (map said exports)
    → symbols_of s ≡ map said exports → IsWritten t.trie (names_of s) (symbols_of s) at n old new → IsTriePut t exports at n old new
trie_is_put t s reserved exports at n old new is same kept_is are w = record {
  text = w.text;
  exact = subst (λ (xs : List (List ℕ × Exported)). IsTrieText xs w.text) are
      (trie_text (symbols_of s) w.text w.says.empty w.says.tree);
  found = subst (λ (xs : List (List ℕ × Exported)). FindsAll xs w.text) are w.says.found;
  only = subst (λ (xs : List (List ℕ × Exported)). FindsOnly xs w.text) are w.says.only;
  long = w.long;
  fits = said_fits t s reserved exports n is same kept_is are
      (subst (λ (k : ℕ). IsSizeOf t.trie (names_of s) (symbols_of s) k) w.long w.says.size);
  is = w.is;
}
