-- Sections and symbols of a link are those of objects among its inputs.
--
-- They are listed file by file, by number below a count that the file's bytes say; only objects have any. So of each the rules of
-- objects hold, and each number below the count is listed.
use Rattle.std.proofs.Common.{◌≡◌, ℕ, ◌+◌, ◌<◌, List, length, get_or, sym, ap, subst, ◌∙◌, arith}
use Rattle.std.specs.Prelude.{Contains}
use Rattle.std.specs.List.{enumerate_from, range_with_len}
use Rattle.std.proofs.lemmas.List.{get_or_default}
use Rattle.std.proofs.lemmas.List.FromFn.{length-enumerate_from, get_or-enumerate_from}
use Rattle.macho_model.specs.Objects.{num_sections, num_symbols}
use Rattle.macho_model.specs.Grammar.{ObjectsAreRead}
use Rattle.macho_model.specs.ObjectLaws.{KeepsObjectRules}
use Rattle.macho_model.proofs.ObjectLaws.{object_keeps}
use Rattle.macho_model.specs.Links.{Input, Object, Dylib, Stub, Link, no_input, object_bytes, object_of, SectionId, sections_of_file, sections_of}
use Rattle.macho_model.specs.Resolution.{SymbolId, symbols_of_file, symbols_of}
use Rattle.macho_bytes.proofs.Members.{nil_contains, contains_map, map_contains, contains_flat_map, flat_map_contains, contains_range, range_contains}

-- a number with an input, of a numbered list
pub numbered_input : (xs : List Input) (i : ℕ × Input) → Contains (enumerate_from 0 xs) i
    → (i.0 < length xs) × (get_or xs i.0 no_input ≡ i.1)
numbered_input xs i (k, lt, at) =
    let within : k < length xs = omega (arith, lt, length-enumerate_from 0 xs) in
    let pair = sym (get_or-enumerate_from 0 xs k i within) ∙ at in
    let n : k ≡ i.0 = omega (arith, ap (λ (x : ℕ × Input). x.0) pair) in (
      omega (arith, n, within),
      ap (λ (j : ℕ). get_or xs j no_input) (sym n) ∙ get_or_default xs k no_input i.1 within ∙ ap (λ (x : ℕ × Input). x.1) pair,
    )

abbrev pair_of : ℕ → Input → ℕ × Input
pair_of n x = (n, x)

pub input_numbered : (xs : List Input) (file : ℕ) → file < length xs → Contains (enumerate_from 0 xs)
    (pair_of file (get_or xs file no_input))
input_numbered xs file lt = (
  file,
  omega (arith, lt, length-enumerate_from 0 xs),
  get_or-enumerate_from 0 xs file (pair_of file (get_or xs file no_input)) lt
      ∙ ap (λ (n : ℕ). pair_of n (get_or xs file (get_or xs file no_input))) zero_more
      ∙ ap (pair_of file) (get_or_default xs file (get_or xs file no_input) no_input lt),
)
  where
    zero_more : 0 + file ≡ file
    zero_more = omega arith

-- a file that is an object
pub record IsObjectFile (l : Link) (file : ℕ) : Type 0 where
  pub within : file < length l.inputs
  pub bytes : List ℕ
  pub is : get_or l.inputs file no_input ≡ Object bytes
  pub object : KeepsObjectRules (object_of l file)

object_file : (l : Link) (file : ℕ) (bytes : List ℕ) → ObjectsAreRead l → file < length l.inputs
    → get_or l.inputs file no_input ≡ Object bytes
    → IsObjectFile l file
object_file l file bytes inputs lt is = record {
  within = lt;
  bytes = bytes;
  is = is;
  object = subst KeepsObjectRules (sym (ap object_bytes is))
      (object_keeps (inputs file bytes (lt, get_or_default l.inputs file (Object bytes) no_input lt ∙ is)));
}

-- THE file of a section, and each section of a file
pub record IsSectionOf (l : Link) (s : SectionId) : Type 0 where
  pub file : IsObjectFile l s.file
  pub within : s.section < num_sections (object_of l s.file)

pub section_of_file : (l : Link) (s : SectionId) → ObjectsAreRead l → Contains (sections_of l) s → IsSectionOf l s
unfolding sections_of
section_of_file l s inputs one =
    let m = flat_map_contains (λ (i : ℕ × Input). sections_of_file i.0 i.1) (enumerate_from 0 l.inputs) s one in
    let n = numbered_input l.inputs m.0 m.1 in
    by m.0.0 m.0.1 n.0 n.1 m.2
  where
    by : (file : ℕ) (x : Input) → file < length l.inputs → get_or l.inputs file no_input ≡ x → Contains (sections_of_file file x) s
        → IsSectionOf l s
    by file (Object bytes) lt is there =
        let k = map_contains (λ (k : ℕ). record { file = file; section = k }) (range_with_len 0 (num_sections bytes)) s there in
        let small = range_contains (num_sections bytes) k.0 k.1 in
        let number : file ≡ s.file = ap (λ (t : SectionId). t.file) k.2 in
        let section : k.0 ≡ s.section = ap (λ (t : SectionId). t.section) k.2 in
        let here = subst (λ (n : ℕ). IsObjectFile l n) number (object_file l file bytes inputs lt is) in
        let same : object_of l s.file ≡ bytes = ap (λ (n : ℕ). object_of l n) (sym number) ∙ ap object_bytes is in
        record { file = here; within = omega (arith, small, section, ap num_sections same) }
    by file (Dylib bytes) lt is there = absurd (nil_contains s there)
    by file (Stub text says) lt is there = absurd (nil_contains s there)

pub section_listed : (l : Link) (file k : ℕ) → IsObjectFile l file → k < num_sections (object_of l file)
    → Contains (sections_of l) (record { file = file; section = k })
unfolding sections_of
section_listed l file k f lt =
    contains_flat_map (λ (i : ℕ × Input). sections_of_file i.0 i.1) (enumerate_from 0 l.inputs)
    (pair_of file (get_or l.inputs file no_input))
    (record { file = file; section = k }) (input_numbered l.inputs file f.within)
    (subst (λ (x : Input). Contains (sections_of_file file x) (record { file = file; section = k })) (sym f.is)
    (contains_map (λ (n : ℕ). record { file = file; section = n }) (range_with_len 0 (num_sections f.bytes)) k
    (contains_range (num_sections f.bytes) k (omega (arith, lt, ap (λ (x : Input). num_sections (object_bytes x)) f.is)))))

-- THE file of a symbol, and each symbol of a file
pub record IsSymbolOf (l : Link) (s : SymbolId) : Type 0 where
  pub file : IsObjectFile l s.file
  pub within : s.symbol < num_symbols (object_of l s.file)

pub symbol_of_file : (l : Link) (s : SymbolId) → ObjectsAreRead l → Contains (symbols_of l) s → IsSymbolOf l s
unfolding symbols_of
symbol_of_file l s inputs one =
    let m = flat_map_contains (λ (i : ℕ × Input). symbols_of_file i.0 i.1) (enumerate_from 0 l.inputs) s one in
    let n = numbered_input l.inputs m.0 m.1 in
    by m.0.0 m.0.1 n.0 n.1 m.2
  where
    by : (file : ℕ) (x : Input) → file < length l.inputs → get_or l.inputs file no_input ≡ x → Contains (symbols_of_file file x) s
        → IsSymbolOf l s
    by file (Object bytes) lt is there =
        let k = map_contains (λ (k : ℕ). record { file = file; symbol = k }) (range_with_len 0 (num_symbols bytes)) s there in
        let small = range_contains (num_symbols bytes) k.0 k.1 in
        let number : file ≡ s.file = ap (λ (t : SymbolId). t.file) k.2 in
        let symbol : k.0 ≡ s.symbol = ap (λ (t : SymbolId). t.symbol) k.2 in
        let here = subst (λ (n : ℕ). IsObjectFile l n) number (object_file l file bytes inputs lt is) in
        let same : object_of l s.file ≡ bytes = ap (λ (n : ℕ). object_of l n) (sym number) ∙ ap object_bytes is in
        record { file = here; within = omega (arith, small, symbol, ap num_symbols same) }
    by file (Dylib bytes) lt is there = absurd (nil_contains s there)
    by file (Stub text says) lt is there = absurd (nil_contains s there)

pub symbol_listed : (l : Link) (file k : ℕ) → IsObjectFile l file → k < num_symbols (object_of l file)
    → Contains (symbols_of l) (record { file = file; symbol = k })
unfolding symbols_of
symbol_listed l file k f lt =
    contains_flat_map (λ (i : ℕ × Input). symbols_of_file i.0 i.1) (enumerate_from 0 l.inputs)
    (pair_of file (get_or l.inputs file no_input))
    (record { file = file; symbol = k }) (input_numbered l.inputs file f.within)
    (subst (λ (x : Input). Contains (symbols_of_file file x) (record { file = file; symbol = k })) (sym f.is)
    (contains_map (λ (n : ℕ). record { file = file; symbol = n }) (range_with_len 0 (num_symbols f.bytes)) k
    (contains_range (num_symbols f.bytes) k (omega (arith, lt, ap (λ (x : Input). num_symbols (object_bytes x)) f.is)))))
