-- The objects of a link by their numbers, and the symbols of the table among them.
--
-- Objects are listed in the order of the inputs, so their numbers rise. A symbol of the table is one of an input that is an object, which
-- is
-- listed under its number with its bytes.
use Rattle.std.proofs.Common.{◌≡◌, ℕ, ◌+◌, ◌<◌, ◌≤◌, false, List, [], ◌∷◌, map, take, length, get_or, refl, sym, ap, subst, ◌∙◌, arith, All, Contains}
use Rattle.std.specs.Prelude.{sum_by, Option}
use Rattle.std.specs.List.{filter_map, enumerate_from}
use Rattle.std.proofs.lemmas.List.{length-map}
use Rattle.std.proofs.lemmas.List.Elements.{All-nil, All-cons}
use Rattle.std.proofs.lemmas.List.Sums.{sum_by_more_le, sum_by-cons}
use Rattle.macho_records.specs.Symbols.{is_stab_of}
use Rattle.macho_model.specs.declared.placed.Counts.{Counts}
use Rattle.macho_model.specs.Objects.{num_symbols, symbol_at}
use Rattle.macho_model.specs.Links.{Link, Input, Object, Dylib, Stub, object_of}
use Rattle.macho_model.specs.Resolution.{SymbolId, name_at, symbols_of}
use Rattle.macho_model.specs.Placement.{Placed}
use Rattle.macho_model.specs.SymbolTable.{table_symbols}
use Rattle.macho_linkedit.specs.TableRows.{row_of}
use Rattle.macho_export_lists.specs.Entries.{ListEntries}
use Rattle.macho_symbols.specs.Kept.{symbol_id}
use Rattle.macho_promise.specs.Sizes.{text_size}
use Rattle.macho_bytes.proofs.Members.{contains_map, map_contains, contains_enumerate, all_contains, contains_filter_map}
use Rattle.macho_bytes.proofs.Orders.{EachLater, later_at}
use Rattle.macho_fields.specs.Looks.{Look}
use Rattle.macho_placed_laws.proofs.OfLink.{IsSymbolOf, symbol_of}
use Rattle.macho_linkedit.specs.declared.listing.LinkedObject.{LinkedObject}
use Rattle.macho_linkedit.specs.declared.listing.TableSymbol.{TableSymbol}
use Rattle.macho_linkedit.specs.declared.listing.TableSymbols.{TableSymbols}
use Rattle.macho_linkedit.specs.Listing.{object_in, seen_object, AreObjects, id_of_symbol, AreListed}
use Rattle.macho_linkedit.specs.Symbols.{SymbolTable, HasRows}
use Rattle.macho_linkedit.proofs.Listed.{bytes_are}
use Rattle.macho_linkedit.proofs.Rows.{name_size, table_strings}
use Rattle.macho_symbol_tables.specs.Rows.{AreToList}
use Rattle.macho_symbol_tables.specs.steps.Rows.{NumbersRise, HasNumber, IsObjectAt, CanHaveRow, IsListed}
use Rattle.macho_symbol_tables.proofs.Numbered.{number_at}
use Rattle.macho_symbol_tables.proofs.TableRows.{IsInTable, in_table, no_stab}
use Rattle.macho_bytes.proofs.Maps.{map_map}

-- the numbers of the objects among inputs from a number on
abbrev numbers_from : ℕ → List Input → List ℕ
numbers_from n inputs = map (λ (o : ℕ × List ℕ). o.0) (filter_map object_in (enumerate_from n inputs))

from_number : (n : ℕ) (inputs : List Input) → All (λ m. n ≤ m) (numbers_from n inputs)
from_number n [] = All-nil (λ m. n ≤ m)
from_number n (Object b ∷ inputs) =
    All-cons (λ m. n ≤ m) n (numbers_from (n + 1) inputs) (omega arith) (λ k d lt. omega (arith, from_number (n + 1) inputs k d lt))
from_number n (Dylib b ∷ inputs) = λ k d lt. omega (arith, from_number (n + 1) inputs k d lt)
from_number n (Stub text says ∷ inputs) = λ k d lt. omega (arith, from_number (n + 1) inputs k d lt)

numbers_rise : (n : ℕ) (inputs : List Input) → EachLater (λ i j. i < j) (numbers_from n inputs)
numbers_rise n [] = tt
numbers_rise n (Object b ∷ inputs) =
    (λ k d lt. omega (arith, from_number (n + 1) inputs k d lt), numbers_rise (n + 1) inputs)
numbers_rise n (Dylib b ∷ inputs) = numbers_rise (n + 1) inputs
numbers_rise n (Stub text says ∷ inputs) = numbers_rise (n + 1) inputs

-- THE numbers of objects rise
pub objects_rise : (l : Link) (objects : List LinkedObject) → AreObjects l objects → NumbersRise objects
objects_rise l objects are i j lt within =
    let same : map (λ (o : LinkedObject). o.number) objects ≡ numbers_from 0 l.inputs =
    sym (map_map (λ (o : ℕ × List ℕ). o.0) seen_object objects) ∙ ap (map (λ (o : ℕ × List ℕ). o.0)) are.are in
    later_at (λ (m n : ℕ). m < n) (map (λ (o : LinkedObject). o.number) objects) 0 i j
    (subst (λ (ns : List ℕ). EachLater (λ m n. m < n) ns) (sym same) (numbers_rise 0 l.inputs)) lt
    (omega (arith, within, length-map objects (λ (o : LinkedObject). o.number)))

-- the object of a symbol of the table is listed
pub object_there : (l : Link) (objects : List LinkedObject) (s : SymbolId) → AreObjects l objects → Contains (symbols_of l) s
    → HasNumber objects s.file
object_there l objects s are there =
    let of = symbol_of l s there in
    let input : Contains (enumerate_from 0 l.inputs) (s.file, Object of.bytes) =
    contains_enumerate l.inputs s.file (Object of.bytes) of.input.0 of.input.1 in
    let listed : Contains (filter_map object_in (enumerate_from 0 l.inputs)) (s.file, of.bytes) =
    contains_filter_map object_in (enumerate_from 0 l.inputs) (s.file, Object of.bytes) (s.file, of.bytes) input refl in
    by of.bytes (map_contains seen_object objects (s.file, of.bytes)
    (subst (λ (os : List (ℕ × List ℕ)). Contains os (s.file, of.bytes)) (sym are.are) listed))
  where
    by : (b : List ℕ) → (o : LinkedObject) × Contains objects o × (seen_object o ≡ (let q : ℕ × List ℕ = (s.file, b) in q))
        → HasNumber objects s.file
    by b (o, (k, lt, at), is) =
        (k, lt, number_at objects k o lt ∙ ap (λ (x : LinkedObject). x.number) at ∙ ap (λ (q : ℕ × List ℕ). q.0) is)

-- a listed symbol is one of the table
pub symbol_listed : (l : Link) (t : TableSymbols) (n : ℕ) (s : TableSymbol) → AreListed l t → n < length t.symbols.items
    → s ≡ get_or t.symbols.items n s
    → Contains (table_symbols l) (id_of_symbol s)
symbol_listed l t n s are lt is =
    subst (λ (ids : List SymbolId). Contains ids (id_of_symbol s)) are.symbols_are
    (contains_map id_of_symbol t.symbols.items s (n, lt, sym is))

-- The object of a number has the bytes of the link's file of that number.
pub object_is : (l : Link) (objects : List LinkedObject) (file place : ℕ) (o : LinkedObject) → AreObjects l objects
    → IsObjectAt objects file place → o ≡ get_or objects place o
    → object_of l file ≡ o.file.bytes
object_is l objects file place o are at is =
    ap (object_of l) (sym at.is ∙ number_at objects place o at.within ∙ ap (λ (x : LinkedObject). x.number) (sym is))
    ∙ bytes_are l objects place o are at.within is

-- What a row of a listed symbol rests on, at the place of its object.
pub row_rests : (l : Link) (counts : Counts) (p : Placed) (look : Look) (objects : List LinkedObject) (t : TableSymbols)
    (lists : Option ListEntries) (place : ℕ) (o : LinkedObject) (s : SymbolId)
    → AreToList l counts p look objects t lists → Contains (table_symbols l) s → IsObjectAt objects s.file place
    → o ≡ get_or objects place o
    → CanHaveRow o s.symbol × IsListed l counts p look o s.symbol lists
row_rests l counts p look objects t lists place o s to listed at is = (
  record {
    kind = all_contains (λ (x : LinkedObject). x.file.is_dynamic ≡ false) objects o to.kinds (place, at.within, sym is);
    among = subst (λ (b : List ℕ). s.symbol < num_symbols b) same
        (subst (λ (b : List ℕ). s.symbol < num_symbols b) (sym of.object) of.symbol);
    plain = subst (λ (b : List ℕ). is_stab_of (symbol_at b s.symbol) ≡ false) same (no_stab l s in_it);
  },
  record {
    link = to.link;
    bytes_are = bytes;
    listed = subst (λ (n : ℕ). Contains (table_symbols l) (symbol_id n s.symbol)) number listed;
    lists_are = to.lists_are;
  },
)
  where
    in_it : IsInTable l s
    in_it = in_table l s listed

    of : IsSymbolOf l s
    of = symbol_of l s in_it.there

    number : s.file ≡ o.number
    number = sym at.is ∙ number_at objects place o at.within ∙ ap (λ (x : LinkedObject). x.number) (sym is)

    bytes : object_of l o.number ≡ o.file.bytes
    bytes = bytes_are l objects place o to.objects_are at.within is

    same : object_of l s.file ≡ o.file.bytes
    same = object_is l objects s.file place o to.objects_are at is

-- the strings of the first rows and the next name with its NUL are within the strings of all
pub names_fit : (l : Link) (counts : Counts) (p : Placed) (t : TableSymbols) (n : ℕ) (table : SymbolTable) (s : SymbolId) → AreListed l t
    → n < length t.symbols.items
    → s ≡ get_or (map id_of_symbol t.symbols.items) n s
    → HasRows (map (row_of l counts p) (take n (map id_of_symbol t.symbols.items))) table
    → length table.strings + text_size (name_at l s) ≤ t.strings
names_fit l counts p t n table s are lt is has =
    let ids : List SymbolId = map id_of_symbol t.symbols.items in
    omega (
      arith,
      table_strings (map (row_of l counts p) (take n ids)) table has,
      sizes (take n ids),
      sum_by_more_le (λ (u : SymbolId). text_size (name_at l u)) ids n s (omega (arith, lt, length-map t.symbols.items id_of_symbol)),
      ap (λ (u : SymbolId). text_size (name_at l u)) is,
      ap (λ (us : List SymbolId). sum_by (λ u. text_size (name_at l u)) us) are.symbols_are,
      are.strings_are,
    )
  where
    sizes : (ids : List SymbolId) → sum_by name_size (map (row_of l counts p) ids) ≡ sum_by (λ s. text_size (name_at l s)) ids
    sizes [] = refl
    sizes (s ∷ ids) =
        sum_by-cons name_size (row_of l counts p s) (map (row_of l counts p) ids)
        ∙ ap (λ (k : ℕ). text_size (name_at l s) + k) (sizes ids)
        ∙ sym (sum_by-cons (λ (u : SymbolId). text_size (name_at l u)) s ids)
