-- Notes added one at a time. A note that is added stands for one row more, and the notes before it still stand for
-- theirs: a note's name is inside the bytes, and bytes that are added stand behind them.
use Rattle.std.proofs.Common.{◌≡◌, ℕ, ◌+◌, ◌<◌, ◌≤◌, true, false, List, [], ◌∷◌, ◌++◌, length, map, slice_range, take, refl, ◌∙◌, arith, append-nil, append_assoc, Bor, length-append, get_or}
use Rattle.std.specs.List.{range_with_len, filter}
use Rattle.std.proofs.lemmas.List.{map-append, take_more}
use Rattle.macho_stub_lines.specs.Lists.{texts}
use Rattle.std.proofs.lemmas.List.Elements.{filter-append, All-push, All-nil}
use Rattle.macho_symbol_names.specs.declared.notes.Sort.TheVariants.{Offered}
use Rattle.macho_symbol_names.proofs.Lists.{filter_one, filter_none, map_same, slice_front, slice_behind}
use Rattle.std.proofs.lemmas.List.FromFn.{map-range_with_len_more}
use Rattle.macho_symbol_names.specs.declared.notes.Note.{Note}
use Rattle.macho_symbol_names.specs.Kept.{Row, row_of_symbol, rows_of_stub, is_offered, offered_row}
use Rattle.macho_object.specs.Objects.{symbol_name}
use Rattle.macho_symbol_names.specs.Notes.{row_in, CommonFits}
use Rattle.macho_symbol_names.specs.steps.Notes.{IsWithin, AreNoted, IsString}
use Rattle.macho_bytes.proofs.Maps.{range_push}

offered_fits : (n : Note) → n.sort ≡ Offered → CommonFits n.sort n.number n.value
offered_fits n is = rw is tt

row_longer : (text more : List ℕ) (n : Note) → IsWithin text n → row_in (text ++ more) n ≡ row_in text n
row_longer text more n within = rw (slice_front text more n.name.at (n.name.at + n.name.length) within) refl

-- a note more
pub noted_more : (text : List ℕ) (notes : List Note) (rows : List Row) (n : Note) (row : Row) → AreNoted text notes rows → IsWithin text n
    → CommonFits n.sort n.number n.value → row_in text n ≡ row
    → AreNoted text (notes ++ n ∷ []) (rows ++ row ∷ [])
noted_more text notes rows n row noted within small is = record {
  held = record {
    within = All-push (IsWithin text) notes n noted.held.within within;
    small = All-push (λ m. CommonFits m.sort m.number m.value) notes n noted.held.small small;
  };
  are = rw (map-append (row_in text) notes (n ∷ []), noted.are, is) refl;
}

-- rows of an object, one symbol more
pub object_row_more : (b : List ℕ) (text : List ℕ) (notes : List Note) (k : ℕ) (n : Note)
    → AreNoted text notes (map (row_of_symbol b) (range_with_len 0 k))
    → IsString text n.name → CommonFits n.sort n.number n.value → row_in text n ≡ row_of_symbol b k
    → AreNoted text (notes ++ n ∷ []) (map (row_of_symbol b) (range_with_len 0 (k + 1)))
object_row_more b text notes k n noted named small is = rw (map-range_with_len_more (row_of_symbol b) 0 k k (omega arith))
    (noted_more text notes _ n _ noted named.within small is)

-- what a dynamic library offers, one symbol more: it is offered, or it isn't
pub offered_more : (b : List ℕ) (text : List ℕ) (notes : List Note) (k : ℕ) (n : Note)
    → AreNoted text notes (map (λ j. offered_row (symbol_name b j)) (filter (is_offered b) (range_with_len 0 k))) → is_offered b k ≡ true
    → IsString text n.name → n.sort ≡ Offered → row_in text n ≡ offered_row (symbol_name b k)
    → AreNoted text (notes ++ n ∷ []) (map (λ j. offered_row (symbol_name b j)) (filter (is_offered b) (range_with_len 0 (k + 1))))
offered_more b text notes k n noted offered named sort is =
    let f : ℕ → Row = λ j. offered_row (symbol_name b j) in
    rw (
      range_push k,
      filter-append (is_offered b) (range_with_len 0 k) (k ∷ []),
      filter_one (is_offered b) k offered,
      map-append f
          (filter (is_offered b) (range_with_len 0 k)) (k ∷ []),
    )
    (noted_more text notes _ n _ noted named.within (offered_fits n sort) is)

pub not_offered_more : (b : List ℕ) (text : List ℕ) (notes : List Note) (k : ℕ)
    → AreNoted text notes (map (λ j. offered_row (symbol_name b j)) (filter (is_offered b) (range_with_len 0 k))) → is_offered b k ≡ false
    → AreNoted text notes (map (λ j. offered_row (symbol_name b j)) (filter (is_offered b) (range_with_len 0 (k + 1))))
not_offered_more b text notes k noted not_offered =
    rw (
      range_push k,
      filter-append (is_offered b) (range_with_len 0 k) (k ∷ []),
      filter_none (is_offered b) k not_offered,
      append-nil
          (filter (is_offered b) (range_with_len 0 k)),
    ) noted

-- bytes that are added behind leave the notes' rows
pub noted_longer : (text more : List ℕ) (notes : List Note) (rows : List Row) → AreNoted text notes rows
    → AreNoted (text ++ more) notes rows
noted_longer text more notes rows noted = record {
  held = record {
    within = λ k d h. omega (arith, noted.held.within k d h, length-append text more);
    small = noted.held.small;
  };
  are = map_same (row_in (text ++ more)) (row_in text) notes (λ k d h. row_longer text more (get_or notes k d) (noted.held.within k d h))
      ∙ noted.are;
}

-- a name that is added behind the others
pub name_more : (text name : List ℕ) (notes : List Note) (rows : List Row) (n : Note) (at long : ℕ) → AreNoted text notes rows
    → at ≡ length text
    → long ≡ length name → n.name ≡ record { at = at; length = long } → n.sort ≡ Offered
    → ((t : List ℕ) → row_in t n ≡ offered_row (slice_range t at (at + long)))
    → AreNoted (text ++ name) (notes ++ n ∷ []) (rows ++ offered_row name ∷ [])
name_more text name notes rows n at long noted first all place sort is =
    let inside : n.name.at + n.name.length ≤ length (text ++ name) = rw place (omega (arith, length-append text name)) in
    let row : row_in (text ++ name) n ≡ offered_row (slice_range (text ++ name) at (at + long)) = is (text ++ name) in
    noted_more (text ++ name) notes rows n _ (noted_longer text name notes rows noted) inside (offered_fits n sort)
    (row ∙ rw (first, all, slice_behind text name) refl)

-- no names yet
pub none_noted : AreNoted [] [] []
none_noted = record {
  held = record
      { within = All-nil (IsWithin []); small = All-nil (λ n. CommonFits n.sort n.number n.value) };
  are = refl;
}

-- the names of a stub: the strong ones, then the weak ones
pub stub_noted : (text : List ℕ) (notes : List Note) (names weak_names : List (List ℕ))
    → AreNoted text notes (([] ++ map offered_row names) ++ map offered_row weak_names)
    → AreNoted text notes (rows_of_stub names weak_names)
unfolding rows_of_stub
stub_noted text notes names weak_names noted = rw (map-append offered_row names weak_names) noted

-- the rows of names, one name more
pub texts_more : (rows : List Row) (names : List (Bor (List ℕ))) (i : ℕ) (d : Bor (List ℕ)) (bytes : List ℕ) → i < length names
    → bytes ≡ (get_or names i d).now
    → rows ++ map offered_row (texts (take (i + 1) names)) ≡ (rows ++ map offered_row (texts (take i names))) ++ offered_row bytes ∷ []
texts_more rows names i d bytes within is =
    rw (
      take_more names i d within,
      map-append (λ (n : Bor (List ℕ)). n.now) (take i names) (get_or names i d ∷ []),
      map-append offered_row (texts (take i names)) ((get_or names i d).now ∷ []),
      is,
      append_assoc rows (map offered_row (texts (take i names))) _,
    ) refl
