-- A scan from the front of a table finds what the table's map has.
--
-- A table is a list whose first entry of a key counts; its map is made by inserting from the back, so the first
-- entry is inserted last and stands. By induction over the table: both sides test the first entry's key, and
-- where it is another key both go on with the rest. The scan's test of an entry is the tie of its key in the
-- order of the map; for texts that is equality byte for byte, for numbers equality.
use Rattle.std.proofs.Common.{◌≡◌, ℕ, Bool, true, false, cond, ◌||◌, List, [], ◌∷◌, map, Option, Some, refl, ap, sym, ◌∙◌}
use Rattle.std.specs.Prelude.{nat_eq}
use Rattle.std.specs.Option.{option_map}
use Rattle.std.specs.List.{find, list_any}
use Rattle.std.specs.Str.{bytes_eq}
use Rattle.std.specs.declared.cmp.Ordering.{Ordering}
use Rattle.std.specs.Ordering.{nat_cmp, eq_by_cmp}
use Rattle.std.specs.Cmp.{IsTotalOrder, nat_cmp_total, unsigned_tied}
use Rattle.std.specs.Cmp.Lexicographic.{slice_cmp, nat_list_cmp_total}
use Rattle.std.specs.FinMap as maps
use Rattle.std.specs.FinSet as sets
use Rattle.std.proofs.lemmas.Map.Text.{is_eq-slice_cmp}

module _ {E K X : Type 0} {R : K → K → Ordering} (total : IsTotalOrder R) (key : E → K) (value : E → X)
    (test : E → Bool) (wanted : K) (tests : (e : E) → eq_by_cmp R wanted (key e) ≡ test e) where
  chosen : (b : Bool) (e : E) (found : Option E) (rest : Option X) → option_map value found ≡ rest
      → option_map value (cond b (Some e) found) ≡ cond b (Some (value e)) rest
  chosen true e found rest same = refl
  chosen false e found rest same = same

  scanned : (es : List E) → option_map value (find test es) ≡ maps.find R wanted (map (λ e. (key e, value e)) es)
  scanned [] = refl
  scanned (e ∷ es) = rw (tests e) (chosen (test e) e _ _ (scanned es))

  -- the first entry that passes the test, and what the map has under the key
  get_scanned : (es : List E)
      → option_map value (find test es) ≡ maps.get (maps.from_entries {R = R} (map (λ e. (key e, value e)) es)) wanted
  get_scanned es = scanned es ∙ sym (maps.get-from_entries total _ wanted)

-- the first entry of a path, and what the map has under the path
pub get_by_path : {E : Type 0} (key value : E → List ℕ) (path : List ℕ) (es : List E)
    → option_map value (find (λ e. bytes_eq path (key e)) es)
    ≡ maps.get (maps.from_entries {R = slice_cmp nat_cmp} (map (λ e. (key e, value e)) es)) path
get_by_path key value path es = get_scanned nat_list_cmp_total key value _ path (λ e. is_eq-slice_cmp path (key e)) es

-- the first entry of a number, and what the map has under the number
pub get_by_number : {E : Type 0} (key value : E → ℕ) (number : ℕ) (es : List E)
    → option_map value (find (λ e. nat_eq number (key e)) es)
    ≡ maps.get (maps.from_entries {R = nat_cmp} (map (λ e. (key e, value e)) es)) number
get_by_number key value number es = get_scanned nat_cmp_total key value _ number (λ e. unsigned_tied number (key e)) es

module _ {E : Type 0} (key : E → List ℕ) (path : List ℕ) where
  listed : (es : List E) → list_any (λ e. bytes_eq path (key e)) es ≡ list_any (eq_by_cmp (slice_cmp nat_cmp) path) (map key es)
  listed [] = refl
  listed (e ∷ es) = rw (is_eq-slice_cmp path (key e)) (ap (λ b. bytes_eq path (key e) || b) (listed es))

  -- whether an entry has the path, and whether the set has it
  pub contains_path : (es : List E)
      → list_any (λ e. bytes_eq path (key e)) es ≡ sets.contains (sets.from_list {R = slice_cmp nat_cmp} (map key es)) path
  contains_path es = listed es ∙ sym (sets.contains-from_list nat_list_cmp_total _ path)
