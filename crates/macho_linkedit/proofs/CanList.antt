-- The objects of a link whose symbols are resolved can be listed.
--
-- An object of the list is the link's input of its number, and what is kept of that input is a row for each of its symbols.
use Rattle.std.proofs.Common.{◌≡◌, ℕ, ◌+◌, ◌<◌, List, length, get_or, sym, ap, subst, ◌∙◌, arith, Some}
use Rattle.std.specs.Prelude.{Contains, is_none}
use Rattle.std.specs.List.{filter_map, enumerate_from}
use Rattle.std.proofs.lemmas.List.{get_or_default, get_or-map, length-map}
use Rattle.std.proofs.lemmas.List.FromFn.{get_or-enumerate_from, length-enumerate_from, length-map-range_with_len}
use Rattle.macho_model.specs.Objects.{num_symbols}
use Rattle.macho_model.specs.Links.{Input, Object, Dylib, Stub, Link, no_input}
use Rattle.macho_symbol_names.specs.Kept.{FileRows, kept_of, kept_object, no_file, row_of_symbol, rows_of_object}
use Rattle.macho_symbols.specs.Kept.{ResolvedRows, IsResolved, HasSymbol}
use Rattle.macho_linkedit.specs.declared.listing.LinkedObject.{LinkedObject}
use Rattle.macho_linkedit.specs.Listing.{object_in, seen_object, AreObjects}
use Rattle.macho_linkedit.specs.Laws.{ResolvedCanBeListed}
use Rattle.macho_bytes.proofs.Members.{contains_all, contains_map, filter_map_contains}

-- an object of the list is the link's input of its number
pub input_is : (l : Link) (objects : List LinkedObject) (o : LinkedObject) → AreObjects l objects → Contains objects o
    → (o.number < length l.inputs) × (get_or l.inputs o.number no_input ≡ Object o.file.bytes)
input_is l objects o are c =
    let there : Contains (filter_map object_in (enumerate_from 0 l.inputs)) (seen_object o)
    = subst (λ (xs : List (ℕ × List ℕ)). Contains xs (seen_object o)) are.are (contains_map seen_object objects o c) in
    let z = filter_map_contains object_in (enumerate_from 0 l.inputs) (seen_object o) there in
    by z.0 z.1 z.2
  where
    kind : (n : ℕ) (x : Input) → object_in (n, x) ≡ Some (seen_object o) → (n ≡ o.number) × (x ≡ Object o.file.bytes)
    kind n (Object bytes) e = (let p : (let q : ℕ × List ℕ = (n, bytes) in q) ≡ seen_object o = cc in
        (ap (λ (q : ℕ × List ℕ). q.0) p, ap Object (ap (λ (q : ℕ × List ℕ). q.1) p)))
    kind n (Dylib bytes) e = absurd cc
    kind n (Stub text says) e = absurd cc

    by : (z : ℕ × Input) → Contains (enumerate_from 0 l.inputs) z → object_in z ≡ Some (seen_object o)
        → (o.number < length l.inputs) × (get_or l.inputs o.number no_input ≡ Object o.file.bytes)
    by z (k, k_in, k_is) e =
        let inside : k < length l.inputs = omega (arith, length-enumerate_from 0 l.inputs) in
        let both : (let q : ℕ × Input = (0 + k, get_or l.inputs k z.1) in q) ≡ z = sym (get_or-enumerate_from 0 l.inputs k z inside)
        ∙ k_is in
        let number : 0 + k ≡ z.0 = ap (λ (q : ℕ × Input). q.0) both in
        let input : get_or l.inputs k z.1 ≡ z.1 = ap (λ (q : ℕ × Input). q.1) both in
        let facts = kind z.0 z.1 e in
        let at : o.number ≡ k = omega (arith, number, facts.0) in (
          omega (arith, at, inside),
          ap (λ (n : ℕ). get_or l.inputs n no_input) at ∙ get_or_default l.inputs k no_input z.1 inside ∙ input ∙ facts.1,
        )

-- each of its symbols is kept
pub symbol_is_kept : (l : Link) (noted : List (List ℕ)) (r : ResolvedRows) (objects : List LinkedObject) (o : LinkedObject)
    → IsResolved l noted r → AreObjects l objects → Contains objects o → (k : ℕ) → k < num_symbols o.file.bytes
    → HasSymbol r o.number k
unfolding rows_of_object
symbol_is_kept l noted r objects o is are c k lt =
    let here = input_is l objects o are c in
    let file : get_or r.files o.number no_file ≡ kept_object o.file.bytes
    = ap (λ (fs : List FileRows). get_or fs o.number no_file) is.keeps ∙ get_or-map kept_of l.inputs o.number no_input no_file here.0
    ∙ ap kept_of here.1 in (
      omega (arith, here.0, ap (λ (fs : List FileRows). length fs) is.keeps, length-map l.inputs kept_of),
      ap (λ (f : FileRows). is_none f.library) file,
      omega (
        arith,
        lt,
        ap (λ (f : FileRows). length f.rows) file,
        length-map-range_with_len (row_of_symbol o.file.bytes) 0 (num_symbols o.file.bytes),
      ),
    )

pub can_be_listed : ResolvedCanBeListed
can_be_listed l noted r objects is are kinds few = record {
  kinds = kinds;
  known = contains_all (λ (o : LinkedObject). (k : ℕ) → k < num_symbols o.file.bytes → HasSymbol r o.number k) objects
      (λ o c. symbol_is_kept l noted r objects o is are c);
  few = few;
}
