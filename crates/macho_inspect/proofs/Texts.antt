-- The text of a report, by its parts.
--
-- The lines of each part are pushed one behind the other, and the parts are. What was pushed before a part that is refused stands in
-- front of what the sink took of that part; and what stands behind it doesn't matter then.
use Rattle.std.proofs.Common.{◌≡◌, ℕ, ◌+◌, ◌<◌, ◌≤◌, refl, sym, ap, subst, ◌∙◌, arith, List, [], ◌++◌, length, map, take, get_or, Vec, Global, Result, Ok, Err}
use Rattle.std.specs.List.{flat_map, enumerate_from}
use Rattle.std.proofs.lemmas.List.{append-nil, get_or-map, length-map, take_all}
use Rattle.std.proofs.lemmas.List.FromFn.{get_or-enumerate_from, length-enumerate_from}
use Rattle.std.proofs.lemmas.List.Folds.{flat_map-map}
use Rattle.std.proofs.lemmas.Grind.{flat_map-append}
use Rattle.macho_devices.specs.Devices.{Printed, TakesPrefix}
use Rattle.macho_devices.specs.Faults.{CountsOn, CountRose}
use Rattle.macho_devices.proofs.Counts.{counts-since, rose-since}
use Rattle.macho_printing.specs.Printing.{Passes, IsPushed}
use Rattle.macho_printing.proofs.Prints.{takes-none}
use Rattle.macho_printing.proofs.Pushes.{passes-more, passes-front, piece-pushed, piece-refused}
use Rattle.macho_inspect.specs.Lines.{line_text, segment_pieces, library_pieces, import_pieces, exports_pieces, fixup_pieces, report_text}
use Rattle.macho_loader.specs.declared.chain_list.FixupLine.{FixupLine}
use Rattle.macho_inspect.specs.declared.report.SegmentLine.{SegmentLine}
use Rattle.macho_inspect.specs.declared.report.ImportLine.{ImportLine}
use Rattle.macho_inspect.specs.declared.report.Report.{Report}

-- the first of two texts is refused
pub first-refused : {A E : Type 0} (a b : Printed) (old new text rest : List ℕ) (r : Result A E) (e : E) → r ≡ Err e
    → TakesPrefix a b (old ++ text) → CountRose a.failed b.failed → CountsOn a.failed b.failed → IsPushed a b old new (text ++ rest) r
first-refused {A} {E} a b old new text rest r e is left rose counted =
    subst (λ (s : Result A E). IsPushed a b old new (text ++ rest) s) (sym is) (record {
      done = tt;
      left = passes-front a a b old old [] text rest
          (record { sent = []; split = append-nil old; taken = takes-none a }) left;
      why = rose;
      counted = counted;
    })

-- the first of two texts is pushed, and then the second
pub both-pushed : {A E : Type 0} (a b c : Printed) (old mid new text rest : List ℕ) (r : Result A E) → Passes a b old mid text
    → CountsOn a.failed b.failed → IsPushed b c mid new rest r → IsPushed a c old new (text ++ rest) r
both-pushed a b c old mid new text rest (Ok x) pushed before p = record {
  done = passes-more a b c old mid new text rest pushed p.done;
  left = tt;
  why = tt;
  counted = counts-since a.failed b.failed c.failed before p.counted;
}
both-pushed a b c old mid new text rest (Err e) pushed before p = record {
  done = tt;
  left = subst (λ (t : List ℕ). TakesPrefix a c (old ++ (text ++ t))) (append-nil rest)
      (passes-front a b c old mid text rest [] pushed p.left);
  why = rose-since a.failed b.failed c.failed before p.counted p.why;
  counted = counts-since a.failed b.failed c.failed before p.counted;
}

-- the same text, said otherwise
pub pushed-as : {A E : Type 0} (a b : Printed) (old new text other : List ℕ) (r : Result A E) → text ≡ other → IsPushed a b old new text r
    → IsPushed a b old new other r
pushed-as {A} {E} a b old new text other r same p = subst (λ (t : List ℕ). IsPushed a b old new t r) same p

-- an item more of a list is pushed
pub item-pushed : {X : Type 0} (f : X → List ℕ) (xs : List X) (i : ℕ) (x : X) (a b c : Printed) (old mid new : List ℕ)
    → i < length xs → x ≡ get_or xs i x → Passes a b old mid (flat_map f (take i xs)) → Passes b c mid new (f x)
    → Passes a c old new (flat_map f (take (i + 1) xs))
item-pushed {X} f xs i x a b c old mid new within is p q =
    piece-pushed f xs i x a b c old mid new within p (subst (λ (y : X). Passes b c mid new (f y)) is q)

-- an item is refused
pub item-refused : {X A E : Type 0} (f : X → List ℕ) (xs : List X) (i : ℕ) (x : X) (a b c : Printed) (held mid rest : List ℕ)
    (r : Result A E) (e : E) → r ≡ Err e → i < length xs → x ≡ get_or xs i x
    → Passes a b held mid (flat_map f (take i xs)) → TakesPrefix b c (mid ++ f x)
    → CountsOn a.failed b.failed → CountsOn b.failed c.failed → CountRose b.failed c.failed
    → IsPushed a c held rest (flat_map f xs) r
item-refused {X} f xs i x a b c held mid rest r e err within is p q before after rose =
    piece-refused f xs i x a b c held mid rest r e err within p (subst (λ (y : X). TakesPrefix b c (mid ++ f y)) is q) before after rose

-- the lines of items, as one text
pub lines-of : {X : Type 0} (f : X → List (List ℕ)) (xs ys : List X) → ys ≡ xs
    → flat_map (λ x. line_text (f x)) ys ≡ flat_map line_text (map f xs)
lines-of f xs ys same = ap (flat_map (λ x. line_text (f x))) same ∙ sym (flat_map-map line_text f xs)

-- the text of a report, part by part
pub report-is : (r : Report) (segments : List SegmentLine) (libraries : List (Vec ℕ Global)) (imports : List ImportLine)
    (fixups : List FixupLine) → segments ≡ r.segments.items → libraries ≡ r.libraries.items → imports ≡ r.imports.items
    → fixups ≡ r.fixups.items
    → flat_map (λ x. line_text (segment_pieces x)) segments
    ++ (flat_map (λ x. line_text (library_pieces x)) (enumerate_from 1 (map (λ path. path.items) libraries))
    ++ (flat_map (λ x. line_text (import_pieces x)) imports
    ++ (flat_map line_text (exports_pieces r.exports) ++ flat_map (λ x. line_text (fixup_pieces x)) fixups)))
    ≡ report_text r
unfolding report_text
report-is r segments libraries imports fixups first second third last =
    let s = map segment_pieces r.segments.items in
    let paths = enumerate_from 1 (map (λ path. path.items) r.libraries.items) in
    let l = map library_pieces paths in
    let i = map import_pieces r.imports.items in
    let e = exports_pieces r.exports in
    let f = map fixup_pieces r.fixups.items in
    rw (
      lines-of segment_pieces r.segments.items segments first,
      second,
      lines-of library_pieces paths paths refl,
      lines-of import_pieces r.imports.items imports third,
      lines-of fixup_pieces r.fixups.items fixups last,
      flat_map-append line_text s (l ++ (i ++ (e ++ f))),
      flat_map-append line_text l (i ++ (e ++ f)),
      flat_map-append line_text i (e ++ f),
      flat_map-append line_text e f,
    ) refl

-- a library with its number, by its index
pub library-is : {V : Type 0} (f : V → List ℕ) (vs : List V) (i : ℕ) (x : V) (path : List ℕ) → i < length vs → path ≡ f x
    → x ≡ get_or vs i x → (i + 1, path) ≡ get_or (enumerate_from 1 (map f vs)) i (i + 1, path)
library-is f vs i x path within named is =
    let long = length-map vs f in
    let there : path ≡ get_or (map f vs) i path = named ∙ (ap f is ∙ sym (get_or-map f vs i x path within)) in
    let number : i + 1 ≡ 1 + i = omega arith in
    ap (λ n. (n, path)) number ∙ (ap (λ (t : List ℕ). (1 + i, t)) there
    ∙ sym (get_or-enumerate_from 1 (map f vs) i (i + 1, path) (omega (arith, within, long))))

-- so many libraries there are
pub library-count : {V : Type 0} (f : V → List ℕ) (vs : List V) → length (enumerate_from 1 (map f vs)) ≡ length vs
library-count f vs = length-enumerate_from 1 (map f vs) ∙ length-map vs f

-- all items of a list are pushed
pub items-pushed : {X A E : Type 0} (f : X → List ℕ) (xs : List X) (i : ℕ) (a b : Printed) (old new : List ℕ) (r : Result A E) (x : A)
    → r ≡ Ok x → length xs ≤ i → Passes a b old new (flat_map f (take i xs)) → CountsOn a.failed b.failed
    → IsPushed a b old new (flat_map f xs) r
items-pushed {X} {A} {E} f xs i a b old new r x ok behind p counted =
    subst (λ (s : Result A E). IsPushed a b old new (flat_map f xs) s) (sym ok) (record {
      done = subst (λ (ys : List X). Passes a b old new (flat_map f ys)) (take_all i xs behind) p;
      left = tt;
      why = tt;
      counted = counted;
    })
