-- The own entries of a link's pointers, copied one by one: behind those that are copied stands the next one of the list.
use Rattle.std.proofs.Common.{◌≡◌, ℕ, ◌+◌, ◌<◌, List, [], ◌∷◌, ◌++◌, length, take, Some, None, get_or, sym, ap, ◌∙◌, map, arith}
use Rattle.std.specs.List.{slice_get}
use Rattle.std.proofs.lemmas.List.{take_more, map-append}
use Rattle.std.proofs.lemmas.Option.{slice_get_within, slice_get-get_or, get_or_from_slice_get}
use Rattle.macho_model.specs.Fixups.{EntryOfImport}
use Rattle.macho_symbols.specs.declared.solved.OwnEntry.{OwnEntry}
use Rattle.macho_symbols.specs.Entries.{entry_of}

-- one more
pub own_more : (own next : List OwnEntry) (e : OwnEntry) (all : List EntryOfImport) (k : ℕ) → map entry_of own ≡ take k all
    → slice_get all k ≡ Some (entry_of e) → next ≡ own ++ e ∷ [] → map entry_of next ≡ take (k + 1) all
own_more own next e all k now there is =
    let one : EntryOfImport = entry_of e in
    let at : get_or all k one ≡ one = get_or_from_slice_get all k one one there in
    ap (map entry_of) is
    ∙ map-append entry_of own (e ∷ [])
    ∙ ap (λ (t : List EntryOfImport). t ++ one ∷ []) now
    ∙ ap (λ (x : EntryOfImport). take k all ++ x ∷ []) (sym at)
    ∙ sym (take_more all k one (slice_get_within all k one there))

-- there is one at each place
pub none_lacks : (all : List EntryOfImport) (k : ℕ) → k < length all → None ≡ slice_get all k → ⊥
none_lacks (x ∷ all) k within none =
    let no : None ≡ Some (get_or (x ∷ all) k x) = none ∙ slice_get-get_or (x ∷ all) k x within in
    absurd (cc)
none_lacks [] k within none = absurd (omega arith)
