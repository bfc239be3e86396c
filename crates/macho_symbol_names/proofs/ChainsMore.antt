-- A chain with one entry more: the new entry is the newest of its bucket, and the one that was it comes next.
use Rattle.std.proofs.Common.{◌≡◌, ℕ, ◌+◌, ◌-◌, ◌<◌, ◌≤◌, ◌≢◌, bit_and, ◌⊎◌, inl, inr, List, [], ◌∷◌, ◌++◌, length, get_or, set, ap, sym, ◌∙◌, arith, length-append, length-set}
use Rattle.std.proofs.lemmas.List.{length-map, map-append, get_or_append_left, get_or-set_same, get_or-set_other}
use Rattle.std.proofs.lemmas.List.Elements.{All-push}
use Rattle.std.proofs.Math.Seq.{get_or-append_seam}
use Rattle.macho_symbol_names.specs.declared.table.Entry.{Entry}
use Rattle.macho_symbol_names.specs.Kept.{FileRows}
use Rattle.macho_symbol_names.specs.Hashing.{hash_of}
use Rattle.macho_symbol_names.specs.Tables.{Heads, IsTable, IsThere, IsTagged, IsNowhere, AreChained, bucket_of, entry_name, names_of, nexts_of}
use Rattle.macho_bytes.proofs.Comparing.{below_more, same_or_not}

last_of : {X : Type 0} (xs : List X) (x d : X) (k : ℕ) → k ≡ length xs → get_or (xs ++ x ∷ []) k d ≡ x
last_of xs x d k is = ap (λ j. get_or (xs ++ x ∷ []) j d) is ∙ get_or-append_seam xs x [] d

-- the heads, with another one in a bucket
abbrev with_head : Heads → ℕ → ℕ → Heads
with_head heads b v = record { seed = heads.seed; items = set heads.items b v }

bucket_kept : (heads : Heads) (b v : ℕ) (name : List ℕ) → bucket_of (with_head heads b v) name ≡ bucket_of heads name
bucket_kept heads b v name = ap (λ n. bit_and (hash_of heads.seed name) (n - 1)) (length-set heads.items b v)

-- the head of a bucket, once a name is added
heads_cases : (heads : List ℕ) (b v c : ℕ) → b < length heads
    → ((c ≡ b) × (get_or (set heads b v) c 0 ≡ v)) ⊎ ((c ≢ b) × (get_or (set heads b v) c 0 ≡ get_or heads c 0))
heads_cases heads b v c within = elim (same_or_not c b) [
  | inl same ↦ inl (same, ap (λ j. get_or (set heads b v) j 0) same ∙ get_or-set_same heads b v 0 within)
  | inr other ↦ inr (other, get_or-set_other heads b c v 0 other)
]

-- a name of the longer list: the new one, or one that was there
names_cases : (names : List (List ℕ)) (name : List ℕ) (k : ℕ) → k < length (names ++ name ∷ [])
    → ((k < length names) × (get_or (names ++ name ∷ []) k [] ≡ get_or names k [])) ⊎
    ((k ≡ length names) × (get_or (names ++ name ∷ []) k [] ≡ name))
names_cases names name k within = elim (below_more k (length names) (omega (arith, within, length-append names (name ∷ [])))) [
  | inl before ↦ inl (before, get_or_append_left names (name ∷ []) [] k before)
  | inr last ↦ inr (last, last_of names name [] k last)
]

-- the longer chain
pub chained_more : (heads : Heads) (nexts : List ℕ) (names : List (List ℕ)) (b : ℕ) (name : List ℕ) → AreChained heads nexts names
    → b ≡ bucket_of heads name → b < length heads.items
    → AreChained (with_head heads b (length names + 1)) (nexts ++ get_or heads.items b 0 ∷ []) (names ++ name ∷ [])
chained_more heads nexts names b name ch is inside = record {
  some = omega (arith, ch.some, length-set heads.items b (length names + 1));
  long = omega (arith, ch.long, length-append nexts (get_or heads.items b 0 ∷ []), longer);
  newest = λ c h. newest c h (heads_cases heads.items b (length names + 1) c inside);
  begins = λ c m h e. begins c m h e (heads_cases heads.items b (length names + 1) c inside);
  reached = λ k h. reached k (names_cases names name k h);
  older = λ j h. older j (names_cases names name j h);
  stays = λ j m h e. stays j m e (names_cases names name j h);
  onward = λ j k less h same. onward j k less same (names_cases names name j h);
}
  where
    longer : length (names ++ name ∷ []) ≡ length names + 1
    longer = length-append names (name ∷ [])

    newest : (c : ℕ) → c < length (set heads.items b (length names + 1))
        → ((c ≡ b) × (get_or (set heads.items b (length names + 1)) c 0 ≡ length names + 1)) ⊎
        ((c ≢ b) × (get_or (set heads.items b (length names + 1)) c 0 ≡ get_or heads.items c 0))
        → get_or (set heads.items b (length names + 1)) c 0 ≤ length (names ++ name ∷ [])
    newest c h (inl p) = omega (arith, p.1, longer)
    newest c h (inr p) = omega (arith, p.1, longer, ch.newest c (omega (arith, h, length-set heads.items b (length names + 1))))

    begins : (c m : ℕ) → c < length (set heads.items b (length names + 1)) → get_or (set heads.items b (length names + 1)) c 0 ≡ m + 1
        → ((c ≡ b) × (get_or (set heads.items b (length names + 1)) c 0 ≡ length names + 1)) ⊎
        ((c ≢ b) × (get_or (set heads.items b (length names + 1)) c 0 ≡ get_or heads.items c 0))
        → bucket_of (with_head heads b (length names + 1)) (get_or (names ++ name ∷ []) m []) ≡ c
    begins c m h e (inl p) =
        bucket_kept heads b (length names + 1) _ ∙ ap (bucket_of heads) (last_of names name [] m (omega (arith, p.1, e))) ∙ sym is ∙ sym p.0
    begins c m h e (inr p) =
        let old = ch.newest c (omega (arith, h, length-set heads.items b (length names + 1))) in
        bucket_kept heads b (length names + 1) _
        ∙ ap (bucket_of heads) (get_or_append_left names (name ∷ []) [] m (omega (arith, p.1, e, old)))
        ∙ ch.begins c m (omega (arith, h, length-set heads.items b (length names + 1))) (sym p.1 ∙ e)

    reached : (k : ℕ) → ((k < length names) × (get_or (names ++ name ∷ []) k [] ≡ get_or names k [])) ⊎
        ((k ≡ length names) × (get_or (names ++ name ∷ []) k [] ≡ name))
        → k < get_or (set heads.items b (length names + 1))
        (bucket_of (with_head heads b (length names + 1)) (get_or (names ++ name ∷ []) k [])) 0
    reached k (inl p) =
        let home = bucket_kept heads b (length names + 1) _ ∙ ap (bucket_of heads) p.1 in
        rw home (elim (heads_cases heads.items b (length names + 1) (bucket_of heads (get_or names k [])) inside) [
          | inl q ↦ omega (arith, q.1, p.0)
          | inr q ↦ omega (arith, q.1, ch.reached k p.0)
        ])
    reached k (inr p) =
        let home = bucket_kept heads b (length names + 1) _ ∙ ap (bucket_of heads) p.1 ∙ sym is in
        rw home (omega (arith, p.0, get_or-set_same heads.items b (length names + 1) 0 inside))

    older : (j : ℕ) → ((j < length names) × (get_or (names ++ name ∷ []) j [] ≡ get_or names j [])) ⊎
        ((j ≡ length names) × (get_or (names ++ name ∷ []) j [] ≡ name))
        → get_or (nexts ++ get_or heads.items b 0 ∷ []) j 0 ≤ j
    older j (inl p) =
        omega (arith, get_or_append_left nexts (get_or heads.items b 0 ∷ []) 0 j (omega (arith, p.0, ch.long)), ch.older j p.0)
    older j (inr p) = omega (arith, last_of nexts (get_or heads.items b 0) 0 j (p.0 ∙ sym ch.long), ch.newest b inside, p.0)

    stays : (j m : ℕ) → get_or (nexts ++ get_or heads.items b 0 ∷ []) j 0 ≡ m + 1
        → ((j < length names) × (get_or (names ++ name ∷ []) j [] ≡ get_or names j [])) ⊎
        ((j ≡ length names) × (get_or (names ++ name ∷ []) j [] ≡ name))
        → bucket_of (with_head heads b (length names + 1)) (get_or (names ++ name ∷ []) m [])
        ≡ bucket_of (with_head heads b (length names + 1))
        (get_or (names ++ name ∷ []) j [])
    stays j m e (inl p) =
        let old : get_or nexts j 0 ≡ m + 1 = sym (get_or_append_left nexts (get_or heads.items b 0 ∷ []) 0 j (omega (arith, p.0, ch.long)))
        ∙ e in
        bucket_kept heads b (length names + 1) _
        ∙ ap (bucket_of heads) (get_or_append_left names (name ∷ []) [] m (omega (arith, ch.older j p.0, old, p.0)))
        ∙ ch.stays j m p.0 old ∙ sym (ap (bucket_of heads) p.1) ∙ sym (bucket_kept heads b (length names + 1) _)
    stays j m e (inr p) =
        let old : get_or heads.items b 0 ≡ m + 1 = sym (last_of nexts (get_or heads.items b 0) 0 j (p.0 ∙ sym ch.long)) ∙ e in
        bucket_kept heads b (length names + 1) _
        ∙ ap (bucket_of heads) (get_or_append_left names (name ∷ []) [] m (omega (arith, ch.newest b inside, old)))
        ∙ ch.begins b m inside old ∙ is ∙ sym (ap (bucket_of heads) p.1) ∙ sym (bucket_kept heads b (length names + 1) _)

    onward : (j k : ℕ) → k < j
        → bucket_of (with_head heads b (length names + 1)) (get_or (names ++ name ∷ []) k [])
        ≡ bucket_of (with_head heads b (length names + 1))
        (get_or (names ++ name ∷ []) j [])
        → ((j < length names) × (get_or (names ++ name ∷ []) j [] ≡ get_or names j [])) ⊎
        ((j ≡ length names) × (get_or (names ++ name ∷ []) j [] ≡ name))
        → k < get_or (nexts ++ get_or heads.items b 0 ∷ []) j 0
    onward j k less same (inl p) =
        let here = get_or_append_left names (name ∷ []) [] k (omega (arith, less, p.0)) in
        let home = sym (ap (bucket_of heads) here) ∙ sym (bucket_kept heads b (length names + 1) _) ∙ same
        ∙ bucket_kept heads b (length names + 1) _ ∙ ap (bucket_of heads) p.1 in
        omega (arith, get_or_append_left nexts (get_or heads.items b 0 ∷ []) 0 j (omega (arith, p.0, ch.long)), ch.onward j k less p.0 home)
    onward j k less same (inr p) =
        let here = get_or_append_left names (name ∷ []) [] k (omega (arith, less, p.0)) in
        let home = sym (ap (bucket_of heads) here) ∙ sym (bucket_kept heads b (length names + 1) _) ∙ same
        ∙ bucket_kept heads b (length names + 1) _ ∙ ap (bucket_of heads) p.1 ∙ sym is in
        let old = rw home at (ch.reached k (omega (arith, less, p.0))) in
        omega (arith, last_of nexts (get_or heads.items b 0) 0 j (p.0 ∙ sym ch.long), old)

-- A table with one entry more: a new name's.
pub table_more : (files : List FileRows) (heads : Heads) (entries : List Entry) (b : ℕ) (e : Entry) → IsTable files heads entries
    → b ≡ bucket_of heads (entry_name files e) → b < length heads.items → e.next ≡ get_or heads.items b 0 → IsThere files e
    → IsTagged heads.seed files e
    → IsNowhere (entry_name files e) (names_of files entries) → IsTable files (with_head heads b (length entries + 1)) (entries ++ e ∷ [])
table_more files heads entries b e table is inside next there tagged new =
    let long = length-map entries (entry_name files) in
    let chained = chained_more heads (nexts_of entries) (names_of files entries) b (entry_name files e) table.chained is inside in
    record {
      chained = rw (map-append (λ x. x.next) entries (e ∷ []), map-append (entry_name files) entries (e ∷ []), next, ← long) chained;
      there = All-push (IsThere files) entries e table.there there;
      tagged = All-push (IsTagged heads.seed files) entries e table.tagged tagged;
      apart = λ j k less h same. apart j k less same
          (names_cases (names_of files entries) (entry_name files e) j
          (omega (arith, h, long, length-append (names_of files entries) (entry_name files e ∷ []), length-append entries (e ∷ []))));
    }
  where
    apart : (j k : ℕ) → k < j → get_or (names_of files (entries ++ e ∷ [])) j [] ≡ get_or (names_of files (entries ++ e ∷ [])) k []
        → ((j < length (names_of files entries))
        × (get_or (names_of files entries ++ entry_name files e ∷ []) j [] ≡ get_or (names_of files entries) j []))
        ⊎ ((j ≡ length (names_of files entries)) × (get_or (names_of files entries ++ entry_name files e ∷ []) j [] ≡ entry_name files e))
        → ⊥
    apart j k less same (inl p) =
        let both = ap (λ ns. get_or ns j []) (map-append (entry_name files) entries (e ∷ [])) in
        let left = ap (λ ns. get_or ns k []) (map-append (entry_name files) entries (e ∷ []))
        ∙ get_or_append_left (names_of files entries) (entry_name files e ∷ []) [] k (omega (arith, less, p.0)) in
        table.apart j k less (omega (arith, p.0, length-map entries (entry_name files))) (sym p.1 ∙ sym both ∙ same ∙ left)
    apart j k less same (inr p) =
        let both = ap (λ ns. get_or ns j []) (map-append (entry_name files) entries (e ∷ [])) in
        let left = ap (λ ns. get_or ns k []) (map-append (entry_name files) entries (e ∷ []))
        ∙ get_or_append_left (names_of files entries) (entry_name files e ∷ []) [] k (omega (arith, less, p.0)) in
        new k (omega (arith, less, p.0)) (sym left ∙ sym same ∙ both ∙ p.1)
