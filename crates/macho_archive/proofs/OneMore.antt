-- One entry more.
--
-- The place of the next entry, the table of names in front of it and the members up to it follow from those of the entry before. So where
-- the first entries are read, and the one that stands behind them is read, too, the first entries and this one are read.
use Rattle.std.proofs.Common.{◌≡◌, ℕ, suc, ◌+◌, ◌<◌, ◌||◌, not, true, false, Bool, List, [], ◌∷◌, ◌++◌, length, nat_eq, map, filter, refl, sym, ap, subst, ◌∙◌, cond, arith, below_more}
use Rattle.std.specs.Option.{unwrap_or}
use Rattle.std.specs.List.{range_with_len, starts_with}
use Rattle.std.proofs.lemmas.List.{map-append}
use Rattle.std.proofs.lemmas.List.Elements.{filter-append}
use Rattle.macho_bytes.proofs.Maps.{range_push}
use Rattle.macho_archive.specs.Entries.{MAGIC, Content, stem_at, contents_at, next_of, is_special, is_symbol_table, is_table_of_names, is_passed, member_at, name_at}
use Rattle.macho_archive.specs.Archives.{IsEntry, place_of, names_before, member_numbers, members_of}
use Rattle.macho_archive.specs.Views.{content_of}
use Rattle.macho_archive.specs.declared.archive.Reading.{Reading}
use Rattle.macho_archive.specs.declared.entries.Entry.{Entry}
use Rattle.macho_archive.specs.steps.Reads.{IsRead, HasRead, content_in}

-- nothing is read
pub none_read : (b : List ℕ) (r : Reading) → starts_with nat_eq b MAGIC ≡ true → r.at ≡ 8 → r.table.now ≡ [] → r.members.items ≡ []
    → HasRead b r
unfolding place_of names_before members_of member_numbers
none_read b r magic at table members =
    record {
      count = 0;
      magic = magic;
      each = λ k lt. absurd (omega arith);
      at = at;
      table = table;
      members = ap (map content_of) members;
    }

-- the next place
place_more : (b : List ℕ) (n : ℕ) → place_of b (n + 1) ≡ next_of b (place_of b n)
unfolding place_of
place_more b n = let e : n + 1 ≡ suc n = omega arith in rw e refl

-- the next table of names
names_more : (b : List ℕ) (n : ℕ) → names_before b (n + 1)
    ≡ cond (is_table_of_names (stem_at b (place_of b n))) (contents_at b (place_of b n)) (names_before b n)
unfolding names_before
names_more b n = let e : n + 1 ≡ suc n = omega arith in rw e refl

-- what is made of some numbers that fail a test, with one number more
pushed : (f : ℕ → Content) (q : ℕ → Bool) (xs : List ℕ) (n : ℕ)
    → map f (filter (λ k. not (q k)) (xs ++ n ∷ [])) ≡ map f (filter (λ k. not (q k)) xs) ++ cond (q n) [] (f n ∷ [])
pushed f q xs n =
    ap (map f) (filter-append (λ k. not (q k)) xs (n ∷ []))
    ∙ map-append f (filter (λ k. not (q k)) xs) (cond (not (q n)) (n ∷ []) [])
    ∙ ap (λ (ys : List Content). map f (filter (λ k. not (q k)) xs) ++ ys) (by (q n))
  where
    by : (t : Bool) → map f (cond (not t) (n ∷ []) []) ≡ cond t [] (f n ∷ [])
    by true = refl
    by false = refl

-- the members with one entry more
members_more : (b : List ℕ) (n : ℕ) → members_of b (n + 1)
    ≡ members_of b n ++ cond (is_passed b (names_before b n) (place_of b n)) [] (member_at b (names_before b n) (place_of b n) ∷ [])
unfolding members_of member_numbers
members_more b n =
    ap (λ xs. map (λ k. member_at b (names_before b k) (place_of b k))
    (filter (λ k. not (is_passed b (names_before b k) (place_of b k))) xs))
    (range_push n)
    ∙ pushed (λ k. member_at b (names_before b k) (place_of b k)) (λ k. is_passed b (names_before b k) (place_of b k))
    (range_with_len 0 n) n

-- what was read of an entry is the member
member_is : (b table : List ℕ) (at : ℕ) (e : Entry) → IsRead b table at e → content_in at e ≡ member_at b table at
unfolding member_at
member_is b table at e read =
    let name : e.name.now ≡ unwrap_or (name_at b table at) [] = sym (ap (λ o. unwrap_or o []) read.name) in
    rw (name, read.width, read.contents) refl

passed_is : (b table : List ℕ) (at : ℕ) (e : Entry) → IsRead b table at e
    → (is_special e.stem.now || is_symbol_table e.name.now) ≡ is_passed b table at
unfolding is_passed
passed_is b table at e read =
    let name : e.name.now ≡ unwrap_or (name_at b table at) [] = sym (ap (λ o. unwrap_or o []) read.name) in
    rw (name, read.stem) refl

-- the entry of a number, which was read at its place
entry_read : (b : List ℕ) (n : ℕ) (e : Entry) → place_of b n < length b → IsRead b (names_before b n) (place_of b n) e → IsEntry b n
entry_read b n e within read = record { within = within; kept = read.kept }

-- one entry more is read, at its own number
read_at : (b : List ℕ) (n : ℕ) (s : Reading) (e : Entry) (before : List Content) → starts_with nat_eq b MAGIC ≡ true
    → place_of b n < length b
    → ((k : ℕ) → k < n → IsEntry b k) → before ≡ members_of b n → IsRead b (names_before b n) (place_of b n) e → s.at ≡ e.next
    → s.table.now ≡ cond (is_table_of_names e.stem.now) e.contents.now (names_before b n)
    → map content_of s.members.items
    ≡ before ++ cond (is_special e.stem.now || is_symbol_table e.name.now) [] (content_in (place_of b n) e ∷ [])
    → HasRead b s
read_at b n s e before magic within each members read at table more =
    let t = names_before b n in
    let p = place_of b n in
    record {
      count = n + 1;
      magic = magic;
      each = below_more (IsEntry b) n each (entry_read b n e within read);
      at = at ∙ read.next ∙ sym (place_more b n);
      table = table ∙ ap (λ (stem : List ℕ). cond (is_table_of_names stem) e.contents.now t) read.stem
          ∙ ap (λ (contents : List ℕ). cond (is_table_of_names (stem_at b p)) contents t) read.contents ∙ sym (names_more b n);
      members = more
          ∙ ap (λ (xs : List Content). xs ++ cond (is_special e.stem.now || is_symbol_table e.name.now) [] (content_in p e ∷ [])) members
          ∙ ap (λ (passed : Bool). members_of b n ++ cond passed [] (content_in p e ∷ [])) (passed_is b t p e read)
          ∙ ap (λ (m : Content). members_of b n ++ cond (is_passed b t p) [] (m ∷ [])) (member_is b t p e read) ∙ sym (members_more b n);
    }

-- one entry more is read
pub one_read : (b : List ℕ) (r s : Reading) (e : Entry) → r.at < length b → HasRead b r → IsRead b r.table.now r.at e → s.at ≡ e.next
    → s.table.now ≡ cond (is_table_of_names e.stem.now) e.contents.now r.table.now
    → map content_of s.members.items
    ≡ map content_of r.members.items ++ cond (is_special e.stem.now || is_symbol_table e.name.now) [] (content_in r.at e ∷ [])
    → HasRead b s
one_read b r s e within has read at table more =
    let n = has.count in
    read_at b n s e (map content_of r.members.items) has.magic (subst (λ p. p < length b) has.at within) has.each has.members
    (subst (λ p. IsRead b (names_before b n) p e) has.at (subst (λ t. IsRead b t r.at e) has.table read)) at
    (subst (λ t. s.table.now ≡ cond (is_table_of_names e.stem.now) e.contents.now t) has.table table)
    (subst (λ p. map content_of s.members.items
    ≡ map content_of r.members.items ++ cond (is_special e.stem.now || is_symbol_table e.name.now) [] (content_in p e ∷ [])) has.at more)
