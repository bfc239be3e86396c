-- Sets whose keys stand for other things. Where a test of keys says what a test of the things says, a key is put in where its
-- thing would be, and is found at its thing's place. By recursion on the keys; the tests are the same at each.
use Rattle.std.proofs.Common.{◌≡◌, ℕ, Bool, true, false, cond, ◌&&◌, ◌||◌, List, [], ◌∷◌, ◌++◌, map, Some, None, position, length, nat_lt, not, ◌==◌, ◌+◌, refl, sym, ap, ◌∙◌}
use Rattle.std.specs.List.{list_any, position_or_len}
use Rattle.std.proofs.lemmas.List.{map-append, length-map}
use Rattle.indexmap.specs.IndexSet.{insert_key}
use Rattle.macho_model.specs.declared.targets.Target.TheVariants as target
use Rattle.macho_model.specs.Targets.{same_target}
use Rattle.macho_model.specs.Fixups.{same_entry}
use Rattle.macho_needs.specs.declared.keys.SlotKey.{SlotKey}
use Rattle.macho_needs.specs.declared.keys.SlotKey.TheVariants.{Section, Common, Import, Base, Absolute, Nothing}
use Rattle.macho_symbols.specs.declared.solved.OwnEntry.{OwnEntry}
use Rattle.macho_needs.specs.Tables.{target_of}
use Rattle.macho_symbols.specs.Entries.{entry_of}
use Rattle.macho_needs.specs.contracts.keys.SlotKeyPartialEq.TheImpl as slot_keys
use Rattle.macho_symbols.specs.contracts.solved.OwnEntryPartialEq.TheImpl as own_entries
use Rattle.macho_bytes.proofs.Bools.{and_group}

any_mapped : {K X : Type 0} (p : K → Bool) (q : X → Bool) (f : K → X) → ((k : K) → p k ≡ q (f k)) → (ks : List K)
    → list_any p ks ≡ list_any q (map f ks)
any_mapped p q f same [] = refl
any_mapped p q f same (k ∷ ks) = ap (λ b. b || list_any p ks) (same k) ∙ ap (λ b. q (f k) || b) (any_mapped p q f same ks)

front_mapped : {K X : Type 0} (p : K → Bool) (q : X → Bool) (f : K → X) → ((k : K) → p k ≡ q (f k)) → (ks : List K)
    → position_or_len p ks ≡ position_or_len q (map f ks)
front_mapped p q f same [] = refl
front_mapped p q f same (k ∷ ks) =
    ap (λ b. cond (not b) (1 + position_or_len p ks) 0) (same k) ∙ ap (λ n. cond (not (q (f k))) (1 + n) 0) (front_mapped p q f same ks)

pub place_mapped : {K X : Type 0} (p : K → Bool) (q : X → Bool) (f : K → X) → ((k : K) → p k ≡ q (f k)) → (ks : List K)
    → position p ks ≡ position q (map f ks)
place_mapped p q f same ks =
    ap (λ n. cond (nat_lt n (length ks)) (Some n) None) (front_mapped p q f same ks)
    ∙ ap (λ n. cond (nat_lt (position_or_len q (map f ks)) n) (Some (position_or_len q (map f ks))) None) (sym (length-map ks f))

pub put_mapped : {K X : Type 0} (eq : K → K → Bool) (same : X → X → Bool) (f : K → X) → ((a b : K) → eq a b ≡ same (f a) (f b))
    → (ks : List K) (k : K)
    → map f (insert_key eq ks k) ≡ insert_key same (map f ks) (f k)
put_mapped eq same f alike ks k =
    by (list_any (eq k) ks) ∙ ap (λ (b : Bool). cond b (map f ks) (map f ks ++ f k ∷ [])) (any_mapped (eq k) (same (f k)) f (alike k) ks)
  where
    by : (b : Bool) → map f (cond b ks (ks ++ k ∷ [])) ≡ cond b (map f ks) (map f ks ++ f k ∷ [])
    by true = refl
    by false = map-append f ks (k ∷ [])

pub slots_alike : (a b : SlotKey) → slot_keys.eq-value.it a b ≡ same_target (target_of a) (target_of b)
slots_alike (Section f s o) (Section g t p) = and_group (f == g) (s == t) (o == p)
slots_alike (Common i) (Common j) = refl
slots_alike (Import i) (Import j) = refl
slots_alike Base Base = refl
slots_alike (Absolute v) (Absolute w) = refl
slots_alike Nothing Nothing = refl
slots_alike a b = refl

pub entries_alike : (a b : OwnEntry) → own_entries.eq-value.it a b ≡ same_entry (entry_of a) (entry_of b)
entries_alike a b = refl

pub stubs_alike : (i j : ℕ) → (i == j) ≡ same_target (target.Import i) (target.Import j)
stubs_alike i j = refl

-- each table, found in and put into
pub slot_found : (keys : List SlotKey) (k : SlotKey)
    → position (slot_keys.eq-value.it k) keys ≡ position (same_target (target_of k)) (map target_of keys)
slot_found keys k = place_mapped (slot_keys.eq-value.it k) (same_target (target_of k)) target_of (slots_alike k) keys

pub slot_put : (keys : List SlotKey) (k : SlotKey)
    → map target_of (insert_key slot_keys.eq-value.it keys k) ≡ insert_key same_target (map target_of keys) (target_of k)
slot_put keys k = put_mapped slot_keys.eq-value.it same_target target_of slots_alike keys k

pub own_found : (keys : List OwnEntry) (k : OwnEntry)
    → position (own_entries.eq-value.it k) keys ≡ position (same_entry (entry_of k)) (map entry_of keys)
own_found keys k = place_mapped (own_entries.eq-value.it k) (same_entry (entry_of k)) entry_of (entries_alike k) keys

pub own_put : (keys : List OwnEntry) (k : OwnEntry)
    → map entry_of (insert_key own_entries.eq-value.it keys k) ≡ insert_key same_entry (map entry_of keys) (entry_of k)
own_put keys k = put_mapped own_entries.eq-value.it same_entry entry_of entries_alike keys k

pub stub_found : (keys : List ℕ) (k : ℕ) → position (λ j. k == j) keys ≡ position (same_target (target.Import k)) (map target.Import keys)
stub_found keys k = place_mapped (λ j. k == j) (same_target (target.Import k)) target.Import (stubs_alike k) keys

pub stub_put : (keys : List ℕ) (k : ℕ)
    → map target.Import (insert_key (λ i j. i == j) keys k) ≡ insert_key same_target (map target.Import keys) (target.Import k)
stub_put keys k = put_mapped (λ i j. i == j) same_target target.Import stubs_alike keys k
