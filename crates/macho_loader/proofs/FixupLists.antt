-- Lists of the words on the chains, up to an address.
--
-- An empty list has the words below 0. A list up to an address is one up to a later address where no word stands between. A line of a word
-- at the end of the list is above all before it, so the list still rises; and it is the only word that the list lacked. A list up to an
-- address that all words are below is the list of them all.
use Rattle.std.proofs.Common.{◌≡◌, ℕ, ◌+◌, ◌*◌, ◌%◌, ◌^◌, ◌<◌, ◌≤◌, true, List, [], ◌∷◌, ◌++◌, map, sym, subst, arith, inl, inr}
use Rattle.std.specs.Prelude.{Contains, All}
use Rattle.std.proofs.lemmas.Bool.{cases_lt}
use Rattle.std.proofs.lemmas.List.{map-append}
use Rattle.std.proofs.lemmas.List.Elements.{All-push, Contains-append_left, Contains-push}
use Rattle.std.proofs.lemmas.List.Quantifiers.{all_pairs_push}
use Rattle.macho_model.specs.Images.{base_of, fixups_header}
use Rattle.macho_model.specs.Chain.{chain_segments, IsFileWord, OnChainOf}
use Rattle.macho_model.specs.Loader.{is_bind, ordinal_of}
use Rattle.macho_model.specs.Memory.{rebase_target, rebase_high}
use Rattle.macho_image_walks.specs.declared.walk.Listed.TheVariants as list
use Rattle.macho_image_walks.specs.Readings.{IsNth, table_there}
use Rattle.macho_image_walks.proofs.ListedLaws.{table_contains}
use Rattle.macho_loader.specs.Lists.{AreFixups, SaysKind}
use Rattle.macho_loader.specs.steps.Listing.{KindOf, ListsTo}
use Rattle.macho_loader.specs.declared.chain_list.FixupLine.{FixupLine}
use Rattle.macho_loader.specs.declared.chain_list.LineKind.{LineKind}
use Rattle.macho_loader.specs.declared.chain_list.LineKind.TheVariants.{Rebase, Bind}

-- no words stand below 0
pub lists_none : (b : List ℕ) (lines : List FixupLine) → lines ≡ [] → ListsTo b lines 0
lists_none b lines none =
    subst (λ xs. ListsTo b xs 0) (sym none) (record {
      rising = λ i j d before within. absurd (omega (arith, within));
      each = λ k d within. absurd (omega (arith, within));
      below = λ k d within. absurd (omega (arith, within));
      whole = λ a on below. absurd (omega (arith, below));
    })

-- where no word stands in between, the list is one up to a later address
pub lists_on : (b : List ℕ) (lines : List FixupLine) (end to : ℕ) → ListsTo b lines end → end ≤ to
    → ((a : ℕ) → OnChainOf b a → end ≤ a → a < to → ⊥) → ListsTo b lines to
lists_on b lines end to lists up gap =
    record {
      rising = lists.rising;
      each = lists.each;
      below = λ k d within. let low = lists.below k d within in omega (arith, low, up);
      whole = λ a on below.
          elim (cases_lt a end) [ inl lt ↦ lists.whole a on lt | inr from ↦ absurd (gap a on from below) ];
    }

-- one line more
pub lists_more : (b : List ℕ) (lines : List FixupLine) (line : FixupLine) → ListsTo b lines line.address
    → SaysKind b line.address line.kind → ListsTo b (lines ++ line ∷ []) (line.address + 1)
lists_more b lines line lists says =
    let Below : FixupLine → Type 0 = λ x. x.address < line.address + 1 in
    let low : All Below lines = λ k d within. let lt = lists.below k d within in omega (arith, lt) in
    record {
      rising = all_pairs_push (λ x y. x.address < y.address) lines line lists.rising lists.below;
      each = All-push (λ x. SaysKind b x.address x.kind) lines line lists.each says;
      below = All-push Below lines line low (omega arith);
      whole = λ a on below.
          subst (λ xs. Contains xs a) (sym (map-append (λ (x : FixupLine). x.address) lines (line ∷ []))) (elim (cases_lt a line.address) [
            | inl lt ↦ Contains-append_left (map (λ (x : FixupLine). x.address) lines) (line.address ∷ []) a (lists.whole a on lt)
            | inr le ↦
                let same : line.address ≡ a = omega (arith, le, below) in
                subst (λ y. Contains (map (λ (x : FixupLine). x.address) lines ++ line.address ∷ []) y) same
                (Contains-push (map (λ (x : FixupLine). x.address) lines) line.address)
          ]);
    }

-- all words are listed
pub lists_all : (b : List ℕ) (lines : List FixupLine) (end : ℕ) → ListsTo b lines end → ((a : ℕ) → OnChainOf b a → a < end)
    → AreFixups b lines
lists_all b lines end lists below =
    record { rising = lists.rising; each = lists.each; whole = λ a on. lists.whole a on (below a on) }

-- a line says what its word does
pub says_kind : (b : List ℕ) (place a word base : ℕ) (kind : LineKind) → IsNth list.Tables b 0 place → OnChainOf b a
    → IsFileWord (chain_segments b) b a word → base ≡ base_of b
    → (is_bind word ≡ true → ordinal_of word < (fixups_header b (table_there b place)).imports_count)
    → KindOf b (table_there b place) base word kind → SaysKind b a kind
says_kind b place a word base (Rebase value) first on stands from among (moves, is) =
    record {
      on = on;
      word = word;
      stands = stands;
      rebases = moves;
      is = subst (λ x. value ≡ (rebase_target word + rebase_high word * 2 ^ 56 + x) % 2 ^ 64) from is;
    }
says_kind b place a word base (Bind import addend) first on stands from among (binds, is, sum) =
    record {
      on = on;
      word = word;
      stands = stands;
      binds = binds;
      is = is;
      table = table_there b place;
      one = table_contains b 0 place first;
      among = subst (λ n. n < (fixups_header b (table_there b place)).imports_count) (sym is) (among binds);
      addend_is = sum;
    }
