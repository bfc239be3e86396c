-- Where the loader writes, the file has one word, whose import exists.
--
-- An address on the chain is on the chain of some page of some segment. The rules of the loader say of each such word that it stands whole
-- in the file part of its segment; and if it binds, its number is below the count of imports of the first fixup table, so there is one.
use Rattle.std.proofs.Common.{◌≡◌, ℕ, ◌+◌, ◌-◌, ◌<◌, true, List, [], ◌∷◌, sym, subst, arith, refl}
use Rattle.std.specs.Prelude.{Contains}
use Rattle.std.specs.List.{enumerate_from}
use Rattle.macho_bytes.proofs.Members.{map_contains, enumerate_contains, contains_first}
use Rattle.macho_records.specs.Numbers.{le_at}
use Rattle.macho_model.specs.declared.placed.Counts.{Counts}
use Rattle.macho_model.specs.Lists.{of_first}
use Rattle.macho_model.specs.Needs.{POINTER_SIZE}
use Rattle.macho_model.specs.Links.{Link}
use Rattle.macho_model.specs.Placement.{Placed}
use Rattle.macho_model.specs.Fixups.{IsFixupPlace}
use Rattle.macho_model.specs.Images.{Table, segments_of, tables_of, fixups_header}
use Rattle.macho_model.specs.Chain.{ChainSegment, OnChain, OnPageChain, chain_segment, chain_segments, IsFileWord, OnChainOf}
use Rattle.macho_model.specs.Chain as chain
use Rattle.macho_model.specs.Loader.{IsAccepted, is_bind, ordinal_of, WordFits}
use Rattle.macho_verify_laws.specs.Laws.{IsAsked}
use Rattle.macho_verify_laws.proofs.Alone.{BeginsOutside, alone}

-- the page of an address on the chain
record HasPage (segments : List ChainSegment) (b : List ℕ) (a : ℕ) : Type 0 where
  pub segment : ChainSegment
  pub page : ℕ
  pub one : Contains segments segment
  pub on : OnPageChain segments b segment page a

page_of : (segments : List ChainSegment) (b : List ℕ) (a : ℕ) → OnChain segments b a → HasPage segments b a
page_of segments b _ (chain.OnChain.first s page one within starts) =
    record { segment = s; page = page; one = one; on = chain.OnPageChain.first within starts }
page_of segments b _ (chain.OnChain.next a word on stands goes) =
    let before = page_of segments b a on in
    record { segment = before.segment; page = before.page; one = before.one; on = chain.OnPageChain.next a word before.on stands goes }

-- a number below that of the first of a list has a first
first_table : (g : Table → ℕ) (n : ℕ) (ts : List Table) → n < of_first 0 g ts → (t : Table) × Contains ts t × (n < g t)
first_table g n [] lt = absurd (omega (arith, lt))
first_table g n (t ∷ ts) lt = (t, contains_first t ts, lt)

-- The word of the file where the loader writes.
pub record HasFileWord (b : List ℕ) (a : ℕ) : Type 0 where
  pub on : OnChainOf b a
  pub word : ℕ
  pub stands : IsFileWord (chain_segments b) b a word
  pub alone : (other : ℕ) → OnChainOf b other → BeginsOutside a other
  pub import : is_bind word ≡ true → (t : Table) × Contains (tables_of b) t × (ordinal_of word < (fixups_header b t).imports_count)

file_word : (b : List ℕ) (a : ℕ) → IsAccepted b → OnChainOf b a → ((other : ℕ) → OnChainOf b other → BeginsOutside a other)
    → HasFileWord b a
unfolding chain_segments
file_word b a accepted on apart =
    let page = page_of (chain_segments b) b a on in
    let m = map_contains (chain_segment b) (enumerate_from 0 (segments_of b)) page.segment page.one in
    let i = m.0 in
    let n = enumerate_contains (segments_of b) i m.1 in
    let on_page = subst (λ (s : ChainSegment). OnPageChain (chain_segments b) b s page.page a) (sym m.2) page.on in
    let fits : WordFits b i.1 page.page a = accepted.l10 i.0 i.1 page.page a n on_page in
    let word = le_at POINTER_SIZE b (i.1.fileoff + (a - i.1.vmaddr)) in
    let from = fits.page_from in
    let stands : IsFileWord (chain_segments b) b a word = record {
      segment = chain_segment b i;
      one = subst (λ (s : ChainSegment). Contains (chain_segments b) s) (sym m.2) page.one;
      from = omega (arith, from);
      to = fits.to;
      is = refl;
    } in
    record {
      on = on;
      word = word;
      stands = stands;
      alone = apart;
      import = λ binds. first_table (λ (t : Table). (fixups_header b t).imports_count) (ordinal_of word) (tables_of b)
          (fits.import word stands binds);
    }

-- THE word that a link needs is there.
pub has_file_word : (l : Link) (counts : Counts) (b : List ℕ) (p : Placed) → IsAsked l counts b p → (a : ℕ) → IsFixupPlace l p a
    → HasFileWord b a
has_file_word l counts b p asked a is = file_word b a asked.accepted ((asked.whole a).1 is) (alone l counts b p asked a is)
