-- The chain of a file is the run of its fixups.
--
-- The file has one table, which is read back: it tells of each segment the page starts that the run has there. So the chain of
-- the file is that of these segments, whose words are the run's: an address is on it exactly where a fixup is, and its word says
-- what was asked. No two words share a byte, since the run is sorted.
use Rattle.std.proofs.Common.{◌≡◌, ℕ, ◌+◌, ◌-◌, ◌≤◌, ◌⊎◌, List, map, refl, sym, ap, subst, ◌∙◌, arith, inl, inr, ◌↔◌}
use Rattle.std.specs.Prelude.{Contains, AllPairs}
use Rattle.std.proofs.lemmas.List.Elements.{All-contains}
use Rattle.macho_bytes.specs.Numbers.{le_at}
use Rattle.macho_model.specs.Links.{Link}
use Rattle.macho_model.specs.Placement.{Placed}
use Rattle.macho_model.specs.Fixups.{IsFixupPlace, ChainIsWhole, import_format}
use Rattle.macho_model.specs.Fixups as place
use Rattle.macho_model.specs.Chain.{ChainSegment, IsFileWord, OnChain, chain_segments, OnChainOf}
use Rattle.macho_model.specs.Needs.{POINTER_SIZE}
use Rattle.macho_model.specs.HeldLaws.{IsFree}
use Rattle.macho_model.specs.Agreement.{SegmentsAgree}
use Rattle.macho_fixups.specs.declared.run.Fixup.{Fixup}
use Rattle.macho_fixups.specs.declared.run.FixupSegment.{FixupSegment}
use Rattle.macho_fixups.specs.Words.{Says}
use Rattle.macho_fixups.specs.Runs.{Holds}
use Rattle.macho_fixups.specs.Chains.{chain_seen, IsAddressOf}
use Rattle.macho_fixups.specs.Readings.{IsRead}
use Rattle.macho_fixups.specs.Laws.{ChainsAreTold}
use Rattle.macho_promise.specs.FixupsSay.{FixupsSay, IsFixupOf, fixup_segments}
use Rattle.macho_promise.specs.FixupsSay as asked
use Rattle.macho_model.specs.ImportTable.{names_text}
use Rattle.macho_image_laws.specs.Composed.{FixupsAreWritten}
use Rattle.macho_image_laws.proofs.Members.{one_or_pair}
use Rattle.macho_image_laws.proofs.Segments.{segments_agree}
use Rattle.macho_bytes.proofs.Members.{contains_map}

-- the table is read back
pub table_read : (l : Link) (b : List ℕ) (p : Placed) (w : FixupsAreWritten l b p)
    → IsRead b w.say.table w.say.fixups (fixup_segments p) (import_format l) w.entries (names_text l)
table_read l b p w = w.table.read b w.say.table w.text

-- the segments of the chain are those of the placement, with the starts of the run
pub chain_is_seen : ChainsAreTold → (l : Link) (b : List ℕ) (p : Placed) (w : FixupsAreWritten l b p) → SegmentsAgree b p
    → chain_segments b ≡ map (chain_seen w.say.fixups) (fixup_segments p)
chain_is_seen told l b p w agree =
    let read = table_read l b p w in
    told b w.say.table (fixup_segments p) w.say.one read.count (segments_agree b p agree) ∙ read.told

-- an address is on the chain exactly where a fixup is
pub on_run : ChainsAreTold → (l : Link) (b : List ℕ) (p : Placed) (w : FixupsAreWritten l b p) → SegmentsAgree b p → (a : ℕ)
    → OnChainOf b a ↔ IsAddressOf w.say.fixups a
on_run told l b p w agree a =
    subst (λ (gs : List ChainSegment). OnChain gs b a ↔ IsAddressOf w.say.fixups a) (sym (chain_is_seen told l b p w agree))
    (w.chain.set b a w.words)

-- which is where the link asks for one
pub place_of_fixup : (l : Link) (p : Placed) (f : Fixup) → IsFixupOf l p f → IsFixupPlace l p f.address
place_of_fixup l p _ (asked.IsFixupOf.slot s one) = place.IsFixupPlace.slot s one
place_of_fixup l p _ (asked.IsFixupOf.pointer q f one field needs) = place.IsFixupPlace.pointer q f one field needs

fixup_of_place : (l : Link) (b : List ℕ) (p : Placed) (say : FixupsSay l b p) (a : ℕ) → IsFixupPlace l p a → IsAddressOf say.fixups a
fixup_of_place l b p say _ (place.IsFixupPlace.slot s one) =
    (record { address = s.address; kind = _ }, (say.are _).1 (asked.IsFixupOf.slot s one), refl)
fixup_of_place l b p say _ (place.IsFixupPlace.pointer q f one field needs) =
    (record { address = q.address + f.offset; kind = _ }, (say.are _).1 (asked.IsFixupOf.pointer q f one field needs), refl)

place_of_address : (l : Link) (b : List ℕ) (p : Placed) (say : FixupsSay l b p) (a : ℕ) → IsAddressOf say.fixups a → IsFixupPlace l p a
place_of_address l b p say a at =
    subst (IsFixupPlace l p) at.2 (place_of_fixup l p at.0 ((say.are at.0).0 at.1))

-- so 'the chain has the words of the fixups' and 'the chain has the words that the link asks for' say the same
pub whole_by_run : (l : Link) (b : List ℕ) (p : Placed) (say : FixupsSay l b p) → ((a : ℕ) → OnChainOf b a ↔ IsAddressOf say.fixups a)
    → ChainIsWhole l b p
whole_by_run l b p say run a =
    (λ on. place_of_address l b p say a ((run a).0 on), λ is. (run a).1 (fixup_of_place l b p say a is))

pub run_by_whole : (l : Link) (b : List ℕ) (p : Placed) (say : FixupsSay l b p) → ChainIsWhole l b p
    → (a : ℕ) → OnChainOf b a ↔ IsAddressOf say.fixups a
run_by_whole l b p say whole a =
    (λ on. fixup_of_place l b p say a ((whole a).0 on), λ at. (whole a).1 (place_of_address l b p say a at))

pub chain_is_whole : ChainsAreTold → (l : Link) (b : List ℕ) (p : Placed) → FixupsAreWritten l b p → SegmentsAgree b p → ChainIsWhole l b p
chain_is_whole told l b p w agree = whole_by_run l b p w.say (on_run told l b p w agree)

-- a word of the chain, which says what was asked, and in which no other word begins
pub record HasWord (b : List ℕ) (f : Fixup) : Type 0 where
  pub on : OnChainOf b f.address
  pub word : ℕ
  pub stands : IsFileWord (chain_segments b) b f.address word
  pub says : Says f.kind word
  pub alone : (other : ℕ) → OnChainOf b other → (other ≤ f.address) ⊎ (f.address + POINTER_SIZE ≤ other)

-- sorted words are apart
words_apart : (fixups : List Fixup) (f g : Fixup) → AllPairs (λ (x y : Fixup). x.address + POINTER_SIZE ≤ y.address) fixups
    → Contains fixups f
    → Contains fixups g → (g.address ≤ f.address) ⊎ (f.address + POINTER_SIZE ≤ g.address)
words_apart fixups f g sorted in_f in_g =
    elim (one_or_pair (λ (x y : Fixup). x.address + POINTER_SIZE ≤ y.address) fixups f g sorted in_f in_g) [
      | inl same ↦ let e : f.address ≡ g.address = ap (λ (x : Fixup). x.address) same in inl (omega (arith, e))
      | inr pair ↦ elim pair [ inl before ↦ inr before | inr behind ↦ inl (omega (arith, behind)) ]
    ]

-- the number that stands in the file at an address of a segment
file_number : List ℕ → FixupSegment → ℕ → ℕ
file_number b s a = le_at POINTER_SIZE b (s.file_offset + (a - s.address))

file_word : (b : List ℕ) (fixups : List Fixup) (segments : List FixupSegment) (s : FixupSegment) (a : ℕ) → Contains segments s → Holds s a
    → IsFileWord (map (chain_seen fixups) segments) b a (file_number b s a)
unfolding file_number
file_word b fixups segments s a one holds = record {
  segment = chain_seen fixups s;
  one = contains_map (chain_seen fixups) segments s one;
  from = holds.0;
  to = holds.1;
  is = refl;
}

pub has_word : ChainsAreTold → (l : Link) (b : List ℕ) (p : Placed) (w : FixupsAreWritten l b p) → SegmentsAgree b p → (f : Fixup)
    → Contains w.say.fixups f → HasWord b f
has_word told l b p w agree f one =
    let inside = All-contains (λ (g : Fixup). (s : FixupSegment) × Contains (fixup_segments p) s × Holds s g.address) w.say.fixups f
    w.run.in_segment one in
    let word = file_number b inside.0 f.address in
    let stands = file_word b w.say.fixups (fixup_segments p) inside.0 f.address inside.1 inside.2 in
    let is = w.chain.says b one.0 word f w.words one.1
    (subst (λ (g : Fixup). IsFileWord (map (chain_seen w.say.fixups) (fixup_segments p)) b g.address word) (sym one.2) stands) in
    record {
      on = (on_run told l b p w agree f.address).1 (f, one, refl);
      word = word;
      stands = subst (λ (gs : List ChainSegment). IsFileWord gs b f.address word) (sym (chain_is_seen told l b p w agree)) stands;
      says = subst (λ (g : Fixup). Says g.kind word) one.2 is.says;
      alone = λ other on.
          let at = (on_run told l b p w agree other).0 on in
          subst (λ a. (a ≤ f.address) ⊎ (f.address + POINTER_SIZE ≤ a)) at.2 (words_apart w.say.fixups f at.0 w.run.sorted one at.1);
    }

-- what is apart from all places of fixups, no chain word covers
pub free_apart : (l : Link) (b : List ℕ) (p : Placed) (a n : ℕ) → ChainIsWhole l b p
    → ((word_at : ℕ) → IsFixupPlace l p word_at → (a + n ≤ word_at) ⊎ (word_at + POINTER_SIZE ≤ a)) → IsFree b a n
free_apart l b p a n whole apart k within word_at covers =
    elim (apart word_at ((whole word_at).0 covers.0)) [
      | inl before ↦ omega (arith, before, within, covers.1)
      | inr behind ↦ omega (arith, behind, covers.2)
    ]
