-- Look-up finds one thing at most.
--
-- Two greatest items not above a limit have equal numbers, since each is no less than the other; and each is the last of
-- its number, so they are one. So the page entry is one, and in its page the function is one, and with them its start and
-- its encoding. The bits of the encoding name one personality. Of two first LSDA entries of a start neither comes before
-- the other.
use Rattle.std.proofs.Common.{◌≡◌, ℕ, List, Option, Some, None, sym, ap, subst, ◌∙◌, refl, arith, inl, inr}
use Rattle.std.proofs.lemmas.Bool.{cases_lt}
use Rattle.macho_unwind.specs.Sections.{first_at, page_at, word_at, start_at, encoding_at, personality_in, lsda_at}
use Rattle.macho_unwind.specs.Lookup.{IsGreatestUpTo, IsLsda, HasLsda, UnwindFinds}
use Rattle.macho_unwind.specs.declared.lookup.Found.{Found}
use Rattle.macho_unwind.specs.steps.Parts.{IsFunctionOf, NamesPersonality}
use Rattle.macho_unwind.specs.steps.Sections.{index_in, without_personality}

pub greatest-unique : (limit count : ℕ) (f : ℕ → ℕ) (i j : ℕ) → IsGreatestUpTo limit count f i → IsGreatestUpTo limit count f j → i ≡ j
greatest-unique limit count f i j p q =
    let same : f i ≡ f j = omega (arith, q.greatest i p.one p.up_to, p.greatest j q.one q.up_to) in
    omega (arith, q.last i p.one same, p.last j q.one (sym same))

personality-unique : (bytes : List ℕ) (number : ℕ) (s t : Option ℕ) → NamesPersonality bytes number s
    → NamesPersonality bytes number t → s ≡ t
personality-unique bytes number None None p q = refl
personality-unique bytes number None (Some t) p q = absurd (omega (arith, q.one))
personality-unique bytes number (Some s) None p q = absurd (omega (arith, p.one))
personality-unique bytes number (Some s) (Some t) p q = ap Some (p.is ∙ sym q.is)

lsda-first : (bytes : List ℕ) (k start s t i j : ℕ) → IsLsda bytes k start s i → IsLsda bytes k start t j → i ≡ j
lsda-first bytes k start s t i j p q =
    elim (cases_lt i j) [
      | inl lt ↦ absurd (q.first i lt p.function)
      | inr le ↦ elim (cases_lt j i) [ inl lt ↦ absurd (p.first j lt q.function) | inr other ↦ omega arith ]
    ]

lsda-unique : (bytes : List ℕ) (k start : ℕ) (s t : Option ℕ) → HasLsda bytes k start s → HasLsda bytes k start t → s ≡ t
lsda-unique bytes k start None None p q = refl
lsda-unique bytes k start None (Some t) p q = absurd (p q.0 q.1.one q.1.function)
lsda-unique bytes k start (Some s) None p q = absurd (q p.0 p.1.one p.1.function)
lsda-unique bytes k start (Some s) (Some t) p q =
    let same = lsda-first bytes k start s t p.0 q.0 p.1 q.1 in
    ap Some (p.1.is ∙ ap (λ (j : ℕ). (lsda_at bytes k j).lsda_offset) same ∙ sym q.1.is)

same_found : (x y : Found) → x.start ≡ y.start → x.encoding ≡ y.encoding → x.personality ≡ y.personality → x.lsda ≡ y.lsda → x ≡ y
same_found x y start encoding personality lsda =
    ap (λ (v : ℕ). record x { start = v }) start
    ∙ ap (λ (v : ℕ). record x { start = y.start; encoding = v }) encoding
    ∙ ap (λ (v : Option ℕ). record y { personality = v; lsda = x.lsda }) personality
    ∙ ap (λ (v : Option ℕ). record y { lsda = v }) lsda

-- look-up finds one thing at most
pub finds-unique : (bytes : List ℕ) (offset : ℕ) (x y : Found) → UnwindFinds bytes offset x → UnwindFinds bytes offset y → x ≡ y
finds-unique bytes offset x y p q =
    let page = greatest-unique offset _ (first_at bytes) p.page q.page p.page_of.chosen q.page_of.chosen in
    let function = greatest-unique offset (page_at bytes p.page).functions_len (start_at bytes p.page) p.function q.function p.function_of
    (subst (λ (k : ℕ). IsFunctionOf bytes k offset q.function) (sym page) q.function_of) in
    let start : x.start ≡ y.start =
    p.start ∙ ap (λ (k : ℕ). start_at bytes k p.function) page ∙ ap (λ (j : ℕ). start_at bytes q.page j) function ∙ sym q.start in
    let some : Some p.encoding ≡ Some q.encoding =
    sym p.encoded ∙ ap (λ (k : ℕ). encoding_at bytes k (index_in (word_at bytes k p.function))) page
    ∙ ap (λ (j : ℕ). encoding_at bytes q.page (index_in (word_at bytes q.page j))) function ∙ q.encoded in
    let encoding : p.encoding ≡ q.encoding = cc in
    same_found x y start (p.cleared ∙ ap without_personality encoding ∙ sym q.cleared)
    (personality-unique bytes (personality_in q.encoding) x.personality y.personality
    (subst (λ (e : ℕ). NamesPersonality bytes (personality_in e) x.personality) encoding p.personality) q.personality)
    (lsda-unique bytes q.page y.start x.lsda y.lsda
    (subst (λ (k : ℕ). HasLsda bytes k y.start x.lsda) page (subst (λ (s : ℕ). HasLsda bytes p.page s x.lsda) start p.lsda)) q.lsda)
