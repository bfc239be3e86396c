-- A relocation that a link supports is known, and stands at a word that its field is part of.
--
-- A link supports a relocation of each type under a form: its length and whether it is relative, which are those of a row
-- of that type, and an instruction at its place, which is one that the row's field is part of. The tests of its type are
-- taken one by one.
use Rattle.std.proofs.Common.{◌≡◌, ℕ, ◌==◌, ◌&&◌, ◌||◌, not, if◌then◌else◌, Bool, true, false, Option, Some, refl, sym, ap, subst, ◌∙◌, inl, inr}
use Rattle.std.specs.Prelude.{is_some}
use Rattle.std.proofs.lemmas.Bool.{cases_Bool, cases_eq, eqb-true, eq-eqb, ne_eqb}
use Rattle.macho_wire.specs.declared.relocations.RelocationInfo.{RelocationInfo}
use Rattle.macho_records.specs.declared.constants.TheConstants.{ARM64_RELOC_ADDEND, ARM64_RELOC_BRANCH26, ARM64_RELOC_GOT_LOAD_PAGE21, ARM64_RELOC_GOT_LOAD_PAGEOFF12, ARM64_RELOC_PAGE21, ARM64_RELOC_PAGEOFF12, ARM64_RELOC_POINTER_TO_GOT, ARM64_RELOC_SUBTRACTOR, ARM64_RELOC_TLVP_LOAD_PAGE21, ARM64_RELOC_TLVP_LOAD_PAGEOFF12, ARM64_RELOC_UNSIGNED}
use Rattle.macho_model.specs.declared.targets.Target.{Target}
use Rattle.macho_model.specs.Links.{Link, SectionId}
use Rattle.macho_model.specs.Needs.{relocation_in}
use Rattle.macho_model.specs.Targets.{target_of_relocation, is_defined}
use Rattle.macho_model.specs.Fields.{content_of, has_subtrahend}
use Rattle.macho_model.specs.Words.{is_adrp, is_branch, is_ldr}
use Rattle.macho_model.specs.Rows.{has_form, begins_pair, is_none, difference_fits, pointer_fits, defined_or_import, is_supported}
use Rattle.macho_model.specs.Supported.{addend_fits, may_be_called, takes_offset, load_fits}
use Rattle.macho_arm64.specs.declared.kinds.RelocationKindInfo.{RelocationKindInfo}
use Rattle.macho_arm64.specs.Kinds.{kind_among, kind_at, info_of}
use Rattle.macho_arm64.specs.Fields.{fits_word}
use Rattle.macho_arm64.specs.Laws.{SupportedIsKnown, SupportedFits}
use Rattle.macho_arm64.proofs.KindTable.{kind_is}
use Rattle.macho_arm64.proofs.FieldLaws.{slot_load_fits}
use Rattle.macho_arm64.proofs.ReachLaws.{offset_words}
use Rattle.macho_bytes.proofs.Bools.{false_of_not, pick, skip, and_left, and_right, either, or_first, or_second, neither}

-- a form tells the length, and whether a relocation is relative
flag : (a b : Bool) → (if a then b else not b) ≡ true → a ≡ b
flag true true h = refl
flag true false h = absurd (cc)
flag false true h = absurd (cc)
flag false false h = refl

pub form_length : (rel : RelocationInfo) (length : ℕ) (pcrel extern : Bool) → has_form rel length pcrel extern ≡ true → rel.r_length ≡
    length
form_length rel length pcrel extern h = eqb-true rel.r_length length (and_left (rel.r_length == length) _
    (and_left ((rel.r_length == length) && _) _ h))

form_pcrel : (rel : RelocationInfo) (length : ℕ) (pcrel extern : Bool) → has_form rel length pcrel extern ≡ true → rel.r_pcrel ≡ pcrel
form_pcrel rel length pcrel extern h =
    flag rel.r_pcrel pcrel (and_right (rel.r_length == length) (if rel.r_pcrel then pcrel else not pcrel)
    (and_left ((rel.r_length == length) && (if rel.r_pcrel then pcrel else not pcrel)) (if rel.r_extern then extern else not extern) h))

-- What is known of a supported relocation: its kind, whose field the word at its place has.
pub record IsKnown (rel : RelocationInfo) (word : ℕ) : Type 0 where
  pub info : RelocationKindInfo
  pub is : info_of rel ≡ Some info
  pub fits : fits_word info.size word ≡ true

-- by type, length and pcrel
known : (rel : RelocationInfo) (type length word : ℕ) (pcrel : Bool) (info : RelocationKindInfo) → rel.r_type ≡ type → rel.r_length ≡ length
    → rel.r_pcrel ≡ pcrel → kind_at type length pcrel ≡ Some info → fits_word info.size word ≡ true → IsKnown rel word
known rel type length word pcrel info t n p at fits = record { info = info; is = kind_is rel type length pcrel t n p ∙ at; fits = fits }

-- a form of a type, with what the word at its place is
formed : (rel : RelocationInfo) (type length word : ℕ) (pcrel : Bool) (info : RelocationKindInfo) → rel.r_type ≡ type
    → kind_at type length pcrel ≡ Some info
    → has_form rel length pcrel true ≡ true → fits_word info.size word ≡ true → IsKnown rel word
formed rel type length word pcrel info t at form fits =
    known rel type length word pcrel info t (form_length rel length pcrel true form) (form_pcrel rel length pcrel true form) at fits

-- a pointer, or a subtrahend in front of one: 4 or 8 bytes
of_bytes : (rel : RelocationInfo) (type word : ℕ) (four eight : RelocationKindInfo) → rel.r_type ≡ type → kind_at type 2 false ≡ Some four
    → kind_at type 3 false ≡ Some eight → fits_word four.size word ≡ true → fits_word eight.size word ≡ true
    → (has_form rel 2 false true || has_form rel 3 false true) ≡ true → IsKnown rel word
of_bytes rel type word four eight t at_four at_eight fits_four fits_eight h =
    elim (either (has_form rel 2 false true) (has_form rel 3 false true) h) [
      | inl two ↦ formed rel type 2 word false four t at_four two fits_four
      | inr three ↦ formed rel type 3 word false eight t at_eight three fits_eight
    ]

of_difference : (l : Link) (s : SectionId) (r type : ℕ) (four eight : RelocationKindInfo) → (relocation_in l s r).r_type ≡ type
    → kind_at type 2 false ≡ Some four → kind_at type 3 false ≡ Some eight → fits_word four.size (content_of l s r) ≡ true
    → fits_word eight.size (content_of l s r) ≡ true → difference_fits l s r ≡ true → IsKnown (relocation_in l s r) (content_of l s r)
of_difference l s r type four eight t at_four at_eight fits_four fits_eight h =
    of_bytes (relocation_in l s r) type (content_of l s r) four eight t at_four at_eight fits_four fits_eight
    (and_left (has_form (relocation_in l s r) 2 false true || has_form (relocation_in l s r) 3 false true)
    (is_defined (target_of_relocation l s r)) h)

of_pointer : (l : Link) (s : SectionId) (r : ℕ) → (relocation_in l s r).r_type ≡ ARM64_RELOC_UNSIGNED → pointer_fits l s r ≡ true
    → IsKnown (relocation_in l s r) (content_of l s r)
unfolding kind_among
of_pointer l s r t h =
    elim (cases_Bool (has_subtrahend l s r)) [
      | inl behind ↦
          let g : difference_fits l s r ≡ true = rw behind at h in
          of_difference l s r ARM64_RELOC_UNSIGNED _ _ t refl refl refl refl g
      | inr alone ↦
          let g : (((relocation_in l s r).r_length == 3) && not (relocation_in l s r).r_pcrel && not
          (is_none (target_of_relocation l s r))) ≡ true =
          rw alone at h in
          let both = and_left (((relocation_in l s r).r_length == 3) && not (relocation_in l s r).r_pcrel) _ g in
          known (relocation_in l s r) ARM64_RELOC_UNSIGNED 3 (content_of l s r) false _ t
          (eqb-true (relocation_in l s r).r_length 3 (and_left ((relocation_in l s r).r_length == 3) _ both))
          (false_of_not (relocation_in l s r).r_pcrel (and_right ((relocation_in l s r).r_length == 3) _ both)) refl refl
    ]

of_subtractor : (l : Link) (s : SectionId) (r : ℕ) → (relocation_in l s r).r_type ≡ ARM64_RELOC_SUBTRACTOR
    → (difference_fits l s r && begins_pair l s r) ≡ true → IsKnown (relocation_in l s r) (content_of l s r)
unfolding kind_among
of_subtractor l s r t h =
    of_difference l s r ARM64_RELOC_SUBTRACTOR _ _ t refl refl refl refl (and_left (difference_fits l s r) (begins_pair l s r) h)

of_addend : (l : Link) (s : SectionId) (r : ℕ) → (relocation_in l s r).r_type ≡ ARM64_RELOC_ADDEND
    → (addend_fits l s r && begins_pair l s r) ≡ true → IsKnown (relocation_in l s r) (content_of l s r)
unfolding kind_among
of_addend l s r t h =
    let g = and_left (((relocation_in l s r).r_length == 2) && not (relocation_in l s r).r_pcrel) (begins_pair l s r) h in
    known (relocation_in l s r) ARM64_RELOC_ADDEND 2 (content_of l s r) false _ t
    (eqb-true (relocation_in l s r).r_length 2 (and_left ((relocation_in l s r).r_length == 2) _ g))
    (false_of_not (relocation_in l s r).r_pcrel (and_right ((relocation_in l s r).r_length == 2) _ g)) refl refl

-- a word with a field of a type
word_known : (rel : RelocationInfo) (type w : ℕ) (pcrel : Bool) (info : RelocationKindInfo) (test rest : Bool) → rel.r_type ≡ type
    → kind_at type 2 pcrel ≡ Some info → (has_form rel 2 pcrel true && test && rest) ≡ true → (test ≡ true → fits_word info.size w ≡ true)
    → IsKnown rel w
word_known rel type w pcrel info test rest is at h fits =
    let both = and_left (has_form rel 2 pcrel true && test) rest h in
    formed rel type 2 w pcrel info is at (and_left (has_form rel 2 pcrel true) test both)
    (fits (and_right (has_form rel 2 pcrel true) test both))

-- A supported relocation is known. The tests of its type are taken one by one: `from_page` is what is asked of a type that
-- is none of those before the page's.
supported_known : (l : Link) (s : SectionId) (r : ℕ) → is_supported l s r ≡ true → IsKnown (relocation_in l s r) (content_of l s r)
unfolding is_supported kind_among
supported_known l s r h =
    elim (cases_eq type ARM64_RELOC_UNSIGNED) [
      | inl is ↦ of_pointer l s r is (pick _ _ from_subtractor (eq-eqb type ARM64_RELOC_UNSIGNED is) h)
      | inr other ↦
          from_subtractor_known (skip _ (pointer_fits l s r) _ (ne_eqb type ARM64_RELOC_UNSIGNED other) h)
    ]
  where
    rel : RelocationInfo
    rel = relocation_in l s r

    type : ℕ
    type = rel.r_type

    w : ℕ
    w = content_of l s r

    t : Target
    t = target_of_relocation l s r

    from_addend : Bool
    from_addend = if type == ARM64_RELOC_ADDEND
        then addend_fits l s r && begins_pair l s r else false

    from_distance : Bool
    from_distance = if type == ARM64_RELOC_POINTER_TO_GOT
        then has_form rel 2 true true && defined_or_import t else from_addend

    from_load : Bool
    from_load = if (type == ARM64_RELOC_GOT_LOAD_PAGEOFF12) || (type == ARM64_RELOC_TLVP_LOAD_PAGEOFF12)
        then has_form rel 2 false true && load_fits w t && defined_or_import t else from_distance

    from_slot_page : Bool
    from_slot_page = if (type == ARM64_RELOC_GOT_LOAD_PAGE21) || (type == ARM64_RELOC_TLVP_LOAD_PAGE21)
        then has_form rel 2 true true && is_adrp w && defined_or_import t else from_load

    from_offset : Bool
    from_offset = if type == ARM64_RELOC_PAGEOFF12
        then has_form rel 2 false true && takes_offset w && is_defined t else from_slot_page

    from_page : Bool
    from_page = if type == ARM64_RELOC_PAGE21
        then has_form rel 2 true true && is_adrp w && is_defined t else from_offset

    from_branch : Bool
    from_branch = if type == ARM64_RELOC_BRANCH26
        then has_form rel 2 true true && is_branch w && may_be_called l s r else from_page

    from_subtractor : Bool
    from_subtractor = if type == ARM64_RELOC_SUBTRACTOR
        then difference_fits l s r && begins_pair l s r else from_branch

    no_type : false ≡ true → IsKnown rel w
    no_type h = absurd (cc)

    from_addend_known : from_addend ≡ true → IsKnown rel w
    from_addend_known h =
        elim (cases_eq type ARM64_RELOC_ADDEND) [
          | inl is ↦
              let asked = pick _ _ _ (eq-eqb type ARM64_RELOC_ADDEND is) h in
              of_addend l s r is asked
          | inr other ↦ no_type (skip _ _ _ (ne_eqb type ARM64_RELOC_ADDEND other) h)
        ]

    from_distance_known : from_distance ≡ true → IsKnown rel w
    from_distance_known h =
        elim (cases_eq type ARM64_RELOC_POINTER_TO_GOT) [
          | inl is ↦
              let asked = pick _ _ _ (eq-eqb type ARM64_RELOC_POINTER_TO_GOT is) h in
              formed rel ARM64_RELOC_POINTER_TO_GOT 2 w true _ is refl (and_left (has_form rel 2 true true) _ asked) refl
          | inr other ↦ from_addend_known (skip _ _ _ (ne_eqb type ARM64_RELOC_POINTER_TO_GOT other) h)
        ]

    from_load_known : from_load ≡ true → IsKnown rel w
    from_load_known h =
        elim (cases_eq type ARM64_RELOC_GOT_LOAD_PAGEOFF12) [
          | inl is ↦
              let asked = pick _ _ _ (or_first _ _ (eq-eqb type ARM64_RELOC_GOT_LOAD_PAGEOFF12 is)) h in
              word_known rel ARM64_RELOC_GOT_LOAD_PAGEOFF12 w false _ (load_fits w t) (defined_or_import t) is refl asked
              (λ b. slot_load_fits w (and_left (is_ldr w) _ b))
          | inr first ↦ elim (cases_eq type ARM64_RELOC_TLVP_LOAD_PAGEOFF12) [
            | inl is ↦
                let asked = pick _ _ _ (or_second _ _ (eq-eqb type ARM64_RELOC_TLVP_LOAD_PAGEOFF12 is)) h in
                word_known rel ARM64_RELOC_TLVP_LOAD_PAGEOFF12 w false _ (load_fits w t) (defined_or_import t) is refl asked
                (λ b. slot_load_fits w (and_left (is_ldr w) _ b))
            | inr second ↦
                let none = neither _ _ (ne_eqb type ARM64_RELOC_GOT_LOAD_PAGEOFF12 first)
                (ne_eqb type ARM64_RELOC_TLVP_LOAD_PAGEOFF12 second) in
                from_distance_known (skip _ _ _ none h)
          ]
        ]

    from_slot_page_known : from_slot_page ≡ true → IsKnown rel w
    from_slot_page_known h =
        elim (cases_eq type ARM64_RELOC_GOT_LOAD_PAGE21) [
          | inl is ↦
              let asked = pick _ _ _ (or_first _ _ (eq-eqb type ARM64_RELOC_GOT_LOAD_PAGE21 is)) h in
              word_known rel ARM64_RELOC_GOT_LOAD_PAGE21 w true _ (is_adrp w) (defined_or_import t) is refl asked (λ b. b)
          | inr first ↦ elim (cases_eq type ARM64_RELOC_TLVP_LOAD_PAGE21) [
            | inl is ↦
                let asked = pick _ _ _ (or_second _ _ (eq-eqb type ARM64_RELOC_TLVP_LOAD_PAGE21 is)) h in
                word_known rel ARM64_RELOC_TLVP_LOAD_PAGE21 w true _ (is_adrp w) (defined_or_import t) is refl asked (λ b. b)
            | inr second ↦
                let none = neither _ _ (ne_eqb type ARM64_RELOC_GOT_LOAD_PAGE21 first)
                (ne_eqb type ARM64_RELOC_TLVP_LOAD_PAGE21 second) in
                from_load_known (skip _ _ _ none h)
          ]
        ]

    from_offset_known : from_offset ≡ true → IsKnown rel w
    from_offset_known h =
        elim (cases_eq type ARM64_RELOC_PAGEOFF12) [
          | inl is ↦
              let asked = pick _ _ _ (eq-eqb type ARM64_RELOC_PAGEOFF12 is) h in
              word_known rel ARM64_RELOC_PAGEOFF12 w false _ (takes_offset w) (is_defined t) is refl asked (λ b. offset_words w ∙ b)
          | inr other ↦ from_slot_page_known (skip _ _ _ (ne_eqb type ARM64_RELOC_PAGEOFF12 other) h)
        ]

    from_page_known : from_page ≡ true → IsKnown rel w
    from_page_known h =
        elim (cases_eq type ARM64_RELOC_PAGE21) [
          | inl is ↦
              let asked = pick _ _ _ (eq-eqb type ARM64_RELOC_PAGE21 is) h in
              word_known rel ARM64_RELOC_PAGE21 w true _ (is_adrp w) (is_defined t) is refl asked (λ b. b)
          | inr other ↦ from_offset_known (skip _ _ _ (ne_eqb type ARM64_RELOC_PAGE21 other) h)
        ]

    from_branch_known : from_branch ≡ true → IsKnown rel w
    from_branch_known h =
        elim (cases_eq type ARM64_RELOC_BRANCH26) [
          | inl is ↦
              let asked = pick _ _ _ (eq-eqb type ARM64_RELOC_BRANCH26 is) h in
              word_known rel ARM64_RELOC_BRANCH26 w true _ (is_branch w) (may_be_called l s r) is refl asked (λ b. b)
          | inr other ↦ from_page_known (skip _ _ _ (ne_eqb type ARM64_RELOC_BRANCH26 other) h)
        ]

    from_subtractor_known : from_subtractor ≡ true → IsKnown rel w
    from_subtractor_known h =
        elim (cases_eq type ARM64_RELOC_SUBTRACTOR) [
          | inl is ↦
              let asked = pick _ _ _ (eq-eqb type ARM64_RELOC_SUBTRACTOR is) h in
              of_subtractor l s r is asked
          | inr other ↦ from_branch_known (skip _ _ _ (ne_eqb type ARM64_RELOC_SUBTRACTOR other) h)
        ]

pub known_in_link : SupportedIsKnown
known_in_link l s r h = ap (λ (o : Option RelocationKindInfo). is_some o) (supported_known l s r h).is

pub fits_in_link : SupportedFits
fits_in_link l s r info h is =
    let k = supported_known l s r h in
    let both : Some k.info ≡ Some info = sym k.is ∙ is in
    let same : k.info ≡ info = cc in
    subst (λ (i : RelocationKindInfo). fits_word i.size (content_of l s r) ≡ true) same k.fits
