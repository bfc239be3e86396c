-- Words that an assembler wrote (clang 14 for arm64-apple-macos14, listed by llvm-objdump 14), against the definitions.
--
-- Each fact is computed: what the word of an instruction means is what the assembler was asked for.
use Rattle.std.proofs.Common.{◌≡◌, ℕ, ◌-◌, ◌^◌, true, false, List, [], ◌∷◌, map, filter, refl, Some, None}
use Rattle.std.specs.Prelude.{codes}
use Rattle.std.specs.Fmt.{digits}
use Rattle.macho_model.specs.Words.{scale_of}
use Rattle.macho_model.specs.Meaning.{BranchesTo, PagesTo, OffsetsTo, AddsTo, LoadsFrom, IsDistance, IsDifference, GoesThrough}
use Rattle.macho_records.specs.declared.constants.TheConstants.{ARM64_RELOC_UNSIGNED, ARM64_RELOC_BRANCH26, ARM64_RELOC_PAGEOFF12, ARM64_RELOC_TLVP_LOAD_PAGEOFF12}
use Rattle.macho_arm64.specs.declared.kinds.RelocationKind.TheVariants.{Absolute}
use Rattle.macho_arm64.specs.declared.kinds.FieldSize.TheVariants.{Bytes, Adr, JumpCall, Low12}
use Rattle.macho_arm64.specs.Kinds.{kind_among, kind_at, type_text}
use Rattle.macho_arm64.specs.Fields.{fits_word, can_hold}
use Rattle.macho_arm64.specs.Relaxations.{is_relaxable}

-- bl at 0x100001000 to 0x100001010, from `bl 0`; b a word back
branch_forward : BranchesTo 0x100001000 0x94000004 0x94000000 0x100001010
branch_forward = record { reaches = refl; kept = refl }

branch_back : BranchesTo 0x100001000 0x17ffffff 0x14000000 0x100000ffc
branch_back = record { reaches = refl; kept = refl }

branch_words : map (fits_word JumpCall) (0x94000004 ∷ 0x17ffffff ∷ []) ≡ true ∷ true ∷ []
branch_words = refl

-- adrp x0 at the end of a page, to the next page
page_forward : PagesTo 0x100001ffc 0xb0000000 0x90000000 0x100002000
page_forward = record { reaches = refl; kept = refl }

-- ldr x0, [x0] made add x0, x0, 0x123; the same load kept, of a slot at 0x10 in its page
load_made_add : AddsTo 0x91048c00 0xf9400000 0x100000123
load_made_add = record { load = refl; add = refl; base = refl; written = refl; reaches = refl }

load_of_slot : LoadsFrom 0xf9400800 0xf9400000 0x100000010
load_of_slot = record { load = refl; reaches = refl; kept = refl }

-- ldr x1, [x2, 0x128]
load_of_offset : OffsetsTo 0xf9409441 0xf9400041 0x100000128
load_of_offset = record { reaches = refl; kept = refl }

-- 8 back, in 4 bytes
distance_back : IsDistance 0x100001008 0xfffffff8 0x100001000
distance_back = refl

-- b at 8 with an addend of 4, less a at 4
difference_with_addend : IsDifference 4 8 0x100001008 0x100001004 4
difference_with_addend = refl

-- adrp x16, 4 pages; ldr x16, [x16, 0x10]; br x16
stub : GoesThrough 0x100004000 0x100008010 0x90000030 0xf9400a10 0xd61f0200
stub = record {
  pages = record { reaches = refl; kept = refl };
  loads = record { load = refl; reaches = refl; kept = refl };
  leaves = refl;
}

-- ldr xzr, [x0] can't be made an ADD; a 64-bit load of an address that ends in 4 has no immediate
zero_register : is_relaxable 0xf940001f ≡ false
zero_register = refl

unaligned_load : can_hold Low12 0xf9400000 4 ≡ false
unaligned_load = refl

-- ldrb strb ldrsb · ldrh strh ldrsh · ldr and str of w, ldrsw · ldr and str of x, prfm
general_loads : List ℕ
general_loads =
    0x39400041 ∷ 0x39000041 ∷ 0x39800041 ∷ 0x79400041 ∷ 0x79000041 ∷ 0x79c00041
    ∷ 0xb9400041 ∷ 0xb9000041 ∷ 0xb9800041 ∷ 0xf9400041 ∷ 0xf9000041 ∷ 0xf9800040 ∷ []

general_scales : map scale_of general_loads ≡ 1 ∷ 1 ∷ 1 ∷ 2 ∷ 2 ∷ 2 ∷ 4 ∷ 4 ∷ 4 ∷ 8 ∷ 8 ∷ 8 ∷ []
unfolding general_loads
general_scales = refl

-- ldr and str of b, h, s, d and q; add
vector_loads : List ℕ
vector_loads =
    0x3d400041 ∷ 0x3d000041 ∷ 0x7d400041 ∷ 0x7d000041 ∷ 0xbd400041 ∷ 0xbd000041
    ∷ 0xfd400041 ∷ 0xfd000041 ∷ 0x3dc00041 ∷ 0x3d800041 ∷ 0x91000041 ∷ []

vector_scales : map scale_of vector_loads ≡ 1 ∷ 1 ∷ 2 ∷ 2 ∷ 4 ∷ 4 ∷ 8 ∷ 8 ∷ 16 ∷ 16 ∷ 1 ∷ []
unfolding vector_loads
vector_scales = refl

-- add of w, add shifted by 12, ldr with writeback, ldur, cbz, b.eq, adr, ldp, ldr of a literal, sub, adds
others : List ℕ
others =
    0x11000441 ∷ 0x91400441 ∷ 0xf85f8c20 ∷ 0xf8401000 ∷ 0xb4000000 ∷ 0x54000000 ∷ 0x10000000 ∷ 0xa9400400 ∷ 0x58000000
    ∷ 0xd1000441 ∷ 0xb1000441 ∷ []

none_fits : (filter (fits_word Low12) others ≡ []) × (filter (fits_word JumpCall) others ≡ []) × (filter (fits_word Adr) others ≡ [])
unfolding others
none_fits = (refl, refl, refl)

-- the edges of each range: the last number inside, and the first outside
branch_edges : map (can_hold JumpCall 0x94000000) (0x7fffffc ∷ 0x8000000 ∷ (2 ^ 64 - 0x8000000) ∷ (2 ^ 64 - 0x8000004) ∷ 2 ∷ [])
    ≡ true ∷ false ∷ true ∷ false ∷ false ∷ []
branch_edges = refl

page_edges : map (can_hold Adr 0x90000000) (0xfffff000 ∷ 0x100000000 ∷ (2 ^ 64 - 0x100000000) ∷ (2 ^ 64 - 0x100001000) ∷ 0x800 ∷ [])
    ≡ true ∷ false ∷ true ∷ false ∷ false ∷ []
page_edges = refl

word_edges : map (can_hold (Bytes 4) 0) (0x7fffffff ∷ 0x80000000 ∷ (2 ^ 64 - 0x80000000) ∷ (2 ^ 64 - 0x80000001) ∷ [])
    ≡ true ∷ false ∷ true ∷ false ∷ []
word_edges = refl

offset_edges : map (can_hold Low12 0x3dc00041) (0xff0 ∷ 0x1000 ∷ 8 ∷ []) ≡ true ∷ false ∷ false ∷ []
offset_edges = refl

-- kinds, and what has none: a pcrel turned, a length of 8 bytes at a word, the type 11
pointer_kind : kind_at ARM64_RELOC_UNSIGNED 3 false
    ≡ Some (record { kind = Absolute; size = Bytes 8; page = false; implicit_addend = true })
unfolding kind_among
pointer_kind = refl

one_offset_kind : kind_at ARM64_RELOC_TLVP_LOAD_PAGEOFF12 2 false ≡ kind_at ARM64_RELOC_PAGEOFF12 2 false
unfolding kind_among
one_offset_kind = refl

no_kinds : kind_at ARM64_RELOC_BRANCH26 2 false ∷ kind_at ARM64_RELOC_PAGEOFF12 2 true ∷ kind_at ARM64_RELOC_BRANCH26 3 true
    ∷ kind_at ARM64_RELOC_UNSIGNED 1 false ∷ kind_at 11 3 false ∷ []
    ≡ None ∷ None ∷ None ∷ None ∷ None ∷ []
unfolding kind_among
no_kinds = refl

-- texts: of a type with a name, and of one without
branch_text : type_text 2 ≡ codes "ARM64_RELOC_BRANCH26"
branch_text = refl

unknown_text : type_text 12 ≡ codes "Unknown arm64 relocation type 0xc"
unfolding digits
unknown_text = refl
