-- The row that a relocation's type has in the table of relocations, with its test.
--
-- The table is a chain of tests of the type. Over plain tests, the chain gives the test of the row that the type has: the
-- types before it are others, and a type that is no row's fails all of them.
use Rattle.std.proofs.Common.{◌≡◌, ℕ, ◌==◌, ◌&&◌, ◌||◌, if◌then◌else◌, Bool, true, false, refl, inl, inr, ◌⊎◌}
use Rattle.std.proofs.lemmas.Bool.{cases_eq, ne_eqb}
use Rattle.macho_model.specs.Links.{Link, SectionId}
use Rattle.macho_model.specs.Needs.{relocation_in}
use Rattle.macho_model.specs.Targets.{target_of_relocation, is_defined}
use Rattle.macho_model.specs.Fields.{content_of, is_prefix_type}
use Rattle.macho_model.specs.Words.{is_adrp, is_branch}
use Rattle.macho_model.specs.Rows.{has_form, begins_pair, difference_fits, pointer_fits, defined_or_import, is_supported}
use Rattle.macho_model.specs.Supported.{addend_fits, may_be_called, takes_offset, load_fits}
use Rattle.macho_bytes.proofs.Bools.{true_or_false}

-- the row of a type, with its test
pub data Row (type : ℕ) (pointer branch page offset slot_page slot_offset distance : Bool) : Type 0 where
  Unsigned : type ≡ 0 → pointer ≡ true → Row type pointer branch page offset slot_page slot_offset distance
  Called : type ≡ 2 → branch ≡ true → Row type pointer branch page offset slot_page slot_offset distance
  Paged : type ≡ 3 → page ≡ true → Row type pointer branch page offset slot_page slot_offset distance
  Low : type ≡ 4 → offset ≡ true → Row type pointer branch page offset slot_page slot_offset distance
  LoadPage : (type ≡ 5) ⊎ (type ≡ 8) → slot_page ≡ true → Row type pointer branch page offset slot_page slot_offset distance
  LoadLow : (type ≡ 6) ⊎ (type ≡ 9) → slot_offset ≡ true → Row type pointer branch page offset slot_page slot_offset distance
  ToSlot : type ≡ 7 → distance ≡ true → Row type pointer branch page offset slot_page slot_offset distance

-- the chain of tests
abbrev pub row_test : ℕ → Bool → Bool → Bool → Bool → Bool → Bool → Bool → Bool → Bool → Bool
row_test type pointer subtractor branch page offset slot_page slot_offset distance addend =
    if type == 0 then pointer
    else if type == 1 then subtractor
    else if type == 2 then branch
    else if type == 3 then page
    else if type == 4 then offset
    else if (type == 5) || (type == 8) then slot_page
    else if (type == 6) || (type == 9) then slot_offset
    else if type == 7 then distance
    else if type == 10 then addend
    else false

by_row : (type : ℕ) (pointer subtractor branch page offset slot_page slot_offset distance addend : Bool) → is_prefix_type type ≡ false
    → row_test type pointer subtractor branch page offset slot_page slot_offset distance addend ≡ true
    → Row type pointer branch page offset slot_page slot_offset distance
by_row type pointer subtractor branch page offset slot_page slot_offset distance addend own h =
    elim (cases_eq type 0) [
      | inl is ↦ Unsigned is (rw is at h)
      | inr n0 ↦ elim (cases_eq type 2) [
        | inl is ↦ Called is (rw is at h)
        | inr n2 ↦ elim (cases_eq type 3) [
          | inl is ↦ Paged is (rw is at h)
          | inr n3 ↦ elim (cases_eq type 4) [
            | inl is ↦ Low is (rw is at h)
            | inr n4 ↦ elim (cases_eq type 5) [
              | inl is ↦ LoadPage (inl is) (rw is at h)
              | inr n5 ↦ elim (cases_eq type 8) [
                | inl is ↦ LoadPage (inr is) (rw is at h)
                | inr n8 ↦ elim (cases_eq type 6) [
                  | inl is ↦ LoadLow (inl is) (rw is at h)
                  | inr n6 ↦ elim (cases_eq type 9) [
                    | inl is ↦ LoadLow (inr is) (rw is at h)
                    | inr n9 ↦ elim (cases_eq type 7) [
                      | inl is ↦ ToSlot is (rw is at h)
                      | inr n7 ↦ elim (cases_eq type 1) [
                        | inl is ↦ absurd (true_or_false true refl (rw is at own))
                        | inr n1 ↦ elim (cases_eq type 10) [
                          | inl is ↦ absurd (true_or_false true refl (rw is at own))
                          | inr n10 ↦
                              let none : false ≡ true =
                              rw (
                                ne_eqb type 0 n0,
                                ne_eqb type 1 n1,
                                ne_eqb type 2 n2,
                                ne_eqb type 3 n3,
                                ne_eqb type 4 n4,
                                ne_eqb type 5 n5,
                                ne_eqb type 8 n8,
                                ne_eqb type 6 n6,
                                ne_eqb type 9 n9,
                                ne_eqb type 7 n7,
                                ne_eqb type 10 n10,
                              ) at h in
                              absurd (true_or_false false none refl)
                        ]
                      ]
                    ]
                  ]
                ]
              ]
            ]
          ]
        ]
      ]
    ]

-- the row of a relocation of a link
abbrev pub RowOf : Link → SectionId → ℕ → Type 0
RowOf l s r =
    Row (relocation_in l s r).r_type (pointer_fits l s r) (has_form (relocation_in l s r) 2 true true && is_branch
    (content_of l s r) && may_be_called l s r)
    (has_form (relocation_in l s r) 2 true true && is_adrp (content_of l s r) && is_defined (target_of_relocation l s r))
    (has_form (relocation_in l s r) 2 false true && takes_offset (content_of l s r) && is_defined (target_of_relocation l s r))
    (has_form (relocation_in l s r) 2 true true && is_adrp (content_of l s r) && defined_or_import (target_of_relocation l s r))
    (has_form (relocation_in l s r) 2 false true && load_fits (content_of l s r) (target_of_relocation l s r) && defined_or_import
    (target_of_relocation l s r))
    (has_form (relocation_in l s r) 2 true true && defined_or_import (target_of_relocation l s r))

pub row_of : (l : Link) (s : SectionId) (r : ℕ) → is_prefix_type (relocation_in l s r).r_type ≡ false → is_supported l s r ≡ true
    → RowOf l s r
unfolding is_supported
row_of l s r own h =
    by_row (relocation_in l s r).r_type (pointer_fits l s r) (difference_fits l s r && begins_pair l s r) _ _ _ _ _ _
    (addend_fits l s r && begins_pair l s r) own h
