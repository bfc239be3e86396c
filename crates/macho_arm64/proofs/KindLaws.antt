-- The kinds of relocations agree with those of a link's fields.
--
-- The look-up of a kind finds a row of the table, and each row agrees: that is computed, row by row.
use Rattle.std.proofs.Common.{◌≡◌, ℕ, ◌^◌, ◌==◌, ◌&&◌, ◌||◌, Bool, true, false, List, [], ◌∷◌, Some, refl, subst, inl, inr, ◌⊎◌}
use Rattle.std.specs.Prelude.{find}
use Rattle.std.specs.List.{AllByRecursion}
use Rattle.std.specs.Option.{option_map}
use Rattle.std.proofs.lemmas.Bool.{cases_Bool, eqb-true}
use Rattle.macho_records.specs.declared.constants.TheConstants.{ARM64_RELOC_UNSIGNED}
use Rattle.macho_model.specs.Stands as stands
use Rattle.macho_arm64.specs.declared.kinds.FieldSize.TheVariants.{Bytes}
use Rattle.macho_arm64.specs.declared.kinds.KindRow.{KindRow}
use Rattle.macho_arm64.specs.declared.kinds.RelocationKind.TheVariants as way
use Rattle.macho_arm64.specs.declared.kinds.RelocationKindInfo.{RelocationKindInfo}
use Rattle.macho_arm64.specs.Kinds.{kinds, kind_among, is_row_of, same_flag}
use Rattle.macho_arm64.specs.Laws.{Agrees, way_of, size_for, is_paged, KindsAgree}
use Rattle.macho_bytes.proofs.Bools.{and_left, and_right}

-- a row that a look-up finds is one of the table: so it has what all rows have
record IsFound (P : KindRow → Type 0) (type length : ℕ) (info : RelocationKindInfo) : Type 0 where
  pub row : KindRow
  pub has : P row
  pub type_is : row.r_type ≡ type
  pub length_is : row.r_length ≡ length
  pub info_is : row.info ≡ info

found_row : (P : KindRow → Type 0) (rows : List KindRow) (type length : ℕ) (pcrel : Bool) (info : RelocationKindInfo)
    → AllByRecursion P rows
    → option_map (λ k. k.info) (find (is_row_of type length pcrel) rows) ≡ Some info → IsFound P type length info
found_row P [] type length pcrel info all h = absurd (cc)
found_row P (k ∷ rows) type length pcrel info all h =
    elim (cases_Bool (is_row_of type length pcrel k)) [
      | inl hit ↦
          let same : Some k.info ≡ Some info = rw hit at h in
          let first = and_left ((k.r_type == type) && (k.r_length == length)) (same_flag k.r_pcrel pcrel) hit in
          record {
            row = k;
            has = all.0;
            type_is = eqb-true k.r_type type (and_left (k.r_type == type) (k.r_length == length) first);
            length_is = eqb-true k.r_length length (and_right (k.r_type == type) (k.r_length == length) first);
            info_is = cc;
          }
      | inr other ↦ found_row P rows type length pcrel info all.1 (rw other at h)
    ]

-- each row agrees
abbrev RowAgrees : KindRow → Type 0
RowAgrees k = Agrees k.info k.r_type (2 ^ k.r_length)

-- a pointer, and a difference, is its bytes
pointer_size : (width : ℕ) (b : Bool) → Bytes width ≡ size_for (stands.kind_of ARM64_RELOC_UNSIGNED b) width
pointer_size width true = refl
pointer_size width false = refl

pointer_kind : (b : Bool) → way.Absolute ≡ way_of ARM64_RELOC_UNSIGNED (stands.kind_of ARM64_RELOC_UNSIGNED b)
pointer_kind true = refl
pointer_kind false = refl

pointer_page : (b : Bool) → false ≡ is_paged (stands.kind_of ARM64_RELOC_UNSIGNED b)
pointer_page true = refl
pointer_page false = refl

rows_agree : AllByRecursion RowAgrees kinds
rows_agree = (
  record { kind = pointer_kind; size = pointer_size 4; page = pointer_page; implicit = refl },
  (
    record { kind = pointer_kind; size = pointer_size 8; page = pointer_page; implicit = refl },
    (
      record { kind = λ b. refl; size = λ b. refl; page = λ b. refl; implicit = refl },
      (
        record { kind = λ b. refl; size = λ b. refl; page = λ b. refl; implicit = refl },
        (
          record { kind = λ b. refl; size = λ b. refl; page = λ b. refl; implicit = refl },
          (
            record { kind = λ b. refl; size = λ b. refl; page = λ b. refl; implicit = refl },
            (
              record { kind = λ b. refl; size = λ b. refl; page = λ b. refl; implicit = refl },
              (
                record { kind = λ b. refl; size = λ b. refl; page = λ b. refl; implicit = refl },
                (
                  record { kind = λ b. refl; size = λ b. refl; page = λ b. refl; implicit = refl },
                  (
                    record { kind = λ b. refl; size = λ b. refl; page = λ b. refl; implicit = refl },
                    (
                      record { kind = λ b. refl; size = λ b. refl; page = λ b. refl; implicit = refl },
                      (
                        record { kind = λ b. refl; size = λ b. refl; page = λ b. refl; implicit = refl },
                        (record { kind = λ b. refl; size = λ b. refl; page = λ b. refl; implicit = refl }, tt),
                      ),
                    ),
                  ),
                ),
              ),
            ),
          ),
        ),
      ),
    ),
  ),
)

pub kinds_agree : KindsAgree
unfolding kind_among
kinds_agree r info h =
    let f = found_row RowAgrees kinds r.r_type r.r_length r.r_pcrel info rows_agree h in
    subst (λ (i : RelocationKindInfo). Agrees i r.r_type (2 ^ r.r_length)) f.info_is
    (subst (λ (t : ℕ). Agrees f.row.info t (2 ^ r.r_length)) f.type_is
    (subst (λ (n : ℕ). Agrees f.row.info f.row.r_type (2 ^ n)) f.length_is f.has))
