-- A relocation of an object, as one of a link. What was read of it by the object's bytes is what the link says of it, since the
-- object is that of the link's file.
use Rattle.std.proofs.Common.{◌≡◌, ℕ, ◌^◌, ◌<◌, List, Option, Some, None, Contains, sym, ap, ◌∙◌, subst, arith, if◌then◌else◌}
use Rattle.macho_bytes.specs.Numbers.{le_at}
use Rattle.macho_wire.specs.Relocations.{BitsFit}
use Rattle.macho_model.specs.Objects.{num_sections, section_at, section_bytes, relocation_at}
use Rattle.macho_model.specs.Grammar.{IsObject}
use Rattle.macho_model.specs.Links.{Link, SectionId, object_of, carried_of}
use Rattle.macho_model.specs.Needs.{relocation_in}
use Rattle.macho_model.specs.Fields.{content_of}
use Rattle.macho_object.specs.Views.{FileBytes}
use Rattle.macho_needs.specs.Noted.{IsRelocationOf, pointer_of}
use Rattle.macho_relocation_scan.specs.declared.pairs.Seen.{Seen}
use Rattle.macho_relocation_scan.specs.steps.Windows.{window_in}
use Rattle.macho_relocation_scan.specs.steps.Sections.{is_plain, addend_by, pointer_at}
use Rattle.macho_relocation_scan.proofs.Supporting.{window_of}
use Rattle.macho_relocation_scan.proofs.Pointed.{pointer_is}
use Rattle.macho_relocation_scan.proofs.Judging.{IsJudged}

module _ (l : Link) (s : SectionId) (r : ℕ) (object : FileBytes) (bytes : List ℕ) (seen : Seen) (same : object_of l s.file ≡ object.bytes)
    (bytes_are : bytes ≡ section_bytes object.bytes s.section) (seen_is : seen ≡ window_in object.bytes s.section r)
    (bits : BitsFit seen.this) where
  pub seen_of : seen ≡ window_of l s r
  seen_of = seen_is ∙ ap (λ b. window_in b s.section r) (sym same)

  pub is_relocation : s.section < num_sections object.bytes → r < (section_at object.bytes s.section).nreloc
      → IsRelocationOf l s r object seen.this
  is_relocation among there = record {
    object_is = same;
    section = among;
    number = subst (λ b. r < (section_at b s.section).nreloc) (sym same) there;
    is = ap (λ (w : Seen). w.this) seen_of;
  }

  small : (relocation_in l s r).r_length < 4
  small = subst (λ (w : Seen). w.this.r_length < 4) seen_of (omega (arith, bits.length))

  pub pointer_told : (pointer : Option ℕ) → pointer ≡ (if is_plain seen then Some
      (addend_by object.bytes seen.this (le_at 8 bytes seen.this.r_address)) else None) → pointer ≡ pointer_of l s r
  pointer_told pointer is =
      is ∙ ap (λ (w : Seen). if is_plain w then Some (addend_by object.bytes w.this (le_at 8 bytes w.this.r_address)) else None) seen_is
      ∙ ap (λ bs. if is_plain (window_in object.bytes s.section r) then Some
      (addend_by object.bytes (relocation_at object.bytes s.section r) (le_at 8 bs (relocation_at object.bytes s.section r).r_address))
      else None) bytes_are
      ∙ ap (λ b. pointer_at b s.section r) (sym same) ∙ pointer_is l s r small

  word_told : (word : ℕ) → (seen.this.r_length ≡ 2 → word ≡ le_at 4 bytes seen.this.r_address) → (relocation_in l s r).r_length ≡ 2
      → word ≡ content_of l s r
  word_told word is long =
      let long_seen : seen.this.r_length ≡ 2 = ap (λ (w : Seen). w.this.r_length) seen_of ∙ long in
      is long_seen ∙ ap (λ (w : Seen). le_at 4 bytes w.this.r_address) seen_of
      ∙ ap (λ bs. le_at 4 bs (relocation_in l s r).r_address) (bytes_are ∙ ap (λ b. section_bytes b s.section) (sym same))
      ∙ ap (λ n. le_at (2 ^ n) (section_bytes (object_of l s.file) s.section) (relocation_in l s r).r_address) (sym long)

  pub is_judged : IsObject object.bytes → s.section < num_sections object.bytes → Contains (carried_of l) s
      → r < (section_at object.bytes s.section).nreloc
      → (word : ℕ) → (seen.this.r_length ≡ 2 → word ≡ le_at 4 bytes seen.this.r_address) → IsJudged l s r word
  is_judged whole among carried there word is = record {
    object = subst IsObject (sym same) whole;
    among = subst (λ b. s.section < num_sections b) (sym same) among;
    carried = carried;
    there = subst (λ b. r < (section_at b s.section).nreloc) (sym same) there;
    small = small;
    word_is = word_told word is;
  }
