-- The signature of a planned link.
--
-- The signer is the link's: the first `__TEXT` is the only one. The signature's range has just the room that its text takes. What is
-- signed stands in front of the range, so the file has the same signature before and after it is put.
use Rattle.std.proofs.Common.{◌≡◌, ℕ, ◌+◌, ◌<◌, ◌≤◌, ◌^◌, List, length, get_or, refl, sym, ap, subst, ◌∙◌, arith, rules, Bor, Bool}
use Rattle.macho_bytes.specs.Texts.{put}
use Rattle.macho_bytes.proofs.Puts.{length-put, get_or-put_below}
use Rattle.macho_bytes.proofs.Layouts.{length-spelling}
use Rattle.macho_bytes.proofs.Numbers.{big_is_sound}
use Rattle.macho_model.specs.declared.placed.PlacedSegment.{PlacedSegment}
use Rattle.macho_model.specs.Links.{Link}
use Rattle.macho_model.specs.Faults.{last_part}
use Rattle.macho_model.specs.Placement.{Placed}
use Rattle.macho_model.specs.Signature.{Signed, signature_text}
use Rattle.macho_signature.specs.Sizes.{directory_for, signature_size, signed_by}
use Rattle.macho_signature.specs.declared.signature.Signer.{Signer}
use Rattle.macho_signature.proofs.Texts.{length-signature}
use Rattle.macho_signature.proofs.Files.{AgreeBelow, signature-alike}
use Rattle.macho_head.specs.Signing.{IsSignerOf}
use Rattle.macho_promise_laws.proofs.FoundSizes.{signatures_fill}
use Rattle.macho_linking.specs.declared.planned.Planned.{Planned}
use Rattle.macho_linking.specs.steps.Planned.{IsPlanned, placement_of, counts_of}
use Rattle.macho_linking.specs.steps.Written.{SignatureIsPut}
use Rattle.macho_linking.specs.steps.Sealing.{IsTextSize}
use Rattle.macho_linking.proofs.FirstText.{first_size, size_of_text}
use Rattle.macho_wire.specs.Spellings.{code_directory_rows}

-- what a signer says of a planned link
pub record Says (b : Planned) (signer : Signer) : Type 0 where
  pub name : signer.identifier.now ≡ last_part b.linker.now.output
  pub executable : signer.executable ≡ b.linker.now.executable
  pub offset : signer.text_offset ≡ 0
  pub size : IsTextSize (placement_of b).segments signer.text_size

pub says_of : (b : Planned) (signer : Signer) (segments : List PlacedSegment) → signer.identifier.now ≡ last_part b.linker.now.output
    → signer.executable ≡ b.linker.now.executable
    → signer.text_offset ≡ 0 → segments ≡ (placement_of b).segments → IsTextSize segments signer.text_size → Says b signer
says_of b signer segments name executable offset same size = record {
  name = name;
  executable = executable;
  offset = offset;
  size = subst (λ (ss : List PlacedSegment). IsTextSize ss signer.text_size) same size;
}

signs : (l : Link) (b : Planned) (signer : Signer) → IsPlanned l b → Says b signer → IsSignerOf l (placement_of b) signer
unfolding first_size
signs l b signer h says = record {
  name = says.name ∙ sym (ap (λ (k : Link). last_part k.output) h.inputs.arguments);
  executable = says.executable ∙ sym (ap (λ (k : Link). k.executable) h.inputs.arguments);
  offset = says.offset;
  size = λ s has named. says.size ∙ size_of_text l (placement_of b).segments s h.sized.placed.placed.follow has named;
}

-- the signer by the parts that a planned link has
abbrev pub signer_of : Bor (List ℕ) → ℕ → Bool → Signer
signer_of identifier size executable = record { identifier = identifier; text_offset = 0; text_size = size; executable = executable }

-- what is owed to the one who signs
pub record SignatureIsOwed (p : Placed) (signer : Signer) : Type 0 where
  pub limit : p.linkedit.signature.start < 2 ^ 32
  pub small : signature_size (length signer.identifier.now) p.linkedit.signature.start < 2 ^ 32
  pub ends : p.linkedit.signature.end
      ≡ p.linkedit.signature.start + signature_size (length signer.identifier.now) p.linkedit.signature.start

pub signature_owed : (l : Link) (b : Planned) (signer : Signer) → IsPlanned l b → Says b signer → SignatureIsOwed (placement_of b) signer
signature_owed l b signer h says =
    let ends = signatures_fill l (counts_of b) (placement_of b) signer h.sized.placed h.sized.counted (signs l b signer h says) in
    let low = h.sized.limits.ranges (placement_of b).linkedit.signature (4, omega arith, refl) in
    record { limit = omega (arith, ends, low); small = omega (arith, ends, low); ends = ends }

-- THE signature
pub signature_put : (l : Link) (b : Planned) (signer : Signer) (before now : List ℕ) → IsPlanned l b → Says b signer
    → length before ≡ (placement_of b).linkedit.signature.end
    → now ≡ put (placement_of b).linkedit.signature.start
    (signature_text (signed_by signer (placement_of b).linkedit.signature.start) before) before
    → SignatureIsPut l (placement_of b) before now
signature_put l b signer before now h says whole is =
    let limit : ℕ = (placement_of b).linkedit.signature.start in
    let s : Signed = signed_by signer limit in
    let owed = signature_owed l b signer h says in
    let long : length (signature_text s before) ≡ signature_size (length signer.identifier.now) limit =
    length-signature s before (length-spelling code_directory_rows (directory_for s) big_is_sound (search rules)) in
    let fits : limit + length (signature_text s before) ≤ length before = omega (arith, long, whole, owed.ends) in
    let alike : AgreeBelow limit before now = record {
      first = omega (arith, fits);
      second = omega (arith, fits, ap length is, length-put limit (signature_text s before) before fits);
      same = λ i lt. sym (ap (λ (b : List ℕ). get_or b i 0) is ∙ get_or-put_below limit (signature_text s before) before i fits lt);
    } in
    let same : signature_text s before ≡ signature_text s now = signature-alike s before now alike in
    record {
      text = signature_text s now;
      is = is ∙ ap (λ (t : List ℕ). put limit t before) same;
      fits = omega (arith, long, ap length same, owed.ends);
      says = record { signer = signer; signs = signs l b signer h says; is = refl };
    }
