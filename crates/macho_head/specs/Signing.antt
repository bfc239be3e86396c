-- When a signature that stands in a file is that of the link.
use Rattle.std.specs.Prelude.{◌≡◌, ℕ, true, List, length, Contains}
use Rattle.macho_bytes.specs.Texts.{Stands}
use Rattle.macho_model.specs.declared.placed.Counts.{Counts}
use Rattle.macho_model.specs.declared.placed.PlacedSegment.{PlacedSegment}
use Rattle.macho_model.specs.Links.{Link}
use Rattle.macho_model.specs.Segments.{TEXT}
use Rattle.macho_model.specs.Placement.{Placed, IsPlaced, is_segment_named}
use Rattle.macho_model.specs.Faults.{last_part}
use Rattle.macho_model.specs.HeadCommands.{CommandsSay}
use Rattle.macho_model.specs.Signature.{signature_text, IsSigned}
use Rattle.macho_signature.specs.declared.signature.Signer.{Signer}
use Rattle.macho_signature.specs.Sizes.{signed_by}
use Rattle.macho_placed_laws.specs.Sizes.{AreCounts}
use Rattle.macho_placed_laws.specs.Promise.{IsLaidOut}

-- The signer says the name of the link's output without its folders, what it is, and where its `__TEXT` is in the file.
pub record IsSignerOf (l : Link) (p : Placed) (signer : Signer) : Type 0 where
  pub name : signer.identifier.now ≡ last_part l.output
  pub executable : signer.executable ≡ l.executable
  pub offset : signer.text_offset ≡ 0
  pub size : (s : PlacedSegment) → Contains p.segments s → is_segment_named TEXT s ≡ true → signer.text_size ≡ s.file_size

-- a signature of what stands in front of it, in the range of a file that ends with it
abbrev pub SignatureIsSaid : Type 0
SignatureIsSaid =
    (l : Link) (counts : Counts) (uuid b : List ℕ) (p : Placed) (signer : Signer) → CommandsSay l counts uuid b p → AreCounts l counts
    → IsPlaced l counts p
    → IsLaidOut l counts p → IsSignerOf l p signer → length b ≡ p.linkedit.signature.end
    → Stands b (record { at = p.linkedit.signature.start; text = signature_text (signed_by signer p.linkedit.signature.start) b })
    → IsSigned l b
