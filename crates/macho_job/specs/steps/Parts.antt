-- The parts of a made object as bytes, and what is known of an object that is made and added.
use Rattle.std.specs.Prelude.{◌≡◌, ℕ, List}
use Rattle.std.specs.List.{flat_map}
use Rattle.macho_bytes.specs.Numbers.{le_bytes}
use Rattle.macho_model.specs.Grammar.{IsObject}
use Rattle.macho_model.specs.Links.{Link, Object}
use Rattle.macho_model.specs.LinkLaws.{with_input}
use Rattle.macho_job.specs.declared.fault.Fault.{Fault}
use Rattle.macho_job.specs.declared.fault.Fault.TheVariants.{Input as InputFault, OutOfMemory}
use Rattle.macho_job.specs.declared.made.Part.{Part}
use Rattle.macho_job.specs.declared.made.Part.TheVariants.{Words, Longs, Text}
use Rattle.macho_job.specs.declared.heads.Head.TheVariants as head
use Rattle.macho_job.specs.Causes.{BytesRefused}
use Rattle.macho_job.specs.Generator.{generated_object}

abbrev pub part_bytes : Part → List ℕ
part_bytes (Words numbers) = flat_map (le_bytes 4) numbers.now
part_bytes (Longs numbers) = flat_map (le_bytes 8) numbers.now
part_bytes (Text text) = text.now

-- a made object is added
pub record TakesMade (index count : ℕ) (old new : Link) : Type 0 where
  pub object : IsObject (generated_object index count)
  pub added : new ≡ with_input old (Object (generated_object index count))

-- why it isn't
abbrev pub MadeFails : ℕ → ℕ → Fault → Type 0
MadeFails index count (InputFault at refusal) = (at ≡ index) × BytesRefused head.Object (generated_object index count) refusal
MadeFails index count OutOfMemory = Unit {0}
MadeFails index count fault = ⊥
