-- How a refusal is told by a fault.
use Rattle.std.specs.Prelude.{◌≡◌, ◌⊎◌}
use Rattle.macho_job.specs.declared.fault.Fault.{Fault}
use Rattle.macho_job.specs.declared.fault.Fault.TheVariants.{OutOfMemory}

-- Want of memory is want of memory everywhere; any other refusal is kept, in this fault.
abbrev pub Tells : {E : Type 0} → (refusal memory : E) → (keeping fault : Fault) → Type 0
Tells refusal memory keeping fault = ((refusal ≡ memory) × (fault ≡ OutOfMemory)) ⊎ ((refusal ≡ memory → ⊥) × (fault ≡ keeping))
