-- What the linker refuses.
--
-- Of the fault that is told, want of memory says nothing, and any other refusal is kept with its word. So what is known of the
-- refusal, of bytes by their head or of a made object, is known of the fault. The linker's refusal of bytes of a kind is want of
-- memory, or one of bytes with the head of that kind.
use Rattle.std.proofs.Common.{◌≡◌, ℕ, inl, inr, refl, sym, subst, List, Result, Err}
use Rattle.std.specs.Prelude.{IfErr}
use Rattle.macho_answer.specs.declared.fault.LinkError.{LinkError}
use Rattle.macho_answer.specs.declared.fault.LinkError.TheVariants as error
use Rattle.macho_answer.specs.declared.fault.InputFault.TheVariants as broken
use Rattle.macho_linker.specs.Refusals.{ObjectRefused, DylibRefused}
use Rattle.macho_job.specs.declared.fault.Fault.{Fault}
use Rattle.macho_job.specs.declared.fault.Fault.TheVariants.{Input}
use Rattle.macho_job.specs.declared.heads.Head.{Head}
use Rattle.macho_job.specs.declared.heads.Head.TheVariants as head
use Rattle.macho_job.specs.Generator.{generated_object}
use Rattle.macho_job.specs.Heads.{head_of}
use Rattle.macho_job.specs.Causes.{BytesRefused}
use Rattle.macho_job.specs.Refused.{Tells}
use Rattle.macho_job.specs.steps.Gathering.{TextRefused, BytesFail}
use Rattle.macho_job.specs.steps.Parts.{MadeFails}

-- the linker's refusals that aren't want of memory
pub kept_object : (bytes : List ℕ) (e : LinkError) → ObjectRefused bytes e → (e ≡ error.OutOfMemory → ⊥)
    → BytesRefused head.Object bytes e
kept_object bytes (error.BadInput (broken.Object f)) why other = why
kept_object bytes error.OutOfMemory why other = absurd (other refl)
kept_object bytes refusal why other = absurd why

pub kept_dylib : (bytes : List ℕ) (e : LinkError) → DylibRefused bytes e → (e ≡ error.OutOfMemory → ⊥) → BytesRefused head.Dylib bytes e
kept_dylib bytes (error.BadInput (broken.Object f)) why other = why
kept_dylib bytes error.OutOfMemory why other = absurd (other refl)
kept_dylib bytes refusal why other = absurd why

pub kept_text : (bytes : List ℕ) (e : LinkError) → TextRefused bytes e → (e ≡ error.OutOfMemory → ⊥) → BytesRefused head.Stub bytes e
kept_text bytes (error.BadInput (broken.Stub line rule)) (inl why) other = inl (why.0, why.1)
kept_text bytes (error.BadInput (broken.Stub line rule)) (inr why) other = inr why
kept_text bytes error.OutOfMemory why other = absurd (other refl)
kept_text bytes refusal (inl why) other = absurd why
kept_text bytes refusal (inr why) other = absurd why

-- by the refusal
bytes_fail : (word : ℕ) (bytes : List ℕ) (e : LinkError) (f : Fault)
    → ((e ≡ error.OutOfMemory → ⊥) → BytesRefused (head_of bytes) bytes e)
    → Tells e error.OutOfMemory (Input word e) f → BytesFail word bytes f
bytes_fail word bytes e f refused (inl told) = subst (BytesFail word bytes) (sym told.1) tt
bytes_fail word bytes e f refused (inr told) = subst (BytesFail word bytes) (sym told.1) (refl, refused told.0)

-- by what the linker answered
pub answer_fails : (word : ℕ) (bytes : List ℕ) (h : Head) (Refused : LinkError → Type 0) (r : Result ℕ LinkError) (e : LinkError)
    (f : Fault) → ((x : LinkError) → Refused x → (x ≡ error.OutOfMemory → ⊥) → BytesRefused h bytes x) → head_of bytes ≡ h
    → r ≡ Err e → IfErr r Refused → Tells e error.OutOfMemory (Input word e) f → BytesFail word bytes f
answer_fails word bytes h Refused r e f kept begins is why told =
    bytes_fail word bytes e f (λ other. subst (λ (k : Head). BytesRefused k bytes e) (sym begins)
    (kept e (subst (λ (s : Result ℕ LinkError). IfErr s Refused) is why) other)) told

-- of a made object
pub made_fails : (index count : ℕ) (e : LinkError) (f : Fault) → ObjectRefused (generated_object index count) e
    → Tells e error.OutOfMemory (Input index e) f → MadeFails index count f
made_fails index count e f refused (inl told) = subst (MadeFails index count) (sym told.1) tt
made_fails index count e f refused (inr told) =
    subst (MadeFails index count) (sym told.1) (refl, kept_object (generated_object index count) e refused told.0)
