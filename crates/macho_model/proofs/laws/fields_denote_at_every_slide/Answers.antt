-- The lemmas say just this; whole pages of 16 KiB are whole pages of 4 KiB.
use Rattle.std.proofs.Common.{◌≡◌, ℕ, ◌%◌, arith}
use Rattle.macho_model.proofs.FieldSlides.{denotes_at_every_slide}
use Rattle.macho_model.proofs.PointerFixups.{pointer_denotes, import_pointer_denotes}
use Rattle.macho_model.proofs.laws.fields_denote_at_every_slide.Goals as goal

small_pages : (s : ℕ) → s % 16384 ≡ 0 → s % 4096 ≡ 0
small_pages s h = omega (arith, h)

pub returns-clause-plain : goal.returns-clause-plain
returns-clause-plain c = λ l b p s first second q f whole. denotes_at_every_slide l b p s first second q f (small_pages s whole)

pub returns-clause-moved : goal.returns-clause-moved
returns-clause-moved c = pointer_denotes

pub returns-clause-bound : goal.returns-clause-bound
returns-clause-bound c = import_pointer_denotes
