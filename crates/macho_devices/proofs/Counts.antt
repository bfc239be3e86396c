-- Counts over several calls: each goes on from the one before, so it goes on in all; and where it rose in one of them, it rose in all.
use Rattle.std.proofs.Common.{ℕ, inl, inr, arith, ◌∙◌}
use Rattle.std.proofs.lemmas.Bool.{cases_lt}
use Rattle.macho_args.specs.Store.{FileSystem}
use Rattle.macho_devices.specs.Devices.{OnlyReads}
use Rattle.macho_devices.specs.Faults.{CountsOn, CountRose}

-- counts go on
pub counts-since : (old mid new : ℕ) → CountsOn old mid → CountsOn mid new → CountsOn old new
counts-since old mid new before after =
    record {
      never_falls = omega (arith, before.never_falls, after.never_falls);
      never_passes = λ low. after.never_passes (before.never_passes low);
    }

-- a count that rose rose since an earlier value
pub rose-since : (old mid new : ℕ) → CountsOn old mid → CountsOn mid new → CountRose mid new → CountRose old new
rose-since old mid new before after (inl rose) = inl (omega (arith, before.never_falls, rose))
rose-since old mid new before after (inr stood) =
    elim (cases_lt old new) [
      | inl below ↦ inl below
      | inr above ↦ inr (omega (arith, before.never_falls, after.never_falls, stood, above))
    ]

-- two rows of reads are one
pub reads-since : (old mid new : FileSystem) → OnlyReads old mid → OnlyReads mid new → OnlyReads old new
reads-since old mid new before after = record {
  counted = counts-since old.failed_reads mid.failed_reads new.failed_reads before.counted after.counted;
  same_directories = after.same_directories ∙ before.same_directories;
  same_canonical_paths = after.same_canonical_paths ∙ before.same_canonical_paths;
  same_files = after.same_files ∙ before.same_files;
  same_failed_writes = after.same_failed_writes ∙ before.same_failed_writes;
}
