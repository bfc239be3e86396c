-- Why the reading stops.
--
-- Where the first entries are read and the next one begins in the file, an archive has more entries than were read: otherwise it would end
-- at or before that place. So the next entry keeps each rule, and the reading stops for want of memory alone.
use Rattle.std.proofs.Common.{◌≡◌, ℕ, ◌<◌, true, false, List, length, sym, ap, subst, ◌∙◌, arith, refl, inl, inr}
use Rattle.std.proofs.lemmas.Bool.{cases_lt}
use Rattle.macho_archive.specs.Entries.{Content, keeps}
use Rattle.macho_archive.specs.Archives.{IsEntry, IsArchive, HasMembers, IsBroken, IsRefused, place_of, names_before, members_of}
use Rattle.macho_archive.specs.declared.fault.ArchiveRule.{ArchiveRule}
use Rattle.macho_archive.specs.declared.fault.ArchiveRule.TheVariants.{A1, A2, A3, A4, A5, A6}
use Rattle.macho_archive.specs.declared.fault.ArchiveFault.{ArchiveFault}
use Rattle.macho_archive.specs.declared.fault.ArchiveFault.TheVariants.{Broken, OutOfMemory}
use Rattle.macho_archive.specs.declared.archive.Reading.{Reading}
use Rattle.macho_archive.specs.steps.Reads.{HasRead, IsStopped}

differ : false ≡ true → ⊥
differ h = cc

-- an archive doesn't end in front of an entry that begins in it
not_behind : (b : List ℕ) (n count : ℕ) → IsArchive b count → ((k : ℕ) → k < n → IsEntry b k) → place_of b n < length b → n < count
not_behind b n count archive each within =
    elim (cases_lt n count) [
      | inl lt ↦ lt
      | inr ge ↦ elim (cases_lt count n) [
        | inl less ↦ absurd (let e = (each count less).within in omega (arith, e, archive.ends))
        | inr more ↦ let same : n ≡ count = omega arith in absurd (let e = subst (λ k. place_of b k < length b) same within in omega (
          arith,
          e,
          archive.ends,
        ))
      ]
    ]

-- the bytes are an archive of one number of entries
pub one_count : (b : List ℕ) (n m : ℕ) → IsArchive b n → IsArchive b m → n ≡ m
one_count b n m x y =
    elim (cases_lt n m) [
      | inl lt ↦ absurd (omega (arith, (y.each n lt).within, x.ends))
      | inr ge ↦ elim (cases_lt m n) [ inl lt ↦ absurd (omega (arith, (x.each m lt).within, y.ends)) | inr le ↦ omega arith ]
    ]

-- the members of an archive are one list
pub one_list : (b : List ℕ) (xs ys : List Content) → HasMembers b xs → HasMembers b ys → xs ≡ ys
one_list b xs ys x y = x.all ∙ ap (members_of b) (one_count b x.count y.count x.whole y.whole) ∙ sym y.all

-- the entry that is read next is one of the archive's
next_kept : (b : List ℕ) (r : Reading) (count : ℕ) → HasRead b r → r.at < length b → IsArchive b count → (rule : ArchiveRule)
    → keeps b r.table.now r.at rule ≡ true
next_kept b r count has within archive rule =
    let more : has.count < count = not_behind b has.count count archive has.each (subst (λ p. p < length b) has.at within) in
    let kept = (archive.each has.count more).kept rule in
    subst (λ p. keeps b r.table.now p rule ≡ true) (sym has.at)
    (subst (λ t. keeps b t (place_of b has.count) rule ≡ true) (sym has.table) kept)

broken : (b : List ℕ) (r : Reading) (rule : ArchiveRule) (place : ℕ) → HasRead b r → r.at < length b → place ≡ r.at
    → keeps b r.table.now r.at rule ≡ false → IsBroken b rule place
broken b r rule place has within is breaks =
    let here : place ≡ place_of b has.count = is ∙ has.at in
    record {
      number = has.count;
      magic = has.magic;
      before = has.each;
      is = here;
      within = subst (λ p. p < length b) (sym is) within;
      broken = subst (λ p. keeps b (names_before b has.count) p rule ≡ false) (sym is)
          (subst (λ t. keeps b t r.at rule ≡ false) has.table breaks);
    }

-- the refusal is right
pub refused : (b : List ℕ) (r : Reading) (fault : ArchiveFault) → HasRead b r → r.at < length b
    → IsStopped b r.table.now r.at fault → IsRefused b fault
refused b r (Broken A1 place) has within stopped = absurd stopped
refused b r (Broken A2 place) has within stopped = broken b r A2 place has within stopped.0 stopped.1
refused b r (Broken A3 place) has within stopped = broken b r A3 place has within stopped.0 stopped.1
refused b r (Broken A4 place) has within stopped = broken b r A4 place has within stopped.0 stopped.1
refused b r (Broken A5 place) has within stopped = broken b r A5 place has within stopped.0 stopped.1
refused b r (Broken A6 place) has within stopped = broken b r A6 place has within stopped.0 stopped.1
refused b r OutOfMemory has within stopped = tt

-- an archive is refused for want of memory alone
pub no_memory : (b : List ℕ) (r : Reading) (fault : ArchiveFault) (n : ℕ) → HasRead b r → r.at < length b
    → IsStopped b r.table.now r.at fault → IsArchive b n → fault ≡ OutOfMemory
no_memory b r (Broken A1 place) n has within stopped archive = absurd stopped
no_memory b r (Broken A2 place) n has within stopped archive = absurd (differ (sym stopped.1 ∙ next_kept b r n has within archive A2))
no_memory b r (Broken A3 place) n has within stopped archive = absurd (differ (sym stopped.1 ∙ next_kept b r n has within archive A3))
no_memory b r (Broken A4 place) n has within stopped archive = absurd (differ (sym stopped.1 ∙ next_kept b r n has within archive A4))
no_memory b r (Broken A5 place) n has within stopped archive = absurd (differ (sym stopped.1 ∙ next_kept b r n has within archive A5))
no_memory b r (Broken A6 place) n has within stopped archive = absurd (differ (sym stopped.1 ∙ next_kept b r n has within archive A6))
no_memory b r OutOfMemory n has within stopped archive = refl
