-- The laws on the room for a table, and that a segment without a fixup has no pages.
--
-- A fixup of a segment is below its end, so its page is one of those that the file part covers, counted from a segment
-- that begins at a page: the greatest of these counts is no more than all. Rounding up keeps order, and so do sums.
use Rattle.std.proofs.Common.{◌≡◌, ◌+◌, ◌-◌, ◌*◌, ◌/◌, ◌≤◌, Bool, false, get_or, arith, ap, inl, inr, if◌then◌else◌}
use Rattle.std.proofs.Math.Nat.{mul-le-mul_left}
use Rattle.std.proofs.lemmas.Bool.{cases_lt}
use Rattle.macho_model.specs.Segments.{SEGMENT_PAGE}
use Rattle.macho_fixups.specs.declared.run.Fixup.{Fixup}
use Rattle.macho_fixups.specs.Runs.{pages_of, is_in}
use Rattle.macho_fixups.specs.steps.Runs.{pages_with}
use Rattle.macho_fixups.specs.Laws.{PagesAreBounded, RoomGrows, NoFixupNoPages}
use Rattle.macho_fixups.proofs.Cuts.{pages_of-below, pages_with-in, pages_with-out}

-- a segment's pages
pub pages_bounded : PagesAreBounded
pages_bounded s fixups whole =
    pages_of-below s fixups ((s.file_size + (SEGMENT_PAGE - 1)) / SEGMENT_PAGE) (λ k d lt. of_one (get_or fixups k d))
  where
    of_one : (f : Fixup) → pages_with s f ≤ (s.file_size + (SEGMENT_PAGE - 1)) / SEGMENT_PAGE
    of_one f = elim (cases_lt f.address s.address) [
      | inl low ↦ omega (arith, pages_with-out s f (inl low))
      | inr from ↦ elim (cases_lt f.address (s.address + s.file_size)) [
        | inr past ↦ omega (arith, pages_with-out s f (inr past))
        | inl below ↦ omega (arith, pages_with-in s f from below, whole, from, below)
      ]
    ]

-- the room
pub room_grows : RoomGrows
room_grows size entries more_entries names more_names pages more_pages a b c =
    let product : size * entries ≤ size * more_entries = mul-le-mul_left size a in omega (arith, product, b, c)

-- no fixup, no pages
pub none_no_pages : NoFixupNoPages
none_no_pages s fixups none =
    let few : pages_of s fixups ≤ 0 = pages_of-below s fixups 0 (λ k d lt. of_none (get_or fixups k d) (none k d lt)) in omega (arith, few)
  where
    of_none : (f : Fixup) → is_in s f.address ≡ false → pages_with s f ≤ 0
    of_none f out =
        let is : pages_with s f ≡ 0 = ap (λ (t : Bool). if t then f.address / SEGMENT_PAGE - s.address / SEGMENT_PAGE + 1 else 0) out in
        omega
        (arith, is)
