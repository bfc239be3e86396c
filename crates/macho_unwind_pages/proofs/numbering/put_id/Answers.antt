-- An id is put in its place among rising ids, unless it is there.
--
-- All ids before the place are lesser. If the place is inside the list, its id is not lesser; if it is another one, it is
-- greater. So the id is put between the lesser ones and a greater one, or at the end, and that is its place. If the id
-- stands at the place, nothing is to be put.
use Rattle.std.proofs.Common.{◌<◌, length, slice_index, sym, ◌∙◌, arith}
use Rattle.std.proofs.lemmas.List.{get_or_read}
use Rattle.macho_unwind_pages.proofs.Numbers.{put-new, put-there}
use Rattle.macho_unwind_pages.proofs.numbering.put_id.Goals as goal
use Rattle.macho_unwind_pages.proofs.numbering.put_id.Goals.{then-loop-place-test+else-index-id, else-loop-place-test, then-place-len-via-then-place-len, then-place-len-via-else-place-len+then-index-id-2}

pub returns-in_ok-insert : goal.returns-in_ok-insert
returns-in_ok-insert c =
    let next : c.loop-place.place < length c.args.ids.now.items → c.args.id < slice_index c.args.ids.now.items c.loop-place.place
    = elim c.loop-place-test.branch [
      | then-loop-place-test+else-index-id w ↦ elim c.then-place-len.branch [
        | then-place-len-via-then-place-len v ↦ λ h.
            absurd (omega (arith, w.loop-place-test.true, v.if-place-len.true, c.len-2.ensures, c.len.ensures))
        | then-place-len-via-else-place-len+then-index-id-2 v ↦ λ h. omega (
          arith,
          get_or_read c.args.ids.now.items _ _ h w.index.ensures 0,
          get_or_read c.args.ids.now.items _ _ h v.index-else-place-len.ensures 0,
          w.if-index-id.false,
          v.if-index-id-2.true,
        )
      ]
      | else-loop-place-test w ↦ λ h. absurd (omega (arith, w.loop-place-test.false, c.len.ensures))
    ] in
    record {
      done = c.in_ok-insert.ensures.items
          ∙ put-new c.loop-place.place c.args.ids.now.items c.args.id c.loop-place.invariant.within c.loop-place.invariant.lesser next;
    }

pub returns-else-index-id-2 : goal.returns-else-index-id-2
returns-else-index-id-2 c =
    let within : c.loop-place.place < length c.args.ids.now.items
    = omega (arith, c.if-place-len.false, c.loop-place.invariant.within, c.len-2.ensures) in
    record {
      done = put-there c.loop-place.place c.args.ids.now.items c.args.id within c.loop-place.invariant.lesser
          (sym (get_or_read c.args.ids.now.items _ _ within c.index-else-place-len.ensures 0) ∙ c.if-index-id-2.false);
    }
