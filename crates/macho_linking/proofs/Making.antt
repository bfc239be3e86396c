-- What is made of the consumed sections of a planned link: offsets of initializers, and unwind information.
--
-- Their ranges end in the file and have the room of the texts. The symbols of all rows are kept, so they are known. Then each text is
-- put at the front of its range.
use Rattle.std.proofs.Common.{◌≡◌, ℕ, ◌+◌, ◌-◌, ◌*◌, ◌≤◌, ◌++◌, List, length, drop, refl, ap, ◌∙◌, sym, subst, arith, All, Option, Some, None}
use Rattle.std.specs.Prelude.{map, IfSome}
use borrow.Rule.Slice.PartMut.{put_mid, mid_of}
use Rattle.macho_bytes.specs.Texts.{put}
use Rattle.macho_bytes.proofs.Writes.{put_mid-front, put_mid-whole}
use Rattle.macho_model.specs.Links.{Link}
use Rattle.macho_model.specs.Addresses.{offset_in_file}
use Rattle.macho_model.specs.WrittenSum.{INITIALIZER_SIZE}
use Rattle.macho_symbols.specs.Kept.{ResolvedRows, HasSymbol}
use Rattle.macho_promise_laws.specs.PersonalityUse.{PersonalityUse}
use Rattle.macho_fields.specs.Looks.{Look}
use Rattle.macho_promise_laws.specs.Entries.{resolved_row, MayBeBuilt, KnowsPersonality}
use Rattle.macho_promise_laws.specs.Made.{IsOffsetsText, IsUnwindMade}
use Rattle.macho_promise_laws.specs.Laws.{RangesFit}
use Rattle.macho_promise_laws.proofs.Fitting.{texts_fit}
use Rattle.macho_promise_laws.proofs.Sound.{rows_sound}
use Rattle.macho_linking.specs.declared.planned.Planned.{Planned}
use Rattle.macho_linking.specs.steps.Planned.{IsPlanned, IsLooked, KnowsAll, placement_of, counts_of}
use Rattle.macho_linking.specs.steps.Written.{OffsetsArePut, UnwindIsPut}
use Rattle.macho_linking.proofs.Ready.{planned_to_make}

pub ranges_fit : (l : Link) (b : Planned) → IsPlanned l b → RangesFit l (placement_of b)
ranges_fit l b h = texts_fit l (counts_of b) (placement_of b) (planned_to_make l b h)

-- an offset for each row that was read fills its range
pub rows_fill : (l : Link) (b : Planned) → IsPlanned l b
    → INITIALIZER_SIZE * length b.read.now.initializers.items ≡ (placement_of b).init_offsets.end - (placement_of b).init_offsets.start
rows_fill l b h = omega (arith, ap (λ (rows : _). length rows) h.read.initializers, (ranges_fit l b h).rows)

-- the symbol of an entry's personality is known
personality_known : (resolved : ResolvedRows) (has_symbol : ℕ → ℕ → Type 0) (file : ℕ) (used : Option PersonalityUse)
    → ((f s : ℕ) → HasSymbol resolved f s → has_symbol f s) → IfSome used (λ u. HasSymbol resolved file u.relocation.r_symbolnum)
    → IfSome used (λ u. has_symbol file u.relocation.r_symbolnum)
personality_known resolved has_symbol file None knows here = tt
personality_known resolved has_symbol file (Some u) knows here = knows file u.relocation.r_symbolnum here

pub entries_known : (l : Link) (b : Planned) (has_symbol : ℕ → ℕ → Type 0) → IsPlanned l b → KnowsAll b has_symbol
    → All (KnowsPersonality has_symbol) b.read.now.entries.items
entries_known l b has_symbol h knows k d lt =
    personality_known b.read.now.needs.resolved has_symbol _ _ knows (h.known.entries k d lt)

-- unwind information can be made of the entries
pub entries_sound : (l : Link) (b : Planned) (look : Look) → IsLooked l b look
    → MayBeBuilt look.base (map (resolved_row look b.read.now.needs.tables.slots) b.read.now.entries.items)
entries_sound l b look h =
    let slots = b.read.now.needs.tables.slots in
    subst (λ (es : _). MayBeBuilt look.base (map (resolved_row look slots) es)) (sym h.planned.read.entries)
    (rows_sound l (counts_of b) (placement_of b) look slots (planned_to_make l b h.planned) h.tells h.planned.read.needs.slots)

pub offsets_put : (l : Link) (b : Planned) (at k : ℕ) (text out : List ℕ) → IsPlanned l b
    → length out ≡ (placement_of b).linkedit.signature.end
    → at ≡ offset_in_file (placement_of b) (placement_of b).init_offsets.start → k ≡ length text → IsOffsetsText l (placement_of b) text
    → OffsetsArePut l (placement_of b) out (put_mid at k out text)
offsets_put l b at k text out h long place whole says = record {
  text = text;
  is = put_mid-whole at k out text text whole (omega (arith, fits.offsets text says, fits.offsets_end, place, long)) refl
      ∙ ap (λ (a : ℕ). put a text out) place;
  fits = omega (arith, fits.offsets text says);
  says = says;
}
  where
    fits : RangesFit l (placement_of b)
    fits = ranges_fit l b h

-- a text that is put at the front of `&mut out[at..]` is put at the place
front_put : (at k : ℕ) (text written out : List ℕ) → at + length text ≤ length out → k ≡ length out - at
    → written ≡ put 0 text (mid_of at k out) → put_mid at k out written ≡ put at text out
unfolding put
front_put at k text written out fits behind is =
    let same : 0 + length text ≡ length text = omega arith in
    put_mid-front at k out text written behind fits (is ∙ ap (λ (n : ℕ). text ++ drop n (mid_of at k out)) same)

pub unwind_put : (l : Link) (b : Planned) (at k : ℕ) (text written out : List ℕ) → IsPlanned l b
    → length out ≡ (placement_of b).linkedit.signature.end
    → at ≡ offset_in_file (placement_of b) (placement_of b).unwind.start → k ≡ length out - at → written ≡ put 0 text (mid_of at k out)
    → IsUnwindMade l (placement_of b) text → UnwindIsPut l (placement_of b) out (put_mid at k out written)
unwind_put l b at k text written out h long place behind is says = record {
  text = text;
  is = front_put at k text written out (omega (arith, fits.unwind text says, fits.unwind_end, place, long)) behind is
      ∙ ap (λ (a : ℕ). put a text out) place;
  fits = fits.unwind text says;
  says = says;
}
  where
    fits : RangesFit l (placement_of b)
    fits = ranges_fit l b h
