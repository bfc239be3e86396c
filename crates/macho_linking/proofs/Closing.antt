-- The answer of a link, by those of its passes.
--
-- A refusal that stands for the sizes of the link is the link's. What was read, sized and placed is what an image is written from; and what
-- is
-- written then is as promised, with nothing that stands against it.
use Rattle.std.proofs.Common.{◌≡◌, ℕ, ◌<◌, ◌≤◌, ◌⊎◌, inl, inr, false, List, map, length, refl, sym, subst, All}
use Rattle.std.specs.Prelude.{Some, Result, Ok, Err, IfErr, IsErrAnd}
use Rattle.std.specs.Option.{option_copied}
use Rattle.std.proofs.lemmas.Bool.{cases_lt}
use Rattle.macho_layout.specs.Placements.{placed_of}
use Rattle.macho_model.specs.declared.placed.Counts.{Counts}
use Rattle.macho_model.specs.declared.targets.Limit.TheVariants as limit
use Rattle.macho_model.specs.Links.{Link}
use Rattle.macho_model.specs.Needs.{libraries_needed}
use Rattle.macho_model.specs.Faults.{LinkFault, FixupPlace, ImageTooLarge, RebaseTarget, RelocationRange, FaultStands, kept_placement, bad_name}
use Rattle.macho_model.specs.Told.{imports_told}
use Rattle.macho_layout_laws.specs.Laws.{NonePasses}
use Rattle.macho_promise.specs.Sizes.{AreCounts}
use Rattle.macho_answer.specs.declared.fault.LinkError.{LinkError}
use Rattle.macho_answer.specs.Standing.{IsStanding}
use Rattle.macho_linkedit.specs.declared.exports.NamedExport.{NamedExport}
use Rattle.macho_sizing.specs.Sized.{IsSizedOf}
use Rattle.macho_fields.specs.declared.fault.FillFault.TheVariants as fill
use Rattle.macho_promise_laws.specs.MadeFault.TheVariants as made
use Rattle.macho_model.specs.Grammar.{ObjectsAreRead}
use Rattle.macho_refusal_laws.specs.Valid.{ObjectsAreBytes}
use Rattle.macho_refusal_laws.specs.Inputs.{HasBytes}
use Rattle.macho_refusal_laws.proofs.Inputs.{inputs_are_read, inputs_are_bytes}
use Rattle.macho_refusal_laws.proofs.Told.{standing_is_told}
use Rattle.macho_refusal_laws.proofs.Kept.{late_is_standing}
use Rattle.macho_refusal_laws.proofs.Clear.{clear_is_unrefused}
use Rattle.macho_symbol_tables.proofs.Exported.{exports_are_told}
use Rattle.macho_answer.specs.declared.image.ImportName.{ImportName}
use Rattle.macho_answer.specs.Linked.{import_of, IsImageOf, IsRefused}
use Rattle.macho_answer.specs.declared.image.LinkedImage.{LinkedImage}
use Rattle.macho_refusal_laws.specs.ReadLink.{ReadLink}
use Rattle.macho_refusal_laws.specs.Read.{IsReadOf, AreKnown}
use Rattle.macho_sizing.specs.declared.asked.SizedLink.{SizedLink}
use Rattle.macho_linking.specs.declared.fault.Unwritten.{Unwritten}
use Rattle.macho_linking.specs.declared.fault.Unwritten.TheVariants.{Unfilled, Unmade, OutOfMemory}
use Rattle.macho_linking.specs.declared.planned.Planned.{Planned}
use Rattle.macho_linking.specs.declared.write.Written.{Written}
use Rattle.macho_linking.specs.steps.Planned.{IsPlanned, AreInputs}
use Rattle.macho_linking.specs.steps.Unwritten.{UnwrittenStands, refusal_of}
use Rattle.macho_linking.specs.Planning.{StandsAlways, IsToSize}
use Rattle.macho_linking.specs.steps.Imaged.{HasSizes, IsToAnswer}
use Rattle.macho_linker.specs.Held.{IsHeld}

-- What holds of every link that a linker holds: its objects are objects, made of bytes, and its names can be written.
pub record IsFine (l : Link) : Type 0 where
  pub objects : ObjectsAreRead l
  pub bytes : ObjectsAreBytes l
  pub name : bad_name l ≡ false

pub fine_link : (l : Link) → IsHeld l → All HasBytes l.inputs → IsFine l
fine_link l held bytes =
    record { objects = inputs_are_read l held.inputs; bytes = inputs_are_bytes l bytes; name = held.names }

-- a refusal that stands is the link's
pub refused_with : {X : Type 0} (l : Link) (r : Result X LinkError) (e : LinkError) → IsFine l → IsErrAnd r (λ x. x ≡ e) → StandsAlways l e
    → IfErr r (IsRefused l)
refused_with l (Ok x) e fine told stands = absurd told
refused_with l (Err x) e fine told stands = standing_is_told l x fine.objects fine.bytes fine.name
    (subst (StandsAlways l) (sym told) stands)

-- no limit is passed by what was placed
sized_within : (l : Link) (kept : List NamedExport) (s : SizedLink) → IsSizedOf l kept s → NonePasses l s.counts (placed_of s.placement)
sized_within l kept s h = record {
  segments = h.limits.numbers limit.Segments;
  sections = h.limits.numbers limit.Sections;
  sum = h.limits.sum;
  files = h.limits.files;
  ranges = h.limits.ranges;
}

-- a fault of the placement is a refusal that stands
late : (l : Link) (kept : List NamedExport) (s : SizedLink) (f : LinkFault) → IsSizedOf l kept s
    → kept_placement f ≡ Some (placed_of s.placement)
    → FaultStands l s.counts f → (counts : Counts) → AreCounts l counts → IsStanding l counts f
late l kept s f h keeps stands = late_is_standing l s.counts (placed_of s.placement) f h.placed (sized_within l kept s h) h.counted keeps
    stands

-- why a placed image isn't written is a refusal that stands
pub unwritten_stands : (l : Link) (read : ReadLink) (s : SizedLink) (e : Unwritten) → HasSizes l read s
    → UnwrittenStands l (placed_of s.placement) e
    → StandsAlways l (refusal_of e s.placement)
unwritten_stands l read s (Unfilled (fill.Range at)) h stands = late l h.kept s (RelocationRange at (placed_of s.placement)) h.sizes refl
    stands
unwritten_stands l read s (Unfilled (fill.Rebase at)) h stands = late l h.kept s (RebaseTarget at (placed_of s.placement)) h.sizes refl
    stands
unwritten_stands l read s (Unfilled (fill.Place file section relocation)) h stands =
    late l h.kept s (FixupPlace file section relocation (Some (placed_of s.placement))) h.sizes refl stands
unwritten_stands l read s (Unfilled fill.Unsupported) h stands = λ counts are. tt
unwritten_stands l read s (Unfilled fill.OutOfMemory) h stands = λ counts are. tt
unwritten_stands l read s (Unmade made.TooLarge) h stands = late l h.kept s (ImageTooLarge (Some (placed_of s.placement))) h.sizes refl
    stands
unwritten_stands l read s (Unmade made.OutOfMemory) h stands = λ counts are. tt
unwritten_stands l read s OutOfMemory h stands = λ counts are. tt

-- what was sized is planned
pub planned : (l : Link) (b : Planned) → AreInputs l b → IsReadOf l b.read.now → AreKnown b.views.now b.read.now
    → HasSizes l b.read.now b.sized.now
    → IsPlanned l b
planned l b inputs read known sizes =
    record { inputs = inputs; read = read; known = known; kept = sizes.kept; exports = sizes.exports; sized = sizes.sizes }

-- what was viewed and read, with its sizes, is planned
pub to_planned : (l : Link) (b : Planned) → l ≡ b.linker.now
    → IsToSize l b.views.now b.objects.now (option_copied b.list) b.read.now (map (λ n. n.items) b.libraries.now)
    → HasSizes l b.read.now b.sized.now → IsPlanned l b
to_planned l b arguments h sizes = planned l b (record {
  arguments = arguments;
  views = h.views_are.0;
  objects = h.objects_are;
  lists = h.lists_are;
  rules = h.rules;
  libraries = h.libraries_are;
}) h.read_is.0 h.read_is.1 sizes

-- the libraries of a sized link are few
pub libraries_few : (l : Link) (read : ReadLink) (sized : SizedLink) → HasSizes l read sized
    → length (libraries_needed l) ≤ 240
libraries_few l read sized h = by (cases_lt 240 (length (libraries_needed l)))
  where
    by : (240 < length (libraries_needed l)) ⊎ (length (libraries_needed l) ≤ 240)
        → length (libraries_needed l) ≤ 240
    by (inl more) = absurd (h.sizes.limits.numbers limit.Libraries (length (libraries_needed l)) (refl, more))
    by (inr few) = few

-- THE image of a link
pub answered : (l : Link) (uuid : List ℕ) (written : Written) (sized : SizedLink) (read : ReadLink) (libraries : List (List ℕ))
    (imports : List ImportName) → IsToAnswer l uuid written sized read libraries → map import_of imports ≡ imports_told l
    → (image : LinkedImage) → image.bytes.items ≡ written.bytes.items → image.placement ≡ sized.placement
    → map (λ library. library.items) image.libraries.items ≡ libraries → image.imports.items ≡ imports
    → image.exports.items ≡ read.exports.items
    → image.fixups ≡ written.fixups → IsImageOf l uuid image
answered l uuid written sized read libraries imports h told image bytes placement names listed exports fixups = record {
  counts = sized.counts;
  answer = rw (bytes, placement, names, listed, exports, fixups) (record {
    linked = h.made.image.linked;
    told = record { libraries_are = h.libraries_are; imports_are = told; fixups_are = h.made.image.many };
    exports_told = exports_are_told l read.exports.items h.read_is.exports;
    unrefused = clear_is_unrefused l sized.counts (placed_of sized.placement) (record {
      single = h.single;
      fit = h.read_is.fit;
      limits = h.made.sizes.sizes.limits;
      written = h.made.image.near;
      values = h.made.image.good;
      name = h.name;
    });
  });
}
