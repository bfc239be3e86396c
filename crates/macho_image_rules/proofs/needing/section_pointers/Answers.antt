-- A section's object is seen through its view; a section of zeros has no pointers.
use Rattle.std.proofs.Common.{ap, sym, ◌∙◌}
use Rattle.std.specs.Prelude.{option_copied}
use Rattle.macho_records.specs.Sections.{is_zerofill}
use Rattle.macho_contents.proofs.Viewing.{header_is}
use Rattle.macho_image_rules.proofs.Gathered.{one_viewed, zeros_none}
use Rattle.macho_image_rules.proofs.needing.section_pointers.Goals as goal

pub returns-then-is_no_bits : goal.returns-then-is_no_bits
returns-then-is_no_bits g c = record {
  done =
      λ l p viewed here.
      let seen = sym c.view_of.ensures ∙ ap option_copied c.in-Some.is in
      let header = header_is c.in-Some.file.now c.args.place.section c.section.result c.in-Some-section.header c.section.ensures
      c.in-Some-section.is in
      zeros_none l p c.args.views.now (g.P.Places.look c.args.places.now) c.args.place c.in-Some.file.now c.args.run.now.items viewed here
      seen (ap is_zerofill (sym header) ∙ sym c.is_no_bits.ensures ∙ c.if-is_no_bits.true);
}

pub returns : goal.returns
returns g c = record {
  done =
      λ l p viewed here.
      let seen = sym c.view_of.ensures ∙ ap option_copied c.in-Some.is in
      c.pointers_of.ensures.done l p
      (one_viewed l p c.args.views.now (g.P.Places.look c.args.places.now) c.args.place c.in-Some.file.now viewed here seen);
}
