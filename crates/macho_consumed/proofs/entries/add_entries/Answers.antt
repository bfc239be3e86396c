use Rattle.std.proofs.Common.{◌≡◌, ◌/◌, ap, ◌∙◌, sym, subst, arith, List, ◌++◌, ◌∷◌, []}
use Rattle.macho_object.specs.Views.{RelocationBytes}
use Rattle.macho_model.specs.declared.rules.UnwindRule.TheVariants.{U4}
use Rattle.macho_model.specs.Objects.{section_at}
use Rattle.macho_consumed.specs.declared.rows.UnwindEntry.{UnwindEntry}
use Rattle.macho_consumed.specs.steps.Places.{ArePlaces}
use Rattle.macho_consumed.specs.steps.Checked.{AreNamed}
use Rattle.macho_consumed.specs.steps.Entries.{EntryFits, SectionBreaksRule, row_in}
use Rattle.macho_consumed.proofs.EntriesSoFar.{entries_none, entries_more, entry_rows_none, entry_rows_more, lead_none, lead_more}
use Rattle.macho_consumed.proofs.UnfitEntries.{bad_at, between_breaks}
use Rattle.macho_consumed.proofs.entries.add_entries.Goals as goal

pub returns-then-lacks_bytes-clause-why : goal.returns-then-lacks_bytes-clause-why
returns-then-lacks_bytes-clause-why c =
    let e = c.section_of-source.ensures.is in
    let breaks = c.lacks_bytes.ensures.none c.args.symbols.now c.args.number c.if-lacks_bytes.true in
    bad_at _ _ _ _ 0 U4 _
    (subst (λ (s : RelocationBytes). SectionBreaksRule c.args.symbols.now s.bytes c.args.number s.section 0 U4) e breaks)
    c.bad_unwind.ensures

pub loop-entry-init : goal.loop-entry-init
loop-entry-init c = record { fit = entries_none _ _; rows = entry_rows_none _ _ _ _; lead = lead_none _ _ _ _ }

pub returns-in-Some-clause-why : goal.returns-in-Some-clause-why
returns-in-Some-clause-why c =
    let e = c.section_of-source.ensures.is in
    let places = subst (λ (s : RelocationBytes). ArePlaces s.bytes s.section c.in_ok-places.places) e c.in_ok-places.ensures in
    let below = c.in-Some.ensures _ _ places in
    let count = subst (λ (s : RelocationBytes). c.num_entries-entry-end.result ≡ (section_at s.bytes s.section).size / 32) e
    c.num_entries-entry-end.ensures in
    between_breaks _ _ _ _ c.loop-entry.entry _ _ (omega (arith, c.loop-entry-test.true, count)) below.0
    (omega (arith, below.1)) c.bad_unwind-in-Some.ensures

pub entry-requires-clause-named : goal.entry-requires-clause-named
entry-requires-clause-named c =
    subst (λ (s : RelocationBytes). AreNamed c.args.symbols.now c.args.number s.bytes) (sym c.section_of-source.ensures.is) c.requires.named

pub loop-entry-preserved : goal.loop-entry-preserved
loop-entry-preserved c =
    let e = c.section_of-source.ensures.is in
    let fits = subst (λ (s : RelocationBytes). EntryFits s.bytes s.section c.loop-entry.entry) e c.in-Ok.ensures.found in
    let is = subst (λ (s : RelocationBytes). c.in-Ok.row ≡ row_in s.bytes c.args.number s.section c.loop-entry.entry) e
    c.in-Ok.ensures.done in
    record {
      fit = entries_more _ _ _ c.loop-entry.invariant.fit fits;
      rows = c.in_ok-push-in-Ok.ensures.items ∙ ap (λ
          (rows : List UnwindEntry). rows ++ c.in-Ok.row ∷ []) c.loop-entry.invariant.rows ∙ entry_rows_more _ _ _ _ _ _ is;
      lead = lead_more _ _ _ _ _ _ c.loop-entry.invariant.lead is c.in-Ok.ensures.leads;
    }
