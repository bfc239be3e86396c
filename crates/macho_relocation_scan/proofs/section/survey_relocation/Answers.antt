-- One relocation: its field is inside the section, so its bytes can be read; and what it names is there. As one of a link it is seen
-- with its neighbours, and its addend is that of the model's field.
use Rattle.std.proofs.Common.{◌≡◌, [], ◌∷◌, ◌++◌, refl, sym, ap, ◌∙◌, subst}
use Rattle.std.proofs.lemmas.Result.{err_from_is_err_and}
use Rattle.macho_records.specs.Sections.{segment_name_of}
use Rattle.macho_model.specs.Links.{header_at}
use Rattle.macho_model.specs.Objects.{section_at, relocation_at}
use Rattle.macho_model.specs.Grammar.{IsFile, IsObject}
use Rattle.macho_model.specs.Uses.{ByRelocation}
use Rattle.macho_relocation_scan.specs.declared.pairs.Seen.{Seen}
use Rattle.macho_bytes.specs.Texts.{name_of}
use Rattle.macho_model.specs.Segments.{may_hold_pointers}
use Rattle.macho_relocation_scan.specs.declared.findings.Place.{Place}
use Rattle.macho_relocation_scan.specs.declared.findings.Findings.{Findings}
use Rattle.macho_relocation_scan.specs.steps.Found.{IsSurveyed}
use Rattle.macho_relocation_scan.specs.steps.Sections.{id_of, judged}
use Rattle.macho_relocation_scan.proofs.Supporting.{window_of}
use Rattle.macho_relocation_scan.proofs.Judging.{judged_more}
use Rattle.macho_relocation_scan.proofs.Looking.{seen_of, is_relocation, pointer_told, is_judged}
use Rattle.macho_relocation_scan.proofs.Within.{seen_within, seen_section, seen_referent}
use Rattle.macho_relocation_scan.proofs.section.survey_relocation.Goals as goal

pub pointer-pointer-requires-clause-inside : goal.pointer-pointer-requires-clause-inside
pointer-pointer-requires-clause-inside c long =
    let whole : IsObject c.args.object.now.bytes = subst (λ b. IsFile b c.args.object.now.bytes) c.requires.section.kind
    c.is_dynamic-object.ensures.kept in
    seen_within c.args.object.now.bytes c.args.at.section c.args.index 3 c.args.bytes.now c.args.seen whole c.requires.section.there
    c.requires.index c.requires.section.bytes_are c.requires.seen long

pub word_at-word-requires : goal.word_at-word-requires
word_at-word-requires c long =
    let whole : IsObject c.args.object.now.bytes = subst (λ b. IsFile b c.args.object.now.bytes) c.requires.section.kind
    c.is_dynamic-object.ensures.kept in
    seen_within c.args.object.now.bytes c.args.at.section c.args.index 2 c.args.bytes.now c.args.seen whole c.requires.section.there
    c.requires.index c.requires.section.bytes_are c.requires.seen long

pub pointer-pointer-requires-clause-there : goal.pointer-pointer-requires-clause-there
pointer-pointer-requires-clause-there c plain local =
    let whole : IsObject c.args.object.now.bytes = subst (λ b. IsFile b c.args.object.now.bytes) c.requires.section.kind
    c.is_dynamic-object.ensures.kept in
    seen_section c.args.object.now.bytes c.args.at.section c.args.index c.args.seen whole c.requires.section.there c.requires.index
    c.requires.seen plain local

pub use_relocation-requires-clause-symbol : goal.use_relocation-requires-clause-symbol
use_relocation-requires-clause-symbol c =
    let whole : IsObject c.args.object.now.bytes = subst (λ b. IsFile b c.args.object.now.bytes) c.requires.section.kind
    c.is_dynamic-object.ensures.kept in
    seen_referent c.args.needs.now.resolved c.args.at.file c.args.object.now.bytes c.args.at.section c.args.index c.args.seen
    c.requires.rows whole c.requires.section.there c.requires.index c.requires.seen

pub returns-in_err-target-clause-why : goal.returns-in_err-target-clause-why
returns-in_err-target-clause-why c l counts noted object there is =
    let e = err_from_is_err_and c.from_residual.result c.from_residual.ensures.1 in
    rw (e.1, e.2)
    (c.in_err-target.ensures.why l counts noted (id_of c.args.at) c.args.index is there
    (ap (λ (s : Seen). s.this) c.requires.seen ∙ ap (λ b. relocation_at b c.args.at.section c.args.index) (sym object)) refl)

pub returns-clause-surveyed : goal.returns-clause-surveyed
returns-clause-surveyed c l ss us object carried next before =
    let s = id_of c.args.at in
    let whole : IsObject c.args.object.now.bytes = subst (λ b. IsFile b c.args.object.now.bytes) c.requires.section.kind
    c.is_dynamic-object.ensures.kept in
    let of = is_relocation l s c.args.index c.args.object.now c.args.bytes.now c.args.seen object c.requires.section.bytes_are
    c.requires.seen c.requires.bits c.requires.section.there c.requires.index in
    let pointer = pointer_told l s c.args.index c.args.object.now c.args.bytes.now c.args.seen object c.requires.section.bytes_are
    c.requires.seen c.requires.bits
    c.pointer-pointer.result c.pointer-pointer.ensures in
    let noted = c.in_ok-target.ensures.noted l us s c.args.index before.noted next of refl pointer in
    let leads = c.in_ok-target.ensures.leads l us s c.args.index before.noted next of refl in
    let judged_here = is_judged l s c.args.index c.args.object.now c.args.bytes.now c.args.seen object c.requires.section.bytes_are
    c.requires.seen c.requires.bits whole c.requires.section.there carried
    c.requires.index c.word_at-word.result c.word_at-word.ensures in
    let held : c.args.at.holds_pointers ≡ may_hold_pointers (segment_name_of (header_at l s))
    = c.requires.section.holds ∙ ap (λ b. may_hold_pointers (name_of (section_at b c.args.at.section).segname)) (sym object) in
    let more = judged_more l ss us c.args.needs.now c.use_relocation.new.self c.args.findings.now s c.args.index c.word_at-word.result
    c.in_ok-target.target c.args.at.holds_pointers judged_here
    before noted leads held in
    let place : Place = record { file = c.args.at.file; section = c.args.at.section; relocation = c.args.index } in
    let same = c.judge.ensures
    ∙ ap (λ w. judged c.args.findings.now c.args.at.holds_pointers place w c.in_ok-target.target c.word_at-word.result
    c.pointer-pointer.result)
    (seen_of l s c.args.index c.args.object.now c.args.bytes.now c.args.seen object c.requires.section.bytes_are c.requires.seen
    c.requires.bits)
    ∙ ap (judged c.args.findings.now c.args.at.holds_pointers place (window_of l s c.args.index) c.in_ok-target.target
    c.word_at-word.result)
    pointer in
    subst (λ (f : Findings). IsSurveyed l ss (us ++ ByRelocation s c.args.index ∷ []) c.use_relocation.new.self f) (sym same) more
