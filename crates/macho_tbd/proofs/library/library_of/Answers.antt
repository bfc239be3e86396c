-- Before the first symbol nothing is gathered; behind the last one all is.
use Rattle.std.proofs.Common.{rules, ◌≡◌, ℕ, true, sym, ap, ◌∙◌, subst, arith}
use Rattle.macho_model.specs.Objects.{install_name_of}
use Rattle.macho_tbd.specs.Writable.{is_writable}
use Rattle.macho_tbd.specs.steps.Gathered.{Gathers, IsUnread}
use Rattle.macho_tbd.proofs.Gathering.{gathers_none, bad_install_name, read_whole, stopped, writes, writes_not, install_name_from}
use Rattle.macho_tbd.proofs.library.library_of.Goals as goal

pub returns-in_default-written-clause-why : goal.returns-in_default-written-clause-why
returns-in_default-written-clause-why c =
    let b = c.args.file.now.bytes in
    let name : c.in-Some.install_name.now ≡ install_name_of b
    = install_name_from b c.args.file.now.is_dynamic c.in-Some.install_name.now c.requires.dylib c.in-Some.ensures in
    bad_install_name b (ap is_writable (sym name) ∙ writes_not c.in-Some.install_name.now c.in_default-written.ensures)

pub loop-index-init : goal.loop-index-init
loop-index-init c =
    let b = c.args.file.now.bytes in
    let name : c.in-Some.install_name.now ≡ install_name_of b
    = install_name_from b c.args.file.now.is_dynamic c.in-Some.install_name.now c.requires.dylib c.in-Some.ensures in
    record {
      gathers = gathers_none b _ c.new.ensures.items c.new-2.ensures.items c.with_hasher.ensures.empty;
      install_name = (writes c.in-Some.install_name.now c.in-Some-written.install_name.now c.in-Some-written.ensures).1 ∙ name;
    }

pub returns-in_err-note-clause-why : goal.returns-in_err-note-clause-why
returns-in_err-note-clause-why c =
    let b = c.args.file.now.bytes in
    let name : c.in-Some.install_name.now ≡ install_name_of b
    = install_name_from b c.args.file.now.is_dynamic c.in-Some.install_name.now c.requires.dylib c.in-Some.ensures in
    let good : is_writable (install_name_of b) ≡ true
    = ap is_writable (sym name) ∙ (writes c.in-Some.install_name.now c.in-Some-written.install_name.now c.in-Some-written.ensures).0 in
    let h : IsUnread b c.in_err-note.field-0.0
    = stopped b c.loop-index.index c.loop-index.gathered c.in_err-note.field-0.0 (omega arith) good
    c.loop-index.invariant.gathers c.in_err-note.ensures.why in
    search (rules, h)

pub returns-clause-found : goal.returns-clause-found
returns-clause-found c =
    let b = c.args.file.now.bytes in
    let name : c.in-Some.install_name.now ≡ install_name_of b
    = install_name_from b c.args.file.now.is_dynamic c.in-Some.install_name.now c.requires.dylib c.in-Some.ensures in
    let good : is_writable (install_name_of b) ≡ true
    = ap is_writable (sym name) ∙ (writes c.in-Some.install_name.now c.in-Some-written.install_name.now c.in-Some-written.ensures).0 in
    read_whole b c.loop-index.gathered good c.loop-index.invariant.install_name
    (subst (λ (k : ℕ). Gathers b k c.loop-index.gathered) (omega arith) c.loop-index.invariant.gathers)
