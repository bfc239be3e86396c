-- A symbol that isn't offered is passed over; the name of one that is goes into a list where it is new.
use Rattle.std.proofs.Common.{◌≡◌, Bool, true, false, sym, ap, ◌∙◌, if◌then◌else◌}
use Rattle.macho_tbd.specs.Offered.{is_weak_at}
use Rattle.macho_tbd.specs.steps.Gathered.{reading, with_name, is_among}
use Rattle.macho_tbd.proofs.Gathering.{gathers_skipped, gathers_pushed, writes, same_install_name, was_new, was_known}
use Rattle.macho_tbd.proofs.library.Gathered.note.Goals as goal

pub returns-in_default-clause-found : goal.returns-in_default-clause-found
returns-in_default-clause-found c =
    λ so_far. gathers_skipped c.args.file.now.bytes c.args.index c.args.self.now (sym c.in_default.ensures.offered) so_far

pub returns-in_ok-add-clause-found : goal.returns-in_ok-add-clause-found
returns-in_ok-add-clause-found c = λ so_far.
    let b = c.args.file.now.bytes in
    let name = c.in-Some.symbol.name.now in
    let keys = c.args.self.now.seen.keys in
    let old = reading c.args.self.now.library in
    let can = writes name c.in-Some-written.name.now c.in-Some-written.ensures in
    let new : is_among name keys ≡ false = was_new _ _ c.in_ok-put_name.ensures.new c.if-branch.true in
    gathers_pushed b c.args.index c.args.self.now _ name (sym c.in-Some.ensures.offered) c.in-Some.ensures.name can.0 so_far
    c.in_ok-put_name.ensures.put
    (c.in_ok-add.ensures.added ∙ ap (λ (w : Bool). with_name old w c.in-Some-written.name.now) c.in-Some.ensures.weak
    ∙ ap (with_name old (is_weak_at b c.args.index)) can.1
    ∙ sym (ap (λ (t : Bool). if t then old else with_name old (is_weak_at b c.args.index) name) new))

pub returns-in_ok-add-clause-install_name : goal.returns-in_ok-add-clause-install_name
returns-in_ok-add-clause-install_name c =
    ap (λ r. r.install_name) c.in_ok-add.ensures.added
    ∙ same_install_name (reading c.args.self.now.library) c.in-Some.symbol.weak c.in-Some-written.name.now

pub returns-else-branch-clause-found : goal.returns-else-branch-clause-found
returns-else-branch-clause-found c = λ so_far.
    let b = c.args.file.now.bytes in
    let name = c.in-Some.symbol.name.now in
    let keys = c.args.self.now.seen.keys in
    let old = reading c.args.self.now.library in
    let can = writes name c.in-Some-written.name.now c.in-Some-written.ensures in
    let known : is_among name keys ≡ true = was_known _ _ c.in_ok-put_name.ensures.new c.if-branch.false in
    gathers_pushed b c.args.index c.args.self.now _ name (sym c.in-Some.ensures.offered) c.in-Some.ensures.name can.0 so_far
    c.in_ok-put_name.ensures.put
    (sym (ap (λ (t : Bool). if t then old else with_name old (is_weak_at b c.args.index) name) known))
