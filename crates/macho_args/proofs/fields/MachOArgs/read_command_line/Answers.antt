-- What was read with the root kept, and then settled, is what the words say.
--
-- The words are read by the fold, and then the rule on inputs holds or gives the fault. So the fields have what all words say
-- with the root kept. Then the root takes its canonical path, and the framework paths follow it: directories are as they were.
use Rattle.std.proofs.Common.{subst, map}
use Rattle.std.specs.String.{string_bytes}
use Rattle.std.proofs.lemmas.Result.{err_from_is_err_and}
use Rattle.macho_args.specs.steps.KeptRoot.{FollowsRoot}
use Rattle.macho_args.specs.Settings.{settings_of}
use Rattle.macho_args.specs.Store.{FileSystem}
use Rattle.macho_args.proofs.Reading.{all-refused, all-beside, all-said}
use Rattle.macho_args.proofs.Roots.{words-refused, words-parsed}
use Rattle.macho_args.proofs.fields.MachOArgs.read_command_line.Goals as goal

pub returns-in_err-read_words-clause-why : goal.returns-in_err-read_words-clause-why
returns-in_err-read_words-clause-why g c =
    let p = err_from_is_err_and c.from_residual.result c.from_residual.ensures.1 in
    let words = map string_bytes c.args.words.now in
    let refused = all-refused words (settings_of c.args.self.now) c.requires.fresh in
    rw (p.1, p.2) (words-refused words _ (refused _ c.in_err-read_words.ensures.why))

pub returns-in_err-refuse_inputs-clause-why : goal.returns-in_err-refuse_inputs-clause-why
returns-in_err-refuse_inputs-clause-why g c =
    let p = err_from_is_err_and c.from_residual-in_err-refuse_inputs.result c.from_residual-in_err-refuse_inputs.ensures.1 in
    let words = map string_bytes c.args.words.now in
    let beside = all-beside words (settings_of c.args.self.now) c.requires.fresh in
    rw (p.1, p.2) (words-refused words _
    (beside (settings_of c.read_words.new.self) _ c.in_ok-read_words.ensures.done c.in_err-refuse_inputs.ensures))

pub returns-clause-done : goal.returns-clause-done
returns-clause-done g c =
    let told = g.D.Paths.state c.args.paths.now in
    let words = map string_bytes c.args.words.now in
    let kept = settings_of c.read_words.new.self in
    let said = settings_of c.settle_root.new.self in
    let args = settings_of c.move_frameworks.new.self in
    let read = all-said words (settings_of c.args.self.now) c.requires.fresh
    kept c.in_ok-read_words.ensures.done c.in_ok-refuse_inputs.ensures in
    let below = λ (files : FileSystem). FollowsRoot files.directories said.sysroot said args in
    let follows = subst below c.settle_root.ensures.outside c.in_ok-move_frameworks.ensures.done in
    words-parsed told words kept said read args c.in_ok-settle_root.ensures.done follows
