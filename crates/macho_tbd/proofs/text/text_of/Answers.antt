-- The pieces, one behind the other.
use Rattle.std.proofs.Common.{refl}
use Rattle.macho_tbd.specs.steps.Gathered.{reading}
use Rattle.macho_tbd.proofs.Writing.{whole_pushed}
use Rattle.macho_tbd.proofs.text.text_of.Goals as goal

pub returns : goal.returns
returns c =
    whole_pushed (reading c.args.library.now) c.args.library.now.install_name.now _ _ _ _ _ _ refl c.new-text.ensures.bytes
    c.in_ok-push_str.ensures.bytes c.in_ok-push_quoted.ensures c.in_ok-push_str-2.ensures.bytes c.in_ok-push_exports.ensures
    c.in_ok-push_str-3.ensures.bytes
