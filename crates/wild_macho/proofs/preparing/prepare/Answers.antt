-- The files tell the same behind the words; so what the arguments fail for is a fault of the settings that the words say.
use Rattle.std.proofs.Common.{ℕ, List, map, subst}
use Rattle.std.specs.String.{string_bytes}
use Rattle.std.proofs.lemmas.Result.{IfErr-weaker}
use Rattle.macho_args.specs.Settings.{settings_of}
use Rattle.macho_args.specs.Store.{FileSystem}
use Rattle.macho_args.specs.SearchPaths.{IsParsed}
use Rattle.wild_macho.specs.Prepared.{PrepareFails}
use Rattle.wild_macho.proofs.preparing.prepare.Goals as goal

pub returns-clause-why : goal.returns-clause-why
returns-clause-why g c =
    let end = g.F.Paths.state c.prepare_args.new.files in
    let said = settings_of c.in_ok-args.args in
    IfErr-weaker c.prepare_args.result
    (λ fault. (words : List (List ℕ)) → IsParsed (g.F.Paths.state c.read_words.new.files) words said
    → PrepareFails words (g.F.Paths.state c.read_words.new.files) end fault)
    (PrepareFails (map string_bytes c.args.words.now) (g.F.Paths.state c.args.files.now) end)
    (λ fault fails.
    subst (λ (files : FileSystem). (words : List (List ℕ)) → IsParsed files words said → PrepareFails words files end fault)
    c.read_words.ensures.kept fails (map string_bytes c.args.words.now) c.in_ok-args.ensures.said)
    c.prepare_args.ensures.why
