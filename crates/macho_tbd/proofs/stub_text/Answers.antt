-- What is read of the library is what a stub has to say, and the text is that of what is read.
use Rattle.std.proofs.Common.{List, ℕ, ap, subst, ◌∙◌}
use Rattle.std.specs.String.{string_bytes}
use Rattle.macho_tbd.specs.Text.{text_of}
use Rattle.macho_tbd.specs.steps.Gathered.{IsRead}
use Rattle.macho_tbd.proofs.Alike.{stub_of}
use Rattle.macho_tbd.proofs.stub_text.Goals as goal

pub returns-clause-found : goal.returns-clause-found
returns-clause-found c =
    let b = c.args.bytes.now in
    let read : IsRead b c.in_ok-library.library
    = subst (λ (b : List ℕ). IsRead b c.in_ok-library.library) (ap (λ f. f.bytes) c.in-Ok.ensures.view) c.in_ok-library.ensures.found in
    stub_of b (string_bytes c.in_ok-text.text) c.in-Ok.ensures.found read.writable (c.in_ok-text.ensures ∙ ap text_of read.says)
    c.in_ok-text.text.ok
