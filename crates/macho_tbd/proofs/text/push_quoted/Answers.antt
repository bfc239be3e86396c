-- The quote, the name and the quote again.
use Rattle.std.specs.String.{string_bytes}
use Rattle.macho_tbd.proofs.Writing.{quoted_pushed}
use Rattle.macho_tbd.proofs.text.push_quoted.Goals as goal

pub returns : goal.returns
returns c =
    quoted_pushed (string_bytes c.args.text.now) c.args.name.now c.quote_of-quote.result.now _ _ _ c.quote_of-quote.ensures
    c.in_ok-push_str.ensures.bytes c.in_ok-push_str-2.ensures.bytes c.in_ok-push_str-3.ensures.bytes
