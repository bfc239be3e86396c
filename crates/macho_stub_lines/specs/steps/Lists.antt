-- A token as its kind, text and width.
use Rattle.macho_stub_lines.specs.declared.list.Token.{Token}
use Rattle.macho_stub_lines.specs.Lists.{TokenSpan}

-- a token of the text
abbrev pub token_of : Token → TokenSpan
token_of token = record { kind = token.kind; text = token.text.now; width = token.width }
