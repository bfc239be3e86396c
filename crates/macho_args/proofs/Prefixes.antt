-- What `strip_prefix` at a text answers: the rest exactly where the word begins with the text.
--
-- std's clause has two cases. Where the text doesn't stand in front, `starts_with` is false. Else it is
-- true, and what is left is the word without as many bytes as the text has.
use Rattle.std.proofs.Common.{◌≡◌, ℕ, true, false, List, length, drop, cond, Option, Some, None, sym, refl, nat_eq}
use Rattle.std.specs.Borrow.{Bor}
use Rattle.std.specs.List.{starts_with}
use Rattle.std.specs.Option.{MatchOption, option_copied}
use Rattle.std.specs.Str.Pattern.{FindsTextPrefix, StripsPrefix}
use Rattle.std.proofs.lemmas.Str.Pattern.{starts_text}

pub prefix-stripped : (word text : List ℕ) (rest : Option (Bor (List ℕ)))
    → MatchOption rest (FindsTextPrefix text word None) (λ x. StripsPrefix (FindsTextPrefix text) word x.now)
    → option_copied rest ≡ cond (starts_with nat_eq word text) (Some (drop (length text) word)) None
prefix-stripped word text None lacks = let no = starts_text false text word lacks in rw (sym no) refl
prefix-stripped word text (Some rest) (n, found, is, len) =
    let yes = starts_text true text word (n, found, rw (found.0) found.2) in
    rw (sym yes, is, found.0) refl
