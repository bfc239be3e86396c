-- Where the key behind a dash begins, the line may be cut: the dash is ASCII, and so are the spaces behind it.
-- The code cuts the line there to read the key. A text of UTF-8 may be cut behind a byte of ASCII, so it may be behind the
-- dash; what is left is again UTF-8, and there a run of spaces may be cut off. The two cuts together are one of the line,
-- in the column where the key begins.
use Rattle.std.proofs.Common.{◌≡◌, ℕ, ◌+◌, true, List, get_or, drop, arith}
use Rattle.std.specs.Str.{IsUtf8, IsCharBoundary}
use Rattle.std.proofs.lemmas.Str.{IsUtf8-drop, IsCharBoundary-from_rest}
use Rattle.std.proofs.lemmas.Bool.Decides.{nat_tests}
use Rattle.macho_stub_lines.specs.Bytes.{indent, has_dash}
use Rattle.macho_stub_lines.specs.steps.Bytes.{is_space}
use Rattle.macho_stub.specs.steps.Reader.{key_column}
use Rattle.macho_stub_lines.proofs.Cuts.{cut_behind, run_cut, space_ascii}

dash_at : (line : List ℕ) → has_dash line ≡ true → get_or line (indent line) 0 ≡ 45
unfolding has_dash
dash_at line h = grind (arith, nat_tests)

-- a line with a dash may be cut where its key begins
pub column_cut : (line : List ℕ) → IsUtf8 line → has_dash line ≡ true → IsCharBoundary line (key_column line)
unfolding key_column indent
column_cut line utf8 h =
    let cut = cut_behind line (indent line) 45 utf8 (dash_at line h) (omega arith) (omega arith) in
    let rest = drop (indent line + 1) line in
    IsCharBoundary-from_rest line (indent line + 1) (indent rest) cut.1.0
    (run_cut is_space space_ascii rest (IsUtf8-drop line (indent line + 1) utf8 cut.1))
