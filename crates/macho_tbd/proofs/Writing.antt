-- The pieces that are written, one behind the other, are the lines of the text.
--
-- Each piece is a line feed later or earlier than a line, so all that is to be shown is that pieces joined in one order are the same joined
-- in another. A loop adds a name with what parts it from the one before.
use Rattle.std.proofs.Common.{◌≡◌, ℕ, ◌+◌, ◌<◌, Bool, true, false, ◌&&◌, List, [], ◌∷◌, ◌++◌, take, length, get_or, Bor, refl, sym, ap, ◌∙◌, append_assoc, arith, if◌then◌else◌}
use Rattle.std.specs.Prelude.{codes}
use Rattle.std.specs.List.{flat_map}
use Rattle.std.proofs.lemmas.Bool.{false≢true, ne_eqb}
use Rattle.std.proofs.lemmas.List.{append-nil, map-append, take_more}
use Rattle.macho_stub_lines.specs.Lists.{texts}
use Rattle.macho_model.specs.Links.{StubReading}
use Rattle.macho_tbd.specs.Writable.{has_single}
use Rattle.macho_tbd.specs.Text.{quoted, export_lines, stub_lines, text_of}
use Rattle.macho_tbd.specs.steps.Pieces.{others_of, line_of, exports_of}
use Rattle.macho_tbd.specs.steps.Gathered.{is_none_of}

-- a quote, the name and the quote again
pub quoted_pushed : (old name quote one two three : List ℕ) → quote ≡ (if has_single name then codes "\"" else codes "'")
    → one ≡ old ++ quote → two ≡ one ++ name → three ≡ two ++ quote → three ≡ old ++ quoted name
unfolding quoted
quoted_pushed old name quote one two three is first second third =
    third ∙ ap (λ xs. xs ++ quote) (second ∙ ap (λ xs. xs ++ name) first) ∙ ap (λ xs. xs ++ quote) (append_assoc old quote name)
    ∙ append_assoc old (quote ++ name) quote ∙ ap (λ xs. old ++ xs) (append_assoc quote name quote)
    ∙ ap (λ q. old ++ (q ++ (name ++ q))) is ∙ ap (λ xs. old ++ xs) (by (has_single name))
  where
    by : (t : Bool) → (if t then codes "\"" else codes "'") ++ (name ++ (if t then codes "\"" else codes "'"))
        ≡ (if t then codes "\"" ++ (name ++ codes "\"") else codes "'" ++ (name ++ codes "'"))
    by true = refl
    by false = refl

-- one name more
pub others_more : (names : List (Bor (List ℕ))) (i : ℕ) (name : Bor (List ℕ)) (start old gap new : List ℕ) → i < length names
    → name ≡ get_or names i name → old ≡ start ++ others_of (texts (take i names)) → gap ≡ old ++ codes ", " → new ≡ gap ++ quoted name.now
    → new ≡ start ++ others_of (texts (take (i + 1) names))
others_more names i name start old gap new low is so_far one two =
    two ∙ ap (λ xs. xs ++ quoted name.now) (one ∙ ap (λ xs. xs ++ codes ", ") so_far)
    ∙ ap (λ xs. xs ++ quoted name.now) (append_assoc start front (codes ", "))
    ∙ append_assoc start (front ++ codes ", ") (quoted name.now)
    ∙ ap (λ xs. start ++ xs) (append_assoc front (codes ", ") (quoted name.now) ∙ sym all)
  where
    front : List ℕ
    front = others_of (texts (take i names))

    flat_push : (xs : List (List ℕ)) (x : List ℕ) → others_of (xs ++ x ∷ []) ≡ others_of xs ++ (codes ", " ++ quoted x)
    flat_push [] x = append-nil (codes ", " ++ quoted x)
    flat_push (y ∷ ys) x =
        ap (λ zs. (codes ", " ++ quoted y) ++ zs) (flat_push ys x)
        ∙ sym (append_assoc (codes ", " ++ quoted y) (others_of ys) (codes ", " ++ quoted x))

    all : others_of (texts (take (i + 1) names)) ≡ others_of (texts (take i names)) ++ (codes ", " ++ quoted name.now)
    all =
        ap (λ xs. others_of (texts xs)) (take_more names i name low ∙ ap (λ (y : Bor (List ℕ)). take i names ++ y ∷ []) (sym is))
        ∙ ap others_of (map-append (λ (y : Bor (List ℕ)). y.now) (take i names) (name ∷ []))
        ∙ flat_push (texts (take i names)) name.now

-- the pieces of a line
pub line_pushed : (old begin first : List ℕ) (others : List (List ℕ)) (one two three new : List ℕ) → one ≡ old ++ begin
    → two ≡ one ++ quoted first → three ≡ two ++ others_of others → new ≡ three ++ codes " ]\n"
    → new ≡ old ++ line_of begin (first ∷ others)
line_pushed old begin first others one two three new a b c d =
    d ∙ ap (λ xs. xs ++ codes " ]\n") (c ∙ ap (λ xs. xs ++ others_of others) (b ∙ ap (λ xs. xs ++ quoted first) a))
    ∙ simp append_assoc

-- ---- the exports

some_one : (name : Bor (List ℕ)) (names : List (Bor (List ℕ))) → is_none_of (name ∷ names) ≡ false
some_one name names = ne_eqb (length (name ∷ names)) 0 (λ e. absurd (omega arith))

pub nothing_pushed : (names weak_names : List (Bor (List ℕ))) → (is_none_of names && is_none_of weak_names) ≡ true
    → exports_of (texts names) (texts weak_names) ≡ []
nothing_pushed [] [] e = refl
nothing_pushed [] (weak ∷ weak_names) e = absurd (false≢true (sym (some_one weak weak_names) ∙ e))
nothing_pushed (name ∷ names) weak_names e =
    absurd (false≢true (sym (ap (λ (t : Bool). t && is_none_of weak_names) (some_one name names)) ∙ e))

-- the lines of what is exported, where there is something
all_exports : (names weak_names : List (Bor (List ℕ))) → (is_none_of names && is_none_of weak_names) ≡ false
    → exports_of (texts names) (texts weak_names) ≡ codes "exports:\n  - targets: [ arm64e-macos ]\n"
    ++ (line_of (codes "    symbols: [ ") (texts names) ++ line_of (codes "    weak-symbols: [ ") (texts weak_names))
all_exports [] [] e = absurd (false≢true (sym e))
all_exports [] (weak ∷ weak_names) e = refl
all_exports (name ∷ names) weak_names e = refl

pub exports_pushed : (names weak_names listed weak_listed : List (Bor (List ℕ))) (old one two new : List ℕ)
    → (is_none_of names && is_none_of weak_names) ≡ false → listed ≡ names → weak_listed ≡ weak_names
    → one ≡ old ++ codes "exports:\n  - targets: [ arm64e-macos ]\n"
    → two ≡ one ++ line_of (codes "    symbols: [ ") (texts listed)
    → new ≡ two ++ line_of (codes "    weak-symbols: [ ") (texts weak_listed)
    → new ≡ old ++ exports_of (texts names) (texts weak_names)
exports_pushed names weak_names listed weak_listed old one two new some are weak_are a b c =
    c ∙ ap (λ xs. xs ++ weaks weak_listed) (b ∙ ap (λ xs. xs ++ strongs listed) a)
    ∙ ap (λ xs. ((old ++ head) ++ strongs xs) ++ weaks weak_listed) are
    ∙ ap (λ xs. ((old ++ head) ++ strongs names) ++ weaks xs) weak_are
    ∙ append_assoc (old ++ head) (strongs names) (weaks weak_names)
    ∙ append_assoc old head (strongs names ++ weaks weak_names)
    ∙ ap (λ xs. old ++ xs) (sym (all_exports names weak_names some))
  where
    head : List ℕ
    head = codes "exports:\n  - targets: [ arm64e-macos ]\n"

    strongs : List (Bor (List ℕ)) → List ℕ
    strongs xs = line_of (codes "    symbols: [ ") (texts xs)

    weaks : List (Bor (List ℕ)) → List ℕ
    weaks xs = line_of (codes "    weak-symbols: [ ") (texts xs)

-- ---- the whole

exports_are : (names weak_names : List (List ℕ))
    → flat_map (λ line. line ++ codes "\n") (export_lines names weak_names ++ codes "..." ∷ [])
    ≡ exports_of names weak_names ++ codes "...\n"
exports_are [] [] = refl
exports_are (name ∷ names) [] = simp append_assoc
exports_are [] (weak ∷ weaks) = simp append_assoc
exports_are (name ∷ names) (weak ∷ weaks) = simp append_assoc

pub text_is : (says : StubReading) → text_of says
    ≡ codes "--- !tapi-tbd\ntbd-version: 4\ntargets: [ arm64e-macos ]\ninstall-name: "
    ++ (quoted says.install_name ++ (codes "\ncurrent-version: 1\n" ++ (exports_of says.names says.weak_names ++ codes "...\n")))
unfolding text_of stub_lines
text_is says =
    ap (λ (rest : List ℕ). codes "--- !tapi-tbd\ntbd-version: 4\ntargets: [ arm64e-macos ]\ninstall-name: " ++ rest)
    (append_assoc (quoted says.install_name) (codes "\n")
    (codes "current-version: 1\n" ++ flat_map (λ line. line ++ codes "\n") (export_lines says.names says.weak_names ++ codes "..." ∷ []))
    ∙ ap (λ (rest : List ℕ). quoted says.install_name ++ (codes "\ncurrent-version: 1\n" ++ rest))
    (exports_are says.names says.weak_names))

pub whole_pushed : (says : StubReading) (name none one two three four new : List ℕ) → name ≡ says.install_name → none ≡ []
    → one ≡ none ++ codes "--- !tapi-tbd\ntbd-version: 4\ntargets: [ arm64e-macos ]\ninstall-name: "
    → two ≡ one ++ quoted name → three ≡ two ++ codes "\ncurrent-version: 1\n"
    → four ≡ three ++ exports_of says.names says.weak_names → new ≡ four ++ codes "...\n" → new ≡ text_of says
whole_pushed says name none one two three four new is empty a b c d e =
    e ∙ ap (λ xs. xs ++ codes "...\n") (d ∙ ap (λ xs. xs ++ exports) (c ∙ ap (λ xs. xs ++ version)
    (b ∙ ap (λ xs. xs ++ quoted name) (a ∙ ap (λ xs. xs ++ front) empty) ∙ ap (λ xs. front ++ quoted xs) is)))
    ∙ append_assoc ((front ++ quoted says.install_name) ++ version) exports (codes "...\n")
    ∙ append_assoc (front ++ quoted says.install_name) version (exports ++ codes "...\n")
    ∙ append_assoc front (quoted says.install_name) (version ++ (exports ++ codes "...\n"))
    ∙ sym (text_is says)
  where
    front : List ℕ
    front = codes "--- !tapi-tbd\ntbd-version: 4\ntargets: [ arm64e-macos ]\ninstall-name: "

    version : List ℕ
    version = codes "\ncurrent-version: 1\n"

    exports : List ℕ
    exports = exports_of says.names says.weak_names
