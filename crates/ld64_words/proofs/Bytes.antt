-- One byte more of a file that is cut.
--
-- The bytes from number i on are the byte i and those behind it, so one step goes from what is cut in front of it to what is cut behind it.
-- After the last byte nothing is left to cut.
use Rattle.std.proofs.Common.{◌≡◌, ℕ, ◌+◌, ◌<◌, ◌≤◌, refl, sym, ap, ◌∙◌, add-one, List, ◌∷◌, length, drop, map, get_or, Vec}
use Rattle.std.specs.List.{All}
use Rattle.std.specs.Str.{IsUtf8}
use Rattle.std.proofs.lemmas.List.Elements.{All-get_or}
use Rattle.std.proofs.lemmas.List.{length-map, get_or-map}
use Rattle.std.proofs.Math.ListN.{drop_of_length-le}
use Rattle.std.proofs.Math.Seq.{drop-cons}
use Rattle.ld64_words.specs.declared.files.FileKind.{FileKind}
use Rattle.ld64_words.specs.Files.{Cut, cut_from, with_next}

pub cut-more : (kind : FileKind) (s t all : Cut) (bytes : List ℕ) (i b : ℕ) → i < length bytes → b ≡ get_or bytes i 0
    → t ≡ with_next kind b s → cut_from kind s (drop i bytes) ≡ all → cut_from kind t (drop (i + 1) bytes) ≡ all
unfolding cut_from
cut-more kind s t all bytes i b within is next before =
    let at : drop i bytes ≡ b ∷ drop (i + 1) bytes = drop-cons bytes i 0 within ∙ rw (add-one, ← is) refl in
    let before = rw at at before in rw next before

pub cut-all : (kind : FileKind) (s all : Cut) (bytes : List ℕ) (i : ℕ) → length bytes ≤ i
    → cut_from kind s (drop i bytes) ≡ all → s ≡ all
unfolding cut_from
cut-all kind s all bytes i behind before = rw (drop_of_length-le bytes behind) at before

-- one of the texts is UTF-8, if all are
pub utf8-at : {A : Type 0} (texts : List (Vec ℕ A)) (i : ℕ) (text : Vec ℕ A) (bytes : List ℕ) → i < length texts
    → text ≡ get_or texts i text → bytes ≡ text.items → All IsUtf8 (map (λ t. t.items) texts) → IsUtf8 bytes
utf8-at texts i text bytes within is same all =
    let inside : i < length (map (λ t. t.items) texts) = rw (length-map texts (λ t. t.items)) within in
    let here = All-get_or IsUtf8 (map (λ t. t.items) texts) i text.items inside all in
    let this : get_or (map (λ t. t.items) texts) i text.items ≡ bytes =
    get_or-map (λ t. t.items) texts i text text.items within ∙ (ap (λ t. t.items) (sym is) ∙ sym same) in
    rw this at here
