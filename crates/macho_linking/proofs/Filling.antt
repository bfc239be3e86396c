-- Contents of segments: what is written into the file of a planned link.
--
-- Sections and stubs are filled into zeros, and all that the image asks for is then the run. Nothing stands against its words, since none
-- of what was filled is bad; so the run is put into order, and its words are written.
--
-- refused      a refusal is what its error is made of
-- in_place     a run that was put into order where it stands
-- to_chain     the words can be written
-- contents     sections, stubs and words are the contents
use Rattle.std.proofs.Common.{◌≡◌, ℕ, List, [], ◌++◌, length, take, drop, sym, ap, subst, ◌∙◌, arith, Result, Ok, Err, IfErr}
use Rattle.std.specs.Result.{IsErrAnd}
use Rattle.std.proofs.lemmas.List.{take_all, drop_all, append-nil, length-replicate}
use Rattle.macho_bytes.specs.Images.{zeros}
use Rattle.macho_model.specs.Links.{Link}
use Rattle.macho_fixups.specs.declared.run.Fixup.{Fixup}
use Rattle.macho_fixups.specs.Chains.{HaveRoom}
use Rattle.macho_promise.specs.FixupsSay.{fixup_segments}
use Rattle.macho_promise.specs.Asked.{fixups_asked}
use Rattle.macho_promise_laws.proofs.Segments.{words_room}
use Rattle.macho_promise_laws.specs.Filled.{ContentsAreFilled}
use Rattle.macho_fields.specs.Faults.{NoneIsBad}
use Rattle.macho_promise_laws.specs.Chaining.{IsToChain, IsChained}
use Rattle.macho_promise_laws.specs.Written.{AreContents}
use Rattle.macho_linking.specs.declared.planned.Planned.{Planned}
use Rattle.macho_linking.specs.steps.Planned.{IsPlanned, placement_of, counts_of}
use Rattle.macho_linking.proofs.Ready.{planned_chained}

-- a refusal is what an error is made of
pub refused : {T E : Type 0} (r : Result T E) (P : E → Type 0) (f : E) → IsErrAnd r (λ e. e ≡ f) → P f → IfErr r P
refused (Ok x) P f is p = tt
refused (Err e) P f is p = subst P (sym is) p

-- zeros are as many as they are
pub zeros_long : (n : ℕ) (out : List ℕ) → out ≡ zeros n → length out ≡ n
zeros_long n out is = ap (λ (t : List ℕ). length t) is ∙ length-replicate n 0

-- a run that was put into order in its place
pub in_place : (len : ℕ) (old new : List Fixup) → len ≡ length old → length new ≡ length old → take len (new ++ drop (length new) old) ≡ new
in_place len old new whole same =
    ap (λ (t : List Fixup). take len (new ++ t)) (drop_all (length new) old (omega (arith, same))) ∙ ap (take len) (append-nil new)
    ∙ take_all len new (omega (arith, whole, same))

pub to_chain : (l : Link) (b : Planned) (asked run none : List Fixup) (n : ℕ) → IsPlanned l b → NoneIsBad l (placement_of b)
    → none ≡ [] → run ≡ none ++ fixups_asked l (placement_of b) → asked ≡ run → n ≡ (placement_of b).linkedit.signature.end
    → IsToChain l (counts_of b) (placement_of b) asked n
to_chain l b asked run none n h good empty is same whole = record {
  can = planned_chained l b h good;
  asked_are = same ∙ is ∙ ap (λ (t : List Fixup). t ++ fixups_asked l (placement_of b)) empty;
  room = subst (HaveRoom (fixup_segments (placement_of b)) asked) (sym whole)
      (words_room l (counts_of b) (placement_of b) asked h.sized.placed);
}

pub contents : (l : Link) (b : Planned) (run new : List Fixup) (out before now : List ℕ)
    → out ≡ zeros (placement_of b).linkedit.signature.end → ContentsAreFilled l (placement_of b) out before
    → IsChained l (placement_of b) new before now → run ≡ new
    → AreContents l (placement_of b) run (placement_of b).linkedit.signature.end now
contents l b run new out before now empty filled chained same = record {
  before = before;
  filled = subst (λ (t : List ℕ). ContentsAreFilled l (placement_of b) t before) empty filled;
  chained = subst (λ (r : List Fixup). IsChained l (placement_of b) r before now) (sym same) chained;
}
