-- Links that are alike are linked alike.
--
-- Each definition of the one holds of the other, and being alike goes both ways. The stub of a library is like it: by the grammar of stubs
-- its text says one thing, which is what the library has.
use Rattle.std.proofs.Common.{◌≡◌, ◌⊎◌, ℕ, List, [], ◌∷◌, ◌++◌, Ok, refl, sym, ap, subst, ◌∙◌, inl, inr}
use Rattle.std.specs.Prelude.{Result, Err}
use Rattle.std.specs.List.{AllZip}
use Rattle.std.proofs.lemmas.List.Elements.{AllZip-push}
use Rattle.macho_model.specs.Links.{Link, Input, Object, Dylib, Stub, StubReading}
use Rattle.macho_model.specs.LinkLaws.{with_input}
use Rattle.macho_promise.specs.Inputs.{IsStubInput}
use Rattle.macho_answer.specs.declared.fault.LinkError.{LinkError}
use Rattle.macho_answer.specs.declared.image.LinkedImage.{LinkedImage}
use Rattle.macho_linker.proofs.OneReading.{one_reading}
use Rattle.macho_tbd.specs.Answer.{AreAlike, IsStubOf}
use Rattle.macho_tbd.specs.Offered.{said_of}
use Rattle.macho_alike_laws.specs.Links.{AreAlikeInputs, AreAlikeLinks, StandsFor, HoldsStubs}
use Rattle.macho_alike_laws.specs.Laws.{ResolveAlike, NeedAlike, ExportAlike, PlacedAlike, FailAlike, MayAnswer, AnswerAlike, LinkAlike}
use Rattle.macho_alike_laws.proofs.Inputs.{Agree, agree, turned}
use Rattle.macho_alike_laws.proofs.Views as views
use Rattle.macho_alike_laws.proofs.Parts as parts
use Rattle.macho_alike_laws.proofs.Places as places
use Rattle.macho_alike_laws.proofs.Standing as standing
use Rattle.macho_alike_laws.proofs.Exports as exports
use Rattle.macho_alike_laws.proofs.Faults as faults
use Rattle.macho_alike_laws.proofs.Written as written
use Rattle.macho_alike_laws.proofs.Answers as answers

-- ---- both ways

may_answer : (l m : Link) → Agree l m → Agree m l → (uuid : List ℕ) (answer : Result LinkedImage LinkError) → MayAnswer l uuid answer
    → MayAnswer m uuid answer
may_answer l m same back uuid (Ok image) h = record {
  done = answers.image_of l m same back uuid image h.done;
  why = h.why;
  complete = λ counts are valid. h.complete counts (exports.counted m l back same counts are) (faults.valid m l back same counts valid);
}
may_answer l m same back uuid (Err e) h = record {
  done = h.done;
  why = answers.refusal_stands l m same back e h.why;
  complete = λ counts are valid. h.complete counts (exports.counted m l back same counts are) (faults.valid m l back same counts valid);
}

module _ (l m : Link) (same : Agree l m) (back : Agree m l) where
  resolve : ResolveAlike l m
  resolve = record {
    definitions = views.definition l m same;
    commons = views.commons l m same;
    names = views.named l m same;
    symbols = views.target_at l m same;
    relocations = views.relocated l m same;
  }

  need : NeedAlike l m
  need = record {
    imports = views.imports l m same;
    import_libraries = views.library_with l m same;
    slots = views.slots l m same;
    stubs = views.stubs l m same;
    import_entries = parts.import_entries l m same;
    libraries = views.libraries l m same;
  }

  exported : ExportAlike l m
  exported = record {
    names = λ name weak. (exports.told l m same name weak, exports.told m l back name weak);
    exported = λ p name x. (exports.exported_as l m same p name x, exports.exported_as m l back p name x);
    lists = λ list. (exports.exports_told l m same back list, exports.exports_told m l back same list);
  }

  placed : PlacedAlike l m
  placed = record {
    sizes = λ counts. (exports.counted l m same back counts, exports.counted m l back same counts);
    sums = parts.sum l m same;
    placed = λ counts p. (places.placed l m same counts p, places.placed m l back counts p);
    laid_out = λ counts p. (places.laid_out l m same counts p, places.laid_out m l back counts p);
    stand = λ b p s choice. (standing.image_stands l m same p s choice b, standing.image_stands m l back p s choice b);
  }

  fail : FailAlike l m
  fail = record {
    faults = λ counts f. (faults.stands l m same counts f, faults.stands m l back counts f);
    stands = λ counts e. (answers.stands l m same back counts e, answers.stands m l back same counts e);
    valid = λ counts. (faults.valid l m same back counts, faults.valid m l back same counts);
  }

  answer : AnswerAlike l m
  answer = record {
    linked = λ counts uuid b p. (written.linked l m same back counts uuid b p, written.linked m l back same counts uuid b p);
    told = λ counts uuid b p libraries imports fixups list. (
      answers.answer l m same back counts uuid b p libraries imports fixups list,
      answers.answer m l back same counts uuid b p libraries imports fixups list,
    );
    images = λ uuid image. (answers.image_of l m same back uuid image, answers.image_of m l back same uuid image);
    refusals = λ e. (answers.refusal_stands l m same back e, answers.refusal_stands m l back same e);
    answers = λ uuid result. (may_answer l m same back uuid result, may_answer m l back same uuid result);
  }

  all : LinkAlike l m
  all = record { resolve = resolve; need = need; export = exported; place = placed; fail = fail; answer = answer }

-- THE law: links that are alike are linked alike.
pub link_alike : (l m : Link) → AreAlikeLinks l m → LinkAlike l m
link_alike l m alike = all l m (agree l m alike) (agree m l (turned l m alike))

-- ---- stubs

-- so a stub is like its library
stub_alike : (x y : Input) → (x ≡ y) ⊎ StandsFor y x → AreAlikeInputs x y
stub_alike x y (inl e) = inl e
stub_alike (Dylib b) (Stub text says) (inr (stub, is)) =
    inr (subst (λ (s : StubReading). AreAlike (Dylib b) (Stub text s)) (one_reading text (said_of b) says stub.reads is) stub.alike)
stub_alike (Object b) (Object c) (inr none) = absurd none
stub_alike (Object b) (Dylib c) (inr none) = absurd none
stub_alike (Object b) (Stub text says) (inr none) = absurd none
stub_alike (Dylib b) (Object c) (inr none) = absurd none
stub_alike (Dylib b) (Dylib c) (inr none) = absurd none
stub_alike (Stub t s) (Object c) (inr none) = absurd none
stub_alike (Stub t s) (Dylib c) (inr none) = absurd none
stub_alike (Stub t s) (Stub text says) (inr none) = absurd none

each_alike : (xs ys : List Input) → AllZip (λ x y. (x ≡ y) ⊎ StandsFor y x) xs ys → AllZip AreAlikeInputs xs ys
each_alike [] [] z = z
each_alike [] (y ∷ ys) z = absurd z
each_alike (x ∷ xs) [] z = absurd z
each_alike (x ∷ xs) (y ∷ ys) z = (stub_alike x y z.0, each_alike xs ys z.1)

pub stubs_alike : (l m : Link) → HoldsStubs l m → AreAlikeLinks l m
stubs_alike l m h = record { inputs = each_alike l.inputs m.inputs h.inputs; rest = h.rest }

pub stubs_link_alike : (l m : Link) → HoldsStubs l m → LinkAlike l m
stubs_link_alike l m h = link_alike l m (stubs_alike l m h)

-- ---- inputs that are taken

each_itself : (xs : List Input) → AllZip (λ x y. (x ≡ y) ⊎ StandsFor y x) xs xs
each_itself [] = tt
each_itself (x ∷ xs) = (inl refl, each_itself xs)

pub hold_stubs : (l : Link) → HoldsStubs l l
hold_stubs l = record { inputs = each_itself l.inputs; rest = refl }

-- one input more of each
taken : (l m : Link) (x y : Input) → HoldsStubs l m → (x ≡ y) ⊎ StandsFor y x → HoldsStubs (with_input l x) (with_input m y)
taken l m x y h is = record {
  inputs = AllZip-push (λ x y. (x ≡ y) ⊎ StandsFor y x) l.inputs m.inputs x y h.inputs is;
  rest = ap (λ (k : Link). record k { inputs = m.inputs ++ y ∷ [] }) h.rest;
}

pub inputs_taken : (l m : Link) (x : Input) → HoldsStubs l m → HoldsStubs (with_input l x) (with_input m x)
inputs_taken l m x h = taken l m x x h (inl refl)

pub stubs_taken : (l m : Link) (b text : List ℕ) (says : StubReading) → HoldsStubs l m → IsStubOf b text → IsStubInput text says
    → HoldsStubs (with_input l (Dylib b)) (with_input m (Stub text says))
stubs_taken l m b text says h stub is = taken l m (Dylib b) (Stub text says) h (inr (stub, is))
