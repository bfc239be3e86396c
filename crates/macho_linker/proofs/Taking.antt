-- What a linker takes.
--
-- An input more is behind those before it: all are what their kinds say, and there is one more. A text that was read as a stub is
-- one, and says what was read and nothing else, since the reading is determined; a text that was refused is none, since what is in
-- the grammar is read.
use Rattle.std.proofs.Common.{◌≡◌, ℕ, ◌<◌, arith, refl, ap, sym, ◌∙◌, subst, List, [], ◌∷◌, ◌++◌, length, map, All, Bool, ◌||◌, String, Ok}
use Rattle.std.specs.Prelude.{IsUtf8}
use Rattle.std.specs.List.{list_any}
use Rattle.std.specs.String.{string_bytes}
use Rattle.std.proofs.lemmas.List.{length-map, length-append, map-append}
use Rattle.std.proofs.lemmas.List.Elements.{All-push}
use Rattle.macho_model.specs.Links.{Link, Input, Stub, StubReading}
use Rattle.macho_model.specs.LinkLaws.{with_input}
use Rattle.macho_stub_lines.specs.declared.fault.StubFault.{StubFault}
use Rattle.macho_stub_lines.specs.declared.fault.StubFault.TheVariants as stub
use Rattle.macho_stub_lines.specs.Faults.{Fails, broken}
use Rattle.macho_stub.specs.Answer.{IsStub, IsToldOfText}
use Rattle.macho_stub.specs.Library.{LibraryFields}
use Rattle.macho_stub.proofs.Answered.{answer_only}
use Rattle.macho_stub_lines.proofs.Bind.{same_ok}
use Rattle.macho_promise.specs.Inputs.{IsInput, IsStubInput}
use Rattle.macho_promise.proofs.Stubs.{reading_of, library_of, stub_of}
use Rattle.macho_linker.specs.declared.owned.OwnedInput.{OwnedInput}
use Rattle.macho_linker.specs.declared.owned.OwnedInput.TheVariants as owned
use Rattle.macho_linker.specs.declared.owned.StubText.{StubText}
use Rattle.macho_linker.specs.Owned.{input_of}
use Rattle.macho_linker.specs.Readings.{SaysOneThing}
use Rattle.macho_linker.specs.steps.OneReading.{one_thing}
use Rattle.macho_linker.specs.Linkers.{TakesStub}
use Rattle.macho_linker.specs.Refusals.{StubRefused}
use Rattle.macho_linker.specs.steps.StubRefusals.{stub_refusal, IsReadStub}

-- an input more, and all are what P says
pub taken_more : (P : OwnedInput → Type 0) (xs next : List OwnedInput) (x : OwnedInput) (inputs : List Input) → next ≡ xs ++ x ∷ []
    → All P xs → P x
    → map input_of xs ≡ inputs → length inputs < 4294967295 → All P next × (length next < 4294967296)
taken_more P xs next x inputs is all this mapped few = (
  subst (All P) (sym is) (All-push P xs x all this),
  omega
      (arith, few, ap length is, length-append xs (x ∷ []), ap length mapped, length-map xs input_of),
)

-- a text that was read is a stub, and says what was read, and nothing else
pub stub_read : (text : List ℕ) (library : LibraryFields) → IsUtf8 text → IsStub text library → IsReadStub text
stub_read text library utf8 stub = record { one = (reading_of library, (∣ is ∣₁, only)); stub = is }
  where
    is : IsStubInput text (reading_of library)
    is = stub_of text library utf8 stub

    only : (other : StubReading) → IsStubInput text other → reading_of library ≡ other
    only other too =
        let it = library_of text other too in
        ap reading_of (same_ok library it.library (sym (answer_only text library stub) ∙ answer_only text it.library it.in_grammar))
        ∙ sym it.is

-- the text that is kept is a stub by what it says
pub kept_stub : (text : List ℕ) → IsReadStub text → (one : SaysOneThing text) → IsStubInput text one.0
kept_stub text read one = subst (λ (it : SaysOneThing text). IsStubInput text it.0) (one_thing text read.one one) read.stub

-- a stub more, whose text was read
pub taken_stub : (xs next : List OwnedInput) (stub : StubText) (inputs : List Input) → next ≡ xs ++ owned.Stub stub ∷ []
    → All (λ i. IsInput (input_of i)) xs → IsReadStub (string_bytes stub.text) → map input_of xs ≡ inputs → length inputs < 4294967295
    → All (λ i. IsInput (input_of i)) next × (length next < 4294967296)
taken_stub xs next stub inputs is all read mapped few =
    taken_more (λ (i : OwnedInput). IsInput (input_of i)) xs next (owned.Stub stub) inputs is all
    (kept_stub (string_bytes stub.text) read stub.reading) mapped few

-- it is the last input, with what it says
pub takes_stub : (xs next : List OwnedInput) (stub : StubText) (old now : Link) → next ≡ xs ++ owned.Stub stub ∷ []
    → IsReadStub (string_bytes stub.text) → record old { inputs = map input_of xs } ≡ now
    → TakesStub now (record old { inputs = map input_of next }) (string_bytes stub.text)
takes_stub xs next stub old now is read view = record {
  says = stub.reading.0;
  stub = kept_stub (string_bytes stub.text) read stub.reading;
  added = ap (λ (inputs : List Input). record old { inputs = inputs })
      (ap (map input_of) is ∙ map-append input_of xs (owned.Stub stub ∷ []))
      ∙ ap (λ (l : Link). with_input l (Stub (string_bytes stub.text) stub.reading.0)) view;
}

-- a text that was refused is no stub
pub stub_refused : (text : List ℕ) (f : StubFault) → IsUtf8 text → IsToldOfText text f
    → ((library : LibraryFields) → IsStub text library → Fails f (Ok library))
    → StubRefused text (stub_refusal f)
stub_refused text (stub.Rule line rule) utf8 told only =
    (utf8, told, λ says s. absurd (let it = library_of text says s in let none : ⊥ = none_of (only it.library it.in_grammar) in none))
  where
    none_of : {library : LibraryFields} → Ok library ≡ broken line rule → ⊥
    none_of e = cc
stub_refused text stub.OutOfMemory utf8 told only = tt

-- a test of some path
pub any_path : {A : Type 0} (test : List ℕ → Bool) (paths : List (String A))
    → list_any (λ path. test (string_bytes path)) paths ≡ list_any test (map string_bytes paths)
any_path test [] = refl
any_path test (path ∷ paths) = ap (λ (b : Bool). test (string_bytes path) || b) (any_path test paths)
