-- The objects that are made.
--
-- One object more stands behind those before it, and its path behind theirs. When all are made, the link has them in order and
-- nothing else, under their paths: what is asked of the files where objects are made.
use Rattle.std.proofs.Common.{◌≡◌, ℕ, ◌+◌, ◌<◌, ◌≤◌, inl, inr, arith, refl, ap, sym, subst, ◌∙◌, List, [], ◌∷◌, ◌++◌, map, append_assoc, Option, Some}
use Rattle.std.specs.List.{range_with_len}
use Rattle.std.proofs.lemmas.List.FromFn.{map-range_with_len_more}
use Rattle.std.proofs.lemmas.Simd.{map-map}
use Rattle.macho_args.specs.Settings.{Settings}
use Rattle.macho_args.specs.Store.{Store}
use Rattle.std.proofs.lemmas.Bool.{cases_lt}
use Rattle.macho_model.specs.Grammar.{IsObject}
use Rattle.macho_model.specs.Links.{Link, Input, Object}
use Rattle.macho_model.specs.LinkLaws.{with_input}
use Rattle.macho_linker.specs.Linkers.{link_of}
use Rattle.macho_job.specs.declared.fault.Fault.{Fault}
use Rattle.macho_job.specs.declared.fault.Fault.TheVariants as fault
use Rattle.macho_job.specs.declared.heads.Head.TheVariants as head
use Rattle.macho_job.specs.Causes.{BytesRefused, JobFails}
use Rattle.macho_job.specs.steps.Gathering.{HaveLists}
use Rattle.macho_job.specs.Generator.{generated_object, generated_path}
use Rattle.macho_job.specs.Job.{SourceFile, AreFiles}
use Rattle.macho_job.specs.steps.Parts.{TakesMade, MadeFails}
use Rattle.macho_job.proofs.Gathers.{last-is}
use Rattle.macho_job.specs.steps.Job.{generated_files}

-- the made objects as files, and as inputs
abbrev made_file : ℕ → ℕ → SourceFile
made_file n i = record { path = generated_path i; input = Object (generated_object i n) }

abbrev pub made_input : ℕ → ℕ → Input
made_input n k = Object (generated_object k n)

abbrev pub made_link : Link → ℕ → ℕ → Link
made_link l n i = record l { inputs = l.inputs ++ map (made_input n) (range_with_len 0 i) }

pub made-more : (start l m : Link) (n i : ℕ) → l ≡ made_link start n i → TakesMade i n l m → m ≡ made_link start n (i + 1)
made-more start l m n i so_far takes =
    let more : map (made_input n) (range_with_len 0 (i + 1)) ≡ map (made_input n) (range_with_len 0 i) ++ made_input n i ∷ []
    = map-range_with_len_more (made_input n) 0 i i (omega arith) in
    takes.added ∙ (ap (λ (k : Link). with_input k (made_input n i)) so_far
    ∙ ap (λ (is : List Input). let k : Link = record start { inputs = is } in k)
    (append_assoc start.inputs (map (made_input n) (range_with_len 0 i)) (made_input n i ∷ [])
    ∙ ap (λ (t : List Input). start.inputs ++ t) (sym more)))

pub objects-more : (n i : ℕ) → ((k : ℕ) → k < i → IsObject (generated_object k n)) → IsObject (generated_object i n) → (k : ℕ) → k < i + 1
    → IsObject (generated_object k n)
objects-more n i before this k below =
    elim (cases_lt k i) [
      | inl less ↦ before k less
      | inr more ↦ subst (λ (j : ℕ). IsObject (generated_object j n)) (let same : i ≡ k = omega (arith, below, more) in same) this
    ]

pub paths-more : (i : ℕ) (paths next : List (List ℕ)) (path : List ℕ) → paths ≡ map generated_path (range_with_len 0 i)
    → next ≡ paths ++ path ∷ [] → path ≡ generated_path i
    → next ≡ map generated_path (range_with_len 0 (i + 1))
paths-more i paths next path so_far added is =
    added ∙ (ap (λ (ps : List (List ℕ)). ps ++ path ∷ []) so_far
    ∙ (ap (λ (p : List ℕ). map generated_path (range_with_len 0 i) ++ p ∷ []) is
    ∙ sym (map-range_with_len_more generated_path 0 i i (omega arith))))

pub all-made : (told : Option Store) (s : Settings) (n i : ℕ) (paths : List (List ℕ)) (start l : Link) → s.generate ≡ Some n
    → start ≡ link_of s → n ≤ i → i ≤ n
    → l ≡ made_link start n i → ((k : ℕ) → k < i → IsObject (generated_object k n)) → paths ≡ map generated_path (range_with_len 0 i)
    → HaveLists told s [] paths l
all-made told s n i paths start l asked empty low high linked objects named =
    let same : i ≡ n = omega (arith, low, high) in
    let ks : List ℕ = range_with_len 0 n in
    record {
      files = generated_files n;
      are = subst (λ (o : Option ℕ). AreFiles told s o (generated_files n)) (sym asked)
          (refl, λ k below. objects k (omega (arith, below, same)));
      texts = [];
      listed = tt;
      named = named ∙ (ap (λ (j : ℕ). map generated_path (range_with_len 0 j)) same
          ∙ sym (map-map (λ (f : SourceFile). f.path) (made_file n) ks));
      linked = linked ∙ (ap (λ (j : ℕ). made_link start n j) same ∙ (ap (λ (k : Link). made_link k n n) empty
          ∙ ap (λ (is : List Input). let k : Link = record (link_of s) { inputs = is } in k)
          (sym (map-map (λ (f : SourceFile). f.input) (made_file n) ks))));
    }

pub made-fails : (told : Option Store) (s : Settings) (n i : ℕ) (paths : List (List ℕ)) (old new : ℕ) (f : Fault)
    → s.generate ≡ Some n → i < n
    → ((k : ℕ) → k < i → IsObject (generated_object k n)) → paths ≡ map generated_path (range_with_len 0 (i + 1)) → MadeFails i n f
    → JobFails told s paths old new f
made-fails told s n i paths old new (fault.Input at refusal) asked below objects named (is, refused) =
    inr (record {
      count = n;
      asked = asked;
      below = omega (arith, below, is);
      before = λ k less. objects k (omega (arith, less, is));
      last = last-is paths (generated_path at) (record {
        before = map generated_path (range_with_len 0 i);
        split = named ∙ (map-range_with_len_more generated_path 0 i i (omega arith)
            ∙ ap (λ (j : ℕ). map generated_path (range_with_len 0 i) ++ generated_path j ∷ []) (sym is));
      });
      refused = subst (λ (j : ℕ). BytesRefused head.Object (generated_object j n) refusal) (sym is) refused;
    })
made-fails told s n i paths old new (fault.MissingFile word) asked below objects named none = absurd none
made-fails told s n i paths old new (fault.UnknownKind word kind) asked below objects named none = absurd none
made-fails told s n i paths old new (fault.Link refusal) asked below objects named none = absurd none
made-fails told s n i paths old new (fault.Words refusal) asked below objects named none = absurd none
made-fails told s n i paths old new (fault.Read word) asked below objects named none = absurd none
made-fails told s n i paths old new fault.Write asked below objects named none = absurd none
made-fails told s n i paths old new fault.Print asked below objects named none = absurd none
made-fails told s n i paths old new fault.OutOfMemory asked below objects named none = tt
