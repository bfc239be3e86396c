-- What is gathered, step by step.
--
-- A path that holds a file is the first of its list that does, where all before it hold none. An input that is found and taken
-- stands behind those before it: the files are one more, the link has its input last, and the paths end with its own. What
-- refused it is the cause of a fault of the whole: the inputs before it are taken, and a count that rose in this call rose since
-- the first, since no count falls. A list is asked for behind all inputs.
use Rattle.std.proofs.Common.{◌≡◌, ℕ, suc, ◌+◌, ◌<◌, ◌≤◌, inl, inr, refl, ap, sym, subst, ◌∙◌, List, [], ◌∷◌, ◌++◌, map, take, drop, length, get_or, All, Option, Some, None, String, Result, Ok, Err, OnOk}
use Rattle.std.specs.Prelude.{IfErr}
use Rattle.std.proofs.Math.Seq.{drop-cons}
use Rattle.std.proofs.lemmas.List.{take-append-drop, take_all, map-append, map_more}
use Rattle.std.proofs.lemmas.Slice.Zip.{all_zipped_more}
use Rattle.std.specs.List.{AllZip, last_or}
use Rattle.std.specs.String.{string_bytes}
use Rattle.macho_args.specs.Settings.{Settings, Input, input_of}
use Rattle.macho_args.specs.Store.{Store}
use Rattle.macho_args.specs.declared.fields.InputSpec.{InputSpec}
use Rattle.macho_model.specs.Links.{Link}
use Rattle.macho_model.specs.Links as model
use Rattle.macho_model.specs.LinkLaws.{with_input}
use Rattle.macho_linker.specs.Linkers.{link_of, with_export_list}
use Rattle.macho_devices.specs.Devices.{ReadsFile}
use Rattle.macho_devices.specs.Faults.{CountsOn}
use Rattle.macho_devices.proofs.Counts.{rose-since}
use Rattle.macho_job.specs.declared.fault.Fault.{Fault}
use Rattle.macho_job.specs.declared.fault.Fault.TheVariants as fault
use Rattle.macho_job.specs.Search.{candidates_of, FileIs, IsFirstHeld}
use Rattle.macho_job.specs.Job.{SourceFile, IsTaken, IsListed, Links}
use Rattle.macho_job.specs.Causes.{IsAsked, IsListAsked, JobFails}
use Rattle.macho_job.specs.steps.Gathering.{TakesFile, TakesBytesOf, EndsWith, InputFails, ListFails, Gathered, HaveInputs, HaveLists}
use Rattle.macho_bytes.proofs.Comparing.{on_ok_one}

-- what a read says of the bytes that it gave, and of a path without a file
pub read-held : (told : Option Store) (path bytes : List ℕ) (answer : Option (List ℕ)) → ReadsFile told path answer → answer ≡ Some bytes
    → FileIs told (Some bytes) path
read-held None path bytes answer reads is = tt
read-held (Some files) path bytes answer reads is = sym reads ∙ is

-- a list, as it is seen, at one of its elements
pub seen-split : {X Y : Type 0} (f : X → Y) (xs : List X) (i : ℕ) (x : X) → i < length xs → x ≡ get_or xs i x
    → map f xs ≡ map f (take i xs) ++ f x ∷ map f (drop (suc i) xs)
seen-split {X} {Y} f xs i x within at =
    ap (map f) (sym (take-append-drop i xs))
    ∙ (map-append f (take i xs) (drop i xs)
    ∙ (ap (λ (rest : List X). map f (take i xs) ++ map f rest) (drop-cons xs i x within)
    ∙ ap (λ (y : Y). map f (take i xs) ++ y ∷ map f (drop (suc i) xs)) (ap f (sym at))))

-- the last of some paths
last-end : (o : Option (List ℕ)) (before : List (List ℕ)) (path : List ℕ) → last_or o (before ++ path ∷ []) ≡ Some path
last-end o [] path = refl
last-end o (other ∷ before) path = last-end (Some other) before path

pub last-is : (paths : List (List ℕ)) (path : List ℕ) → EndsWith paths path → last_or None paths ≡ Some path
last-is paths path end = ap (last_or None) end.split ∙ last-end None end.before path

-- a path is the first that holds a file
pub first-held : {A : Type 0} (told now : Option Store) (paths : List (String A)) (i : ℕ) (path : String A) (text name bytes : List ℕ)
    (answer : Option (List ℕ)) → now ≡ told → i < length paths → path ≡ get_or paths i path
    → All (FileIs told None) (map string_bytes (take i paths))
    → ReadsFile now text answer → text ≡ string_bytes path → answer ≡ Some bytes → name ≡ text
    → IsFirstHeld told (map string_bytes paths) name bytes
first-held told now paths i path text name bytes answer same within at missing reads is_text some is_name =
    record {
      before = map string_bytes (take i paths);
      behind = map string_bytes (drop (suc i) paths);
      split = seen-split string_bytes paths i path within at
          ∙ ap (λ (t : List ℕ). map string_bytes (take i paths) ++ t ∷ map string_bytes (drop (suc i) paths)) (sym is_text ∙ sym is_name);
      missing = missing;
      held = subst (λ (t : List ℕ). FileIs told (Some bytes) t) (sym is_name)
          (subst (λ (o : Option Store). FileIs o (Some bytes) text) same (read-held now text bytes answer reads some));
    }

-- no path holds a file
pub none-held : {A : Type 0} (told : Option Store) (paths : List (String A)) (i : ℕ) → length paths ≤ i
    → All (FileIs told None) (map string_bytes (take i paths))
    → All (FileIs told None) (map string_bytes paths)
none-held told paths i end missing = subst (λ (ps : List (String _)). All (FileIs told None) (map string_bytes ps)) (take_all i paths end)
    missing

-- an input is found and taken
pub takes-file : (told : Option Store) (s : Settings) (asked : Input) (old paths : List (List ℕ)) (l m : Link) (path bytes : List ℕ)
    → IsFirstHeld told (candidates_of s asked.kind asked.name) path bytes → paths ≡ old ++ path ∷ [] → TakesBytesOf bytes l m
    → TakesFile told s asked old paths l m
takes-file told s asked old paths l m path bytes found named takes = record {
  file = record { path = path; input = takes.input };
  taken = record { bytes = bytes; found = found; is = takes.is };
  named = named;
  added = takes.added;
}

-- nothing is gathered
pub no-inputs : (told : Option Store) (s : Settings) (paths : List (List ℕ)) (l : Link) → l ≡ link_of s → paths ≡ []
    → HaveInputs told s [] paths l
no-inputs told s paths l empty unnamed = record { files = []; are = tt; texts = []; listed = tt; named = unnamed; linked = empty }

-- one input more
pub inputs-more : (told now : Option Store) (s : Settings) (specs : List InputSpec) (i : ℕ) (spec : InputSpec) (old paths : List (List ℕ))
    (l m : Link)
    → now ≡ told → i < length specs → spec ≡ get_or specs i spec → HaveInputs told s (map input_of (take i specs)) old l
    → TakesFile now s (input_of spec) old paths l m → HaveInputs told s (map input_of (take (i + 1) specs)) paths m
inputs-more told now s specs i spec old paths l m same within at have takes =
    let more : map input_of (take (i + 1) specs) ≡ map input_of (take i specs) ++ input_of spec ∷ []
    = map_more input_of specs i spec within ∙ ap (λ (x : InputSpec). map input_of (take i specs) ++ input_of x ∷ []) (sym at) in
    record {
      files = have.files ++ takes.file ∷ [];
      are = subst (λ (xs : List Input). AllZip (IsTaken told s) xs (have.files ++ takes.file ∷ [])) (sym more)
          (all_zipped_more (IsTaken told s) (map input_of (take i specs)) have.files (input_of spec) takes.file have.are
          (subst (λ (o : Option Store). IsTaken o s (input_of spec) takes.file) same takes.taken));
      texts = have.texts;
      listed = have.listed;
      named = takes.named ∙ (ap (λ (ps : List (List ℕ)). ps ++ takes.file.path ∷ []) have.named
          ∙ sym (map-append (λ (f : SourceFile). f.path) have.files (takes.file ∷ [])));
      linked = takes.added ∙ (ap (λ (k : Link). with_input k takes.file.input) have.linked
          ∙ ap (λ (is : List model.Input). let k : Link = record (link_of s) { inputs = is; export_lists = have.texts } in k)
          (sym (map-append (λ (f : SourceFile). f.input) have.files (takes.file ∷ []))));
    }

-- a list of export names more
pub lists-more : {A : Type 0} (told now : Option Store) (s : Settings) (Such : List SourceFile → Type 0) (lists : List (ℕ × String A))
    (i : ℕ) (list : ℕ × String A)
    (paths : List (List ℕ)) (l m : Link) (text : List ℕ) → now ≡ told → i < length lists → list ≡ get_or lists i list
    → Gathered told s Such (map (λ p. (p.0, string_bytes p.1)) (take i lists)) paths l → FileIs now (Some text) (string_bytes list.1)
    → m ≡ with_export_list l text → Gathered told s Such (map (λ p. (p.0, string_bytes p.1)) (take (i + 1) lists)) paths m
lists-more {A} told now s Such lists i list paths l m text same within at have held added =
    let plain : ℕ × String A → ℕ × List ℕ = λ p. (p.0, string_bytes p.1) in
    let more : map plain (take (i + 1) lists) ≡ map plain (take i lists) ++ plain list ∷ []
    = map_more plain lists i list within ∙ ap (λ (x : ℕ × String A). map plain (take i lists) ++ plain x ∷ []) (sym at) in
    record {
      files = have.files;
      are = have.are;
      texts = have.texts ++ text ∷ [];
      listed = subst (λ (xs : List (ℕ × List ℕ)). AllZip (IsListed told) xs (have.texts ++ text ∷ [])) (sym more)
          (all_zipped_more (IsListed told) (map plain (take i lists)) have.texts (plain list) text have.listed
          (subst (λ (o : Option Store). FileIs o (Some text) (string_bytes list.1)) same held));
      named = have.named;
      linked = added ∙ ap (λ (k : Link). with_export_list k text) have.linked;
    }

-- what refused an input is the cause of a fault of the whole: those before it are taken
pub input-fails : (told now : Option Store) (s : Settings) (specs : List InputSpec) (i : ℕ) (spec : InputSpec) (seen paths : List (List ℕ))
    (l : Link) (old mid new : ℕ) (f : Fault) → now ≡ told → s.inputs ≡ map input_of specs → i < length specs → spec ≡ get_or specs i spec
    → HaveInputs told s (map input_of (take i specs)) seen l → s.generate ≡ None → CountsOn old mid → CountsOn mid new
    → InputFails now s paths (input_of spec) mid new f → JobFails told s paths old new f
input-fails told now s specs i spec seen paths l old mid new f same asks within at have alone before after fails =
    by f (subst (λ (o : Option Store). InputFails o s paths asked mid new f) same fails)
  where
    asked : Input
    asked = input_of spec

    this : (word : ℕ) → word ≡ asked.word → IsAsked told s word asked
    this word is = record {
      before = map input_of (take i specs);
      behind = map input_of (drop (suc i) specs);
      split = asks ∙ seen-split input_of specs i spec within at;
      files = have.files;
      taken = have.are;
      stands_in = is;
      alone = alone;
    }

    by : (f : Fault) → InputFails told s paths asked mid new f → JobFails told s paths old new f
    by (fault.MissingFile word) (is, missing) = inl (asked, this word is, missing)
    by (fault.UnknownKind word kind) (is, unknown) =
        (unknown.path, unknown.bytes, record { input = asked; asked = this word is; found = unknown.found }, unknown.is)
    by (fault.Input word refusal) (is, refused) = inl (
      refused.path,
      refused.bytes,
      record { input = asked; asked = this word is; found = refused.found },
      last-is paths refused.path refused.last,
      refused.refused,
    )
    by (fault.Link refusal) none = absurd none
    by (fault.Words refusal) none = absurd none
    by (fault.Read word) (is, rose) = (inl (asked, this word is), rose-since old mid new before after rose)
    by fault.Write none = absurd none
    by fault.Print none = absurd none
    by fault.OutOfMemory none = tt

-- all lists are added
pub all-lists : {A : Type 0} (told : Option Store) (s : Settings) (lists : List (ℕ × String A)) (i : ℕ) (paths : List (List ℕ)) (l : Link)
    → length lists ≤ i
    → HaveLists told s (map (λ p. (p.0, string_bytes p.1)) (take i lists)) paths l
    → HaveLists told s (map (λ p. (p.0, string_bytes p.1)) lists) paths l
all-lists {A} told s lists i paths l end have =
    subst (λ (xs : List (ℕ × String A)). HaveLists told s (map (λ p. (p.0, string_bytes p.1)) xs) paths l) (take_all i lists end) have

-- what refused a list is the cause of a fault of the whole: the inputs are taken, and the lists before it held
pub list-fails : {A : Type 0} (told now : Option Store) (s : Settings) (lists : List (ℕ × String A)) (i : ℕ) (list : ℕ × String A)
    (seen paths : List (List ℕ)) (l : Link) (old mid new : ℕ) (f : Fault) → now ≡ told
    → s.export_list_paths ≡ map (λ p. (p.0, string_bytes p.1)) lists → i < length lists → list ≡ get_or lists i list
    → HaveLists told s (map (λ p. (p.0, string_bytes p.1)) (take i lists)) seen l → CountsOn old mid → CountsOn mid new
    → ListFails now list.0 (string_bytes list.1) mid new f → JobFails told s paths old new f
list-fails {A} told now s lists i list seen paths l old mid new f same asks within at have before after fails =
    by f (subst (λ (o : Option Store). ListFails o word path mid new f) same fails)
  where
    plain : ℕ × String A → ℕ × List ℕ
    plain p = (p.0, string_bytes p.1)

    word : ℕ
    word = list.0

    path : List ℕ
    path = string_bytes list.1

    this : (w : ℕ) → w ≡ word → IsListAsked told s w path
    this w is = record {
      files = have.files;
      are = have.are;
      before = map plain (take i lists);
      behind = map plain (drop (suc i) lists);
      split = asks ∙ (seen-split plain lists i list within at
          ∙ ap (λ (v : ℕ). map plain (take i lists) ++ (v, path) ∷ map plain (drop (suc i) lists)) (sym is));
      texts = have.texts;
      listed = have.listed;
    }

    by : (f : Fault) → ListFails told word path mid new f → JobFails told s paths old new f
    by (fault.MissingFile w) (is, missing) = inr (path, this w is, missing)
    by (fault.UnknownKind w kind) none = absurd none
    by (fault.Input w refusal) none = absurd none
    by (fault.Link refusal) none = absurd none
    by (fault.Words refusal) none = absurd none
    by (fault.Read w) (is, rose) = (inr (path, this w is), rose-since old mid new before after rose)
    by fault.Write none = absurd none
    by fault.Print none = absurd none
    by fault.OutOfMemory none = tt

-- what is gathered is what the settings link
pub links-of : (told : Option Store) (s : Settings) (paths : List (List ℕ)) (l : Link) → HaveLists told s s.export_list_paths paths l
    → Links told s paths l
links-of told s paths l have = record {
  job = record { files = have.files; lists = have.texts };
  is = record { files = have.are; lists = have.listed };
  named = have.named;
  links = have.linked;
}

-- what is gathered, from a store that tells the same
pub lists-since : (told now : Option Store) (s : Settings) (lists : List (ℕ × List ℕ)) (paths : List (List ℕ)) (l : Link) → now ≡ told
    → HaveLists told s lists paths l → HaveLists now s lists paths l
lists-since told now s lists paths l same have = subst (λ (o : Option Store). HaveLists o s lists paths l) (sym same) have

-- a later refusal is one of the whole
pub later-fails : (told now : Option Store) (s : Settings) (paths : List (List ℕ)) (old mid new : ℕ) (f : Fault) → now ≡ told
    → CountsOn old mid → CountsOn mid new
    → JobFails now s paths mid new f → JobFails told s paths old new f
later-fails told now s paths old mid new f same before after why = by f
    (subst (λ (o : Option Store). JobFails o s paths mid new f) same why)
  where
    by : (f : Fault) → JobFails told s paths mid new f → JobFails told s paths old new f
    by (fault.MissingFile word) why = why
    by (fault.UnknownKind word kind) why = why
    by (fault.Input word refusal) why = why
    by (fault.Link refusal) why = why
    by (fault.Words refusal) why = why
    by (fault.Read word) why = (why.0, rose-since old mid new before after why.1)
    by fault.Write why = why
    by fault.Print why = why
    by fault.OutOfMemory why = why

-- the lists were added to what is gathered
pub lists-joined : {T E : Type 0} (told now : Option Store) (s : Settings) (paths : List (List ℕ)) (l m : Link) (r : Result T E)
    → now ≡ told
    → HaveLists told s [] paths l → (HaveLists now s [] paths l → OnOk r (HaveLists now s s.export_list_paths paths m))
    → OnOk r (Links told s paths m)
lists-joined told now s paths l m r same have more =
    on_ok_one r (λ all. links-of told s paths m (lists-since now told s s.export_list_paths paths m (sym same) all))
    (more (lists-since told now s [] paths l same have))

-- a list was refused
pub lists-fail : {T : Type 0} (told now : Option Store) (s : Settings) (paths : List (List ℕ)) (l : Link) (old mid new : ℕ)
    (r : Result T Fault) → now ≡ told → CountsOn old mid → CountsOn mid new → HaveLists told s [] paths l
    → IfErr r (λ f. (ps : List (List ℕ)) → HaveLists now s [] ps l → JobFails now s ps mid new f)
    → IfErr r (JobFails told s paths old new)
lists-fail told now s paths l old mid new (Ok x) same before after have why = tt
lists-fail told now s paths l old mid new (Err f) same before after have why =
    later-fails told now s paths old mid new f same before after (why paths (lists-since told now s [] paths l same have))
