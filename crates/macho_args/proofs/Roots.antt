-- A root that is kept as it is given, and settled after the words, says what the words say.
--
-- Let `finish` put a root in the place of the path that is kept, and its library path before the others. Each
-- option commutes with it: most change neither field, a library path comes last in both, and `-syslibroot`
-- drops the same library paths in both. So by induction on the words the fold with canonical paths is the fold
-- that keeps paths, finished at the end. The root for the last path that was kept is all that it asks, so any
-- answer to one question gives a choice of roots for all paths.
use Rattle.std.proofs.Common.{◌≡◌, ℕ, zero, suc, ◌+◌, List, [], ◌∷◌, ◌++◌, Bool, true, false, cond, ◌&&◌, arith, refl, ap, sym, ◌∙◌, drop, Option, Some, None, Result, Ok, Err, codes, nat_eq, ◌⊎◌, inl, inr}
use Rattle.std.specs.List.{starts_with, AllZip}
use Rattle.std.specs.Option.{ok_or, option_map, option_map_or, unwrap_or}
use Rattle.std.specs.Str.{bytes_eq}
use Rattle.std.proofs.lemmas.Bool.Decides.{nat_tests}
use Rattle.macho_args.proofs.Moves.{some_answer}
use Rattle.macho_args.specs.declared.fault.ArgsFault.{ArgsFault}
use Rattle.macho_args.specs.declared.options.LinkOption.{LinkOption}
use Rattle.macho_args.specs.declared.options.LinkOption.TheVariants.{Sets, Takes, PlatformVersion, Ignored, Refused}
use Rattle.macho_args.specs.declared.options.Flag.{Flag}
use Rattle.macho_args.specs.declared.options.Flag.TheVariants.{Dylib, DeadStripDylibs, HeaderpadMaxInstallNames, Map}
use Rattle.macho_args.specs.declared.options.Valued.{Valued}
use Rattle.macho_args.specs.declared.options.Valued.TheVariants.{Output, Entry, InstallName, LtoLibrary, ExportedSymbolsList, Rpath, LibraryPath, FrameworkPath, Root, Library, Framework, Arch, Mllvm, Uuid, Generate}
use Rattle.macho_args.specs.declared.fault.ArgsFault.TheVariants.{Unknown, Unsupported, BadVersion, BadPlatform, BadUuid, BadNumber, OutOfMemory}
use Rattle.macho_args.specs.steps.Effects.{HasCause, uuid_of, count_of}
use Rattle.macho_args.specs.Effects.{◌>>=◌, at_root, joined, with_flag, with_value, with_platform}
use Rattle.std.specs.FinMap.{get}
use Rattle.macho_args.specs.Store.{CanonicalPaths, Directories, FileSystem, IsToldCanonical}
use Rattle.macho_args.specs.SearchPaths.{IsMoved, IsParsed, IsRefused}
use Rattle.macho_args.specs.steps.KeptRoot.{FollowsRoot, IsRootFor, keep_root, kept_of, settled, SettlesRoot}
use Rattle.macho_args.specs.Options.{option_named, joined_option}
use Rattle.macho_args.specs.Settings.{Settings, Input, fresh}
use Rattle.macho_args.specs.Version.{version_of}
use Rattle.macho_args.specs.Words.{read_from, read_option, read_plain, args_of, without_inputs, taking}

module _ (canonical : List ℕ → Option (List ℕ)) where
  -- the root for a path
  abbrev pub root_of : List ℕ → List ℕ
  root_of path = unwrap_or (canonical path) path

  -- the library paths below the root
  abbrev below : Option (List ℕ) → List (List ℕ) → List (List ℕ)
  below (Some path) paths = joined (root_of path) (codes "usr/lib") ∷ paths
  below None paths = paths

  -- the root is settled
  abbrev pub finish : Settings → Settings
  finish s = record s { sysroot = option_map root_of s.sysroot; lib_search_path = below s.sysroot s.lib_search_path }

  -- the same of a meaning
  abbrev finished : Result Settings ArgsFault → Result Settings ArgsFault
  finished meaning = meaning >>= λ s. Ok (finish s)

  below-push : (root : Option (List ℕ)) (paths : List (List ℕ)) (path : List ℕ)
      → below root paths ++ path ∷ [] ≡ below root (paths ++ path ∷ [])
  below-push (Some root) paths path = refl
  below-push None paths path = refl

  -- a choice between two meanings
  finished-cond : (b : Bool) (m n : Result Settings ArgsFault) → cond b (finished m) (finished n) ≡ finished (cond b m n)
  finished-cond true m n = refl
  finished-cond false m n = refl

  -- a value that may be missing
  finished-or : {A : Type 0} (o : Option A) (fault : ArgsFault) (f : A → Result Settings ArgsFault)
      → (ok_or o fault >>= λ a. finished (f a)) ≡ finished (ok_or o fault >>= f)
  finished-or (Some a) fault f = refl
  finished-or None fault f = refl

  value-finish : (option : Valued) (i : ℕ) (v : List ℕ) (s : Settings)
      → with_value (at_root canonical) option i v (finish s) ≡ finished (with_value keep_root option i v s)
  unfolding with_value
  value-finish Output i v s = refl
  value-finish Entry i v s = refl
  value-finish InstallName i v s = refl
  value-finish LtoLibrary i v s = refl
  value-finish ExportedSymbolsList i v s = refl
  value-finish Rpath i v s = refl
  value-finish LibraryPath i v s =
      ap (λ paths. Ok (record (finish s) { lib_search_path = paths })) (below-push s.sysroot s.lib_search_path v)
  value-finish FrameworkPath i v s = refl
  value-finish Root i v s = refl
  value-finish Library i v s = finished-cond _ _ _
  value-finish Framework i v s = refl
  value-finish Arch i v s = finished-cond _ _ _
  value-finish Mllvm i v s = finished-cond _ _ _
  value-finish Uuid i v s = finished-or (uuid_of v) (BadUuid i) (λ bytes. Ok (record s { uuid = Some bytes }))
  value-finish Generate i v s = finished-or (count_of v) (BadNumber i) (λ n. Ok (record s { generate = Some n }))

  -- the platform with its two versions
  abbrev with_versions : List ℕ → ℕ → ℕ → Settings → Settings
  with_versions platform lowest built s =
      record s { platform_version = Some (record { platform = platform; minimum_version = lowest; sdk_version = built }) }

  platform-finish : (i : ℕ) (p m k : List ℕ) (s : Settings) → with_platform i p m k (finish s) ≡ finished (with_platform i p m k s)
  unfolding with_platform
  platform-finish i p m k s =
      ap (λ meaning. cond (bytes_eq p (codes "macos")) meaning (Err (BadPlatform (i + 1))))
      (ap (λ f. ok_or (version_of m) (BadVersion (i + 2)) >>= f)
      (λ j lowest. finished-or (version_of k) (BadVersion (i + 3)) (λ built. Ok (with_versions p lowest built s)) j)
      ∙ finished-or (version_of m) (BadVersion (i + 2))
      (λ lowest. ok_or (version_of k) (BadVersion (i + 3)) >>= λ built. Ok (with_versions p lowest built s)))
      ∙ finished-cond (bytes_eq p (codes "macos")) _ (Err (BadPlatform (i + 1)))

  plain-finish : (i : ℕ) (word : List ℕ) (s : Settings) → read_plain i word (finish s) ≡ finished (read_plain i word s)
  plain-finish i word s =
      ap (cond (starts_with nat_eq word (codes "-")) (Err (Unknown i)))
      (finished-cond (starts_with nat_eq word (codes "@")) (Err (Unsupported i)) _)
      ∙ finished-cond (starts_with nat_eq word (codes "-")) (Err (Unknown i)) _

  unnamed-finish : (option : Option Valued) (i : ℕ) (word : List ℕ) (s : Settings)
      → option_map_or (λ o. with_value (at_root canonical) o i (drop 2 word) (finish s)) option (read_plain i word (finish s))
      ≡ finished (option_map_or (λ o. with_value keep_root o i (drop 2 word) s) option (read_plain i word s))
  unnamed-finish (Some option) i word s = value-finish option i (drop 2 word) s
  unnamed-finish None i word s = plain-finish i word s

  -- what was read, where the root is settled
  abbrev finished-read : Result (Settings × ℕ) ArgsFault → Result (Settings × ℕ) ArgsFault
  finished-read meaning = meaning >>= λ read. Ok (finish read.0, read.1)

  taking-finish : (values : ℕ) (m n : Result Settings ArgsFault) → m ≡ finished n
      → taking values m ≡ finished-read (taking values n)
  taking-finish values m (Ok s) is = rw is refl
  taking-finish values m (Err fault) is = rw is refl

  flag-finish : (flag : Flag) (s : Settings) → with_flag flag (finish s) ≡ finish (with_flag flag s)
  flag-finish Dylib s = refl
  flag-finish DeadStripDylibs s = refl
  flag-finish HeaderpadMaxInstallNames s = refl
  flag-finish Map s = refl

  option-finish : (option : Option LinkOption) (i : ℕ) (word : List ℕ) (behind : List (List ℕ)) (s : Settings)
      → read_option (at_root canonical) option i word behind (finish s) ≡ finished-read (read_option keep_root option i word behind s)
  option-finish (Some (Sets flag)) i word behind s = ap (λ t. Ok (t, 0)) (flag-finish flag s)
  option-finish (Some (Takes option)) i word [] s = refl
  option-finish (Some (Takes option)) i word (v ∷ behind) s = taking-finish 1 _ _ (value-finish option (i + 1) v s)
  option-finish (Some PlatformVersion) i word [] s = refl
  option-finish (Some PlatformVersion) i word (p ∷ []) s = refl
  option-finish (Some PlatformVersion) i word (p ∷ m ∷ []) s = refl
  option-finish (Some PlatformVersion) i word (p ∷ m ∷ k ∷ behind) s = taking-finish 3 _ _ (platform-finish i p m k s)
  option-finish (Some Ignored) i word behind s = refl
  option-finish (Some Refused) i word behind s = refl
  option-finish None i word behind s = taking-finish 0 _ _ (unnamed-finish (joined_option word) i word s)

  -- where the next words commute, one more word does
  then-finish : (m n : Result (Settings × ℕ) ArgsFault) (f g : Settings × ℕ → Result Settings ArgsFault)
      → m ≡ finished-read n → ((read : Settings × ℕ) → f (finish read.0, read.1) ≡ finished (g read))
      → (m >>= f) ≡ finished (n >>= g)
  then-finish m (Ok read) f g is next = rw is (next read)
  then-finish m (Err fault) f g is next = rw is refl

  from-finish : (values i : ℕ) (words : List (List ℕ)) (s : Settings)
      → read_from (at_root canonical) values i words (finish s) ≡ finished (read_from keep_root values i words s)
  unfolding read_from
  from-finish values i [] s = refl
  from-finish zero i (word ∷ behind) s =
      then-finish _ _ _ _ (option-finish (option_named word) i word behind s)
      (λ read. from-finish read.1 (i + 1) behind read.0)
  from-finish (suc values) i (word ∷ behind) s = from-finish values (i + 1) behind s

  inputs-finish : (count : Option ℕ) (inputs : List Input) (s : Settings)
      → without_inputs count inputs (finish s) ≡ finished (without_inputs count inputs s)
  inputs-finish (Some count) (input ∷ inputs) s = refl
  inputs-finish (Some count) [] s = refl
  inputs-finish None inputs s = refl

  checked-finish : (m n : Result Settings ArgsFault) → m ≡ finished n
      → (m >>= λ s. without_inputs s.generate s.inputs s) ≡ finished (n >>= λ s. without_inputs s.generate s.inputs s)
  checked-finish m (Ok s) is = rw is (inputs-finish s.generate s.inputs s)
  checked-finish m (Err fault) is = rw is refl

  pub all-finish : (words : List (List ℕ)) → args_of canonical words ≡ finished (kept_of words)
  unfolding args_of kept_of
  all-finish words = checked-finish _ _ (from-finish 0 0 words fresh)

-- A choice of canonical paths: the one that was answered for a path, and for each other path some one that may be told.
record Roots (known : Option CanonicalPaths) (path root : List ℕ) : Type 0 where
  canonical : List ℕ → Option (List ℕ)
  each : (other : List ℕ) → IsToldCanonical known other (canonical other)
  here : root ≡ root_of canonical path

-- some root may be told for a path
some_root : (known : Option CanonicalPaths) (path : List ℕ) → (root : List ℕ) × IsRootFor known path root
some_root (Some known) path = (_, record { canonical = get known path; told = refl; is = refl })
some_root None path = (path, record { canonical = None; told = tt; is = refl })

roots : (known : Option CanonicalPaths) (path root : List ℕ) → IsRootFor known path root → Roots known path root
roots (Some known) path root found =
    record {
      canonical = λ other. get known other;
      each = λ other. refl;
      here = found.is ∙ ap (λ answer. unwrap_or answer path) found.told;
    }
roots None path root found = record { canonical = λ other. Some root; each = λ other. tt; here = refl }

-- The words are refused, whatever the canonical paths are.
pub words-refused : (words : List (List ℕ)) (fault : ArgsFault) → HasCause (kept_of words) fault
    → (fault ≡ OutOfMemory) ⊎ IsRefused words fault
words-refused words fault (inl memory) = inl memory
words-refused words fault (inr why) = inr (record { told = λ canonical. all-finish canonical words ∙ rw why refl })

-- what the words say, for some canonical paths that may be told
record Said (known : Option CanonicalPaths) (words : List (List ℕ)) (said : Settings) : Type 0 where
  canonical : List ℕ → Option (List ℕ)
  each : (path : List ℕ) → IsToldCanonical known path (canonical path)
  is : args_of canonical words ≡ Ok said

-- Below `/` a path is what it was, so without a root the framework paths may be said to go below `/`.
below_slash : (path : List ℕ) (is_directory : Bool)
    → path ≡ cond (starts_with nat_eq path (codes "/") && is_directory) (joined (codes "/") (drop 1 path)) path
unfolding joined
below_slash [] is_directory = refl
below_slash (b ∷ path) is_directory = stays b path (starts_with nat_eq (b ∷ path) (codes "/")) refl is_directory
  where
    stays : (b : ℕ) (path : List ℕ) (slash : Bool) → starts_with nat_eq (b ∷ path) (codes "/") ≡ slash → (is_directory : Bool)
        → b ∷ path ≡ cond (slash && is_directory) (codes "/" ++ path) (b ∷ path)
    stays b path false is is_directory = refl
    stays b path true is false = refl
    stays b path true is true = let same : b ≡ 47 = grind (arith, nat_tests) in ap (λ c. c ∷ path) same

stay : (known : Option Directories) (paths : List (List ℕ)) → AllZip (IsMoved known (codes "/")) paths paths
stay known [] = tt
stay known (path ∷ paths) =
    let answer = some_answer known (joined (codes "/") (drop 1 path)) in
    (record { is_directory = answer.0; told = answer.1; is = below_slash path answer.0 }, stay known paths)

module _ (files : FileSystem) (words : List (List ℕ)) (kept said : Settings)
    (read : kept_of words ≡ Ok kept) where
  abbrev known : Option CanonicalPaths
  known = files.canonical_paths

  said_as : (canonical : List ℕ → Option (List ℕ)) → finish canonical kept ≡ said → args_of canonical words ≡ Ok said
  said_as canonical is = all-finish canonical words ∙ (rw read refl ∙ ap Ok is)

  -- without a root the fields stay
  finish-none : (canonical : List ℕ → Option (List ℕ)) → kept.sysroot ≡ None → finish canonical kept ≡ kept
  finish-none canonical none =
      ap (λ root. record kept {
        sysroot = option_map (root_of canonical) root;
        lib_search_path = below canonical root kept.lib_search_path;
      }) none
      ∙ ap (λ root. record kept { sysroot = root }) (sym none)

  finish-some : (canonical : List ℕ → Option (List ℕ)) (path : List ℕ) → kept.sysroot ≡ Some path
      → finish canonical kept ≡ settled (root_of canonical path) kept
  finish-some canonical path some = rw some refl

  said_by_settling : (root : Option (List ℕ)) → kept.sysroot ≡ root → SettlesRoot known root kept said → Said known words said
  said_by_settling None none settles =
      let any = roots known [] (some_root known []).0 (some_root known []).1 in
      record { canonical = any.canonical; each = any.each; is = said_as any.canonical (finish-none any.canonical none ∙ sym settles) }
  said_by_settling (Some path) some settles =
      let chosen = roots known path settles.root settles.root_for in
      let is_settled = finish-some chosen.canonical path some ∙ (ap (λ root. settled root kept) (sym chosen.here) ∙ sym settles.is) in
      record { canonical = chosen.canonical; each = chosen.each; is = said_as chosen.canonical is_settled }

  parsed_below : (args : Settings) (root : Option (List ℕ)) → said.sysroot ≡ root
      → Said known words said → FollowsRoot files.directories root said args → IsParsed files words args
  parsed_below args None none one follows = record {
    canonical = one.canonical;
    told = one.each;
    said = said;
    read = one.is;
    root = codes "/";
    is_root = rw none refl;
    frameworks = said.framework_search_path;
    each = stay files.directories said.framework_search_path;
    is = follows;
  }
  parsed_below args (Some root) some one follows = record {
    canonical = one.canonical;
    told = one.each;
    said = said;
    read = one.is;
    root = root;
    is_root = rw some refl;
    frameworks = follows.frameworks;
    each = follows.each;
    is = follows.is;
  }

  -- What was kept and then settled is what the words say, and the rule on framework paths follows.
  pub words-parsed : (args : Settings) → SettlesRoot known kept.sysroot kept said → FollowsRoot files.directories said.sysroot said args
      → IsParsed files words args
  words-parsed args settles follows =
      parsed_below args said.sysroot refl (said_by_settling kept.sysroot refl settles) follows
