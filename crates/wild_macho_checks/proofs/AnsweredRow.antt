-- A job that is answered, written out: the path of one object whose first function calls its second, and a store that holds
-- its bytes. Directories and canonical paths may be told or not: no word asks for them.
use Rattle.std.proofs.Common.{◌≡◌, ℕ, List, [], ◌∷◌, codes, Option, None, Some, Ok, refl, ap, sym, subst, ◌∙◌}
use Rattle.std.specs.Prelude.{unwrap_or}
use Rattle.std.specs.List.{AllZip}
use Rattle.std.proofs.lemmas.List.Elements.{All-nil}
use Rattle.std.specs.FinMap as maps
use Rattle.std.specs.Ordering.{nat_cmp}
use Rattle.std.specs.Cmp.Lexicographic.{slice_cmp}
use Rattle.macho_args.specs.Settings.{Settings, file, fresh}
use Rattle.macho_args.specs.Store.{FileSystem, Store, Directories, CanonicalPaths, IsToldCanonical}
use Rattle.macho_args.specs.SearchPaths.{IsMoved, IsParsed, standard_frameworks}
use Rattle.macho_args.specs.Options.{option_named, joined_option}
use Rattle.macho_args.specs.Words.{args_of, read_from}
use Rattle.macho_model.specs.Links.{Object}
use Rattle.macho_devices.proofs.Lookups.{get_by_path}
use Rattle.wild_macho.specs.Head.TheVariants as head
use Rattle.wild_macho.specs.Heads.{head_of}
use Rattle.wild_macho.specs.Search.{FileIs}
use Rattle.wild_macho.specs.Job.{Job, IsJob, linked}
use Rattle.wild_macho_checks.proofs.RowsAnswered.{calls, calls_is_object, begins_as_file, is_object_type, calling_is_owed}
use Rattle.wild_macho.specs.Runs.{SayJob, IsOwed}

abbrev path : List ℕ
path = codes "calls.o"

abbrev held : Store
held = maps.from_entries {R = slice_cmp nat_cmp} ((path, calls) ∷ [])

is_held : maps.get held path ≡ Some calls
is_held = sym (get_by_path (λ (e : List ℕ × List ℕ). e.0) (λ e. e.1) path ((path, calls) ∷ []))

begins : head_of calls ≡ head.Object
unfolding head_of
begins = rw (begins_as_file, is_object_type) refl

-- what the word says, and the settings that follow
abbrev word_says : Settings
word_says = record fresh { inputs = record { kind = file; word = 0; name = path } ∷ [] }

abbrev asked : Settings
asked = record word_says { framework_search_path = standard_frameworks (codes "/") }

read_so : (canonical : List ℕ → Option (List ℕ)) → args_of canonical (path ∷ []) ≡ Ok word_says
unfolding args_of read_from option_named joined_option
read_so canonical = refl

-- canonical paths that may be told
canonical_by : Option CanonicalPaths → List ℕ → Option (List ℕ)
canonical_by None p = None
canonical_by (Some known) p = maps.get known p

is_told : (known : Option CanonicalPaths) (p : List ℕ) → IsToldCanonical known p (canonical_by known p)
unfolding canonical_by
is_told None p = tt
is_told (Some known) p = refl

-- the word says this
says_asked : (files : FileSystem) → IsParsed files (path ∷ []) asked
says_asked files = record {
  canonical = canonical_by files.canonical_paths;
  told = is_told files.canonical_paths;
  said = word_says;
  read = read_so (canonical_by files.canonical_paths);
  root = codes "/";
  is_root = refl;
  frameworks = [];
  each = tt;
  is = refl;
}

no_frameworks : (d : Option Directories) (root : List ℕ) (frameworks : List (List ℕ)) → AllZip (IsMoved d root) [] frameworks
    → frameworks ≡ []
no_frameworks d root [] each = refl
no_frameworks d root (x ∷ xs) each = absurd each

-- and nothing else
says_one : (files : FileSystem) (s : Settings) → IsParsed files (path ∷ []) s → s ≡ asked
says_one files s says =
    let both : Ok says.said ≡ Ok word_says = sym says.read ∙ read_so says.canonical in
    let same : says.said ≡ word_says = cc in
    let at : says.root ≡ codes "/" = says.is_root ∙ ap (λ (t : Settings). unwrap_or t.sysroot (codes "/")) same in
    let moved = subst (λ (t : Settings). AllZip (IsMoved files.directories says.root) t.framework_search_path says.frameworks) same
    says.each in
    let none = no_frameworks files.directories says.root says.frameworks moved in
    says.is ∙ rw (same, at, none) refl

abbrev job : Job
job = record { files = record { path = path; input = Object calls } ∷ []; lists = [] }

is_job : IsJob (Some held) asked job
is_job = record {
  files = (
    record {
      bytes = calls;
      found = record { before = []; behind = []; split = refl; missing = All-nil (FileIs (Some held) None); held = is_held };
      is = rw begins (refl, calls_is_object);
    },
    tt,
  );
  lists = tt;
}

-- THE job is answered wherever there is memory.
pub job_is_answered : (files : FileSystem) → files.files ≡ Some held → SayJob (path ∷ []) files IsOwed
job_is_answered files told = record {
  told = (held, told);
  said = asked;
  says = says_asked files;
  each = λ s says.
      let same = sym (says_one files s says) in (
        job,
        subst (λ (t : Settings). IsJob files.files t job) same (subst (λ (o : Option Store). IsJob o asked job) (sym told) is_job),
        subst (λ (t : Settings). IsOwed (linked t job)) same calling_is_owed,
      );
}
