-- The tool that changes a name in an image's head.
use Rattle.std.specs.Prelude.{◌≡◌, ◌≢◌, ℕ, ◌-◌, ◌^◌, ◌≤◌, List, [], ◌∷◌, codes, Some}
use Rattle.macho_args.specs.Numbers.{number_up_to}
use Rattle.macho_tools.specs.Runs.{Tool}
use Rattle.macho_retool.specs.Refusals.{Refuses, IsTold, rank}
use Rattle.macho_retool.specs.Retooled.{IsRetooled}
use Rattle.macho_retool.specs.declared.change.Change.{Change}
use Rattle.macho_retool.specs.declared.change.Change.TheVariants.{Id, Library, Rpath}
use Rattle.macho_retool.specs.declared.change.RetoolFault.{RetoolFault}
use Rattle.macho_retool.specs.declared.change.RetoolFault.TheVariants.{OutOfMemory}

-- what words ask to change: the image's own name, or the name of a library or of a run path by its number
pub data Asked : Type 0 where
  own_name : (name : List ℕ) → Asked
  library : (number : ℕ) (name : List ℕ) → Asked
  rpath : (number : ℕ) (name : List ℕ) → Asked

-- a change without where it lies in memory
abbrev pub asked_by : Change → Asked
asked_by (Id name) = own_name name.items
asked_by (Library number name) = library number name.items
asked_by (Rpath number name) = rpath number name.items

-- a job: what is asked, the path of the image, and the path that the changed image is written to
pub record Job : Type 0 where
  pub asked : Asked
  pub image : List ℕ
  pub output : List ℕ

-- a text is a count: decimal digits, from 1 to 2 ^ 32 - 1
abbrev pub IsCount : List ℕ → ℕ → Type 0
IsCount text n = (number_up_to (2 ^ 32 - 1) text ≡ Some n) × (1 ≤ n)

-- the words that ask for a change, with the two paths behind them
abbrev pub AskFor : List (List ℕ) → Asked → (image output : List ℕ) → Type 0
AskFor words (own_name name) image output = words ≡ codes "-id" ∷ name ∷ image ∷ output ∷ []
AskFor words (library number name) image output =
    (text : List ℕ) × IsCount text number × (words ≡ codes "-library" ∷ text ∷ name ∷ image ∷ output ∷ [])
AskFor words (rpath number name) image output =
    (text : List ℕ) × IsCount text number × (words ≡ codes "-rpath" ∷ text ∷ name ∷ image ∷ output ∷ [])

-- the index of the word that is the image's path
abbrev pub image_word : Asked → ℕ
image_word (own_name name) = 2
image_word (library number name) = 3
image_word (rpath number name) = 3

-- A file is refused for what is told of it, which isn't want of memory; and nothing stands that is told earlier.
pub record IsRefusedFile (b : List ℕ) (change : Change) (fault : RetoolFault) : Type 0 where
  pub refusal : fault ≢ OutOfMemory
  pub told : IsTold b change fault
  pub first : (other : RetoolFault) → Refuses b change other → rank fault ≤ rank other

-- THE tool: its words are an option with a new name and two paths, and it writes the image under the first path, with that name changed,
-- to the second one.
abbrev pub retooler : Tool RetoolFault
retooler =
    record {
      Job = Job;
      name = codes "macho_retool";
      Asks = λ words job. AskFor words job.asked job.image job.output;
      task = λ job. record { word = image_word job.asked; path = job.image; output = Some job.output };
      Answers = λ job bytes text. (change : Change) × (asked_by change ≡ job.asked) × IsRetooled change bytes text;
      Refuses = λ job bytes fault. (change : Change) × (asked_by change ≡ job.asked) × IsRefusedFile bytes change fault;
    }
