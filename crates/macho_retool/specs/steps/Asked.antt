-- What is made of the words of a run.
use Rattle.std.specs.Prelude.{◌≡◌, ℕ, List, codes, Option, None, Some}
use Rattle.macho_retool.specs.Runs.{Asked, own_name, library, rpath, Job, IsCount, AskFor}
use Rattle.macho_retool.specs.declared.running.Kind.{Kind}
use Rattle.macho_retool.specs.declared.running.Kind.TheVariants.{Id, Library, Rpath}
use Rattle.macho_retool.specs.declared.running.Asked.{Asked as AskedWords}

-- an option with its number
abbrev pub IsNumbered : (option number : List ℕ) → Kind → Type 0
IsNumbered option number Id = ⊥
IsNumbered option number (Library n) = (option ≡ codes "-library") × IsCount number n
IsNumbered option number (Rpath n) = (option ≡ codes "-rpath") × IsCount number n

-- what is asked, by its kind and the new name
abbrev pub asked_in : Kind → List ℕ → Asked
asked_in Id name = own_name name
asked_in (Library n) name = library n name
asked_in (Rpath n) name = rpath n name

-- the job of words
abbrev pub job_of : AskedWords → Job
job_of a = record { asked = asked_in a.kind a.name.now; image = a.image.now; output = a.output.now }

-- The words ask for this, or for nothing.
abbrev pub AsksFor : List (List ℕ) → Option AskedWords → Type 0
AsksFor words None = (job : Job) → AskFor words job.asked job.image job.output → ⊥
AsksFor words (Some a) = AskFor words (job_of a).asked (job_of a).image (job_of a).output
