-- The exports trie of a link: the room that is kept for it before addresses are known, and its bytes.
use Rattle.std.specs.Prelude.{◌≡◌, ℕ, ◌-◌, ◌+◌, ◌^◌, ◌<◌, ◌≤◌, ◌==◌, if◌then◌else◌, Bool, false, List, [], ◌∷◌, map, length, All}
use Rattle.macho_bytes.specs.Texts.{put, Stands}
use Rattle.macho_model.specs.Images.{Table, tries_of}
use Rattle.macho_records.specs.Sections.{type_of}
use Rattle.macho_records.specs.declared.constants.TheConstants.{S_THREAD_LOCAL_VARIABLES}
use Rattle.macho_model.specs.declared.targets.Target.{Target}
use Rattle.macho_model.specs.declared.targets.Target.TheVariants as target
use Rattle.macho_model.specs.Exports.{FLAG_THREAD_LOCAL, FLAG_ABSOLUTE, FLAG_WEAK}
use Rattle.macho_model.specs.Links.{Link, header_at}
use Rattle.macho_model.specs.Placement.{Placed}
use Rattle.macho_model.specs.Told.{ToldExport, ExportsAreTold}
use Rattle.macho_trie.specs.Exports.{Exported, as_value, as_reexport, REEXPORT}
use Rattle.macho_trie.specs.Tries.{IsTrieOf, IsReservedFor, FindsAll, FindsOnly}
use Rattle.macho_promise.specs.TrieSays.{IsTrieText, ExportedAs}
use Rattle.macho_promise.specs.Sizes.{kept_for}
use Rattle.macho_linkedit.specs.declared.exports.ExportSays.{ExportSays}
use Rattle.macho_linkedit.specs.declared.exports.ExportSays.TheVariants.{Value, Reexport}
use Rattle.macho_linkedit.specs.declared.exports.NamedExport.{NamedExport}
use Rattle.macho_linkedit.specs.declared.exports.ReservedTrie.{ReservedTrie}

-- what is exported under a name, as a trie says it; a reexport keeps its name, which is written as the empty one
abbrev pub said_of : ExportSays → Exported
said_of (Value flags value) = as_value flags value
said_of (Reexport library) = as_reexport REEXPORT library []

-- what keeps its place: the greatest address, or the same reexport
abbrev pub kept_of : ExportSays → Exported
kept_of (Value flags value) = as_value 0 (2 ^ 64 - 1)
kept_of (Reexport library) = as_reexport REEXPORT library []

abbrev pub said : NamedExport → List ℕ × Exported
said e = (e.name.now, said_of e.says)

abbrev pub kept : NamedExport → List ℕ × Exported
kept e = (e.name.now, kept_of e.says)

abbrev pub names_in : List NamedExport → List (List ℕ)
names_in exports = map (λ e. e.name.now) exports

-- Room is kept for a trie of these names, whatever their values, as long as flags are below 128.
pub record IsReserved (t : ReservedTrie) (exports : List NamedExport) : Type 0 where
  pub names : IsTrieOf t.trie (names_in exports)
  pub room : IsReservedFor t.trie (names_in exports) (map kept exports) t.size

-- The trie of some exports, of so many bytes and no more than room was kept for, was put at a place.
pub record IsTriePut (t : ReservedTrie) (exports : List NamedExport) (at n : ℕ) (old new : List ℕ) : Type 0 where
  pub text : List ℕ
  pub exact : IsTrieText (map said exports) text
  pub found : FindsAll (map said exports) text
  pub only : FindsOnly (map said exports) text
  pub long : length text ≡ n
  pub fits : n ≤ t.size
  pub is : new ≡ put at text old

-- flags fit the one byte that is kept for them
abbrev pub HasFlags : ExportSays → Type 0
HasFlags (Value flags value) = flags < 8
HasFlags (Reexport library) = Unit {0}

-- these are the exported names of a link, before their addresses are known
pub record AreKept (l : Link) (told : List ToldExport) (exports : List NamedExport) : Type 0 where
  pub told_are : ExportsAreTold l told
  pub are : map kept exports ≡ map (λ e. (e.name, kept_for l e.name e.target)) told

-- these are the exported names of a link, each with what it is exported as by a placement
pub record AreSaid (l : Link) (p : Placed) (told : List ToldExport) (exports : List NamedExport) : Type 0 where
  pub told_are : ExportsAreTold l told
  pub names : names_in exports ≡ map (λ e. e.name) told
  pub each : All (λ e. ExportedAs l p e.name.now (said_of e.says)) exports

-- A whole trie of these exports, and no more, stands in a file at the range of the file's one trie.
pub record TrieStands (b : List ℕ) (t : Table) (exports : List NamedExport) (bytes : List ℕ) : Type 0 where
  pub one : tries_of b ≡ t ∷ []
  pub size : t.size ≡ length bytes
  pub text : Stands b (record { at = t.at; text = bytes })
  pub exact : IsTrieText (map said exports) bytes
  pub all : FindsAll (map said exports) bytes
  pub only : FindsOnly (map said exports) bytes

-- What a name that an object defines is exported as, by its target, its address and the base: flags for a thread-local
-- variable, an absolute value and a weak definition.
abbrev pub weak_bit : Bool → ℕ
weak_bit weak = if weak then FLAG_WEAK else 0

abbrev pub value_said : Target → Bool → Bool → ℕ → ℕ → ExportSays
value_said (target.Section file section offset) weak local address base = Value ((if local then FLAG_THREAD_LOCAL else 0) + weak_bit weak)
    (address - base)
value_said (target.Absolute value) weak local address base = Value (FLAG_ABSOLUTE + weak_bit weak) value
value_said t weak local address base = Value (weak_bit weak) (address - base)

-- the section of a target describes thread-local variables
abbrev pub is_thread_local : Link → Target → Bool
is_thread_local l (target.Section file section offset) = type_of
    (header_at l (record { file = file; section = section })) == S_THREAD_LOCAL_VARIABLES
is_thread_local l t = false
