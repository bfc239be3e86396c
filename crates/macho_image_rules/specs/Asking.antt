-- Which of the words that a link needs doesn't lead where it is to in an image.
use Rattle.std.specs.Prelude.{◌≡◌, ℕ, ◌<◌, List, length, get_or, Option, Some, None, All}
use Rattle.macho_model.specs.Links.{Link}
use Rattle.macho_model.specs.Needs.{imports_of}
use Rattle.macho_model.specs.Placement.{Placed, IsWholeList}
use Rattle.macho_loader.specs.Lists.{Import}
use Rattle.macho_fields.specs.Looks.{Look, TellsAddresses, IsPlacedOnce}
use Rattle.macho_image_laws.specs.Leads.{TargetsLead}
use Rattle.macho_verify_laws.specs.InFile.{WordLeads}
use Rattle.macho_image_rules.specs.declared.chain.Needed.{Needed}
use Rattle.macho_image_rules.specs.declared.words.ImportName.{ImportName}
use Rattle.macho_image_rules.specs.Words.{AreImportsOf, IsImportNamed}

-- Names are those of the imports of a link, each with its library's.
pub record AreNamesOf (l : Link) (names : List ImportName) : Type 0 where
  pub count : length names ≡ length (imports_of l)
  pub each : (k : ℕ) (d : ImportName) → k < length names → IsImportNamed l k (get_or names k d).library.now (get_or names k d).name.now

-- An image is compared with a link: the link's targets lead to its parts, each of which has one place, and look-ups tell these;
-- and lists are the imports of both and the libraries of the image.
pub record IsCompared (l : Link) (b : List ℕ) (p : Placed) (look : Look) (imports : List Import) (libraries : List (List ℕ))
    (names : List ImportName) : Type 0 where
  pub leads : TargetsLead l
  pub whole : IsWholeList l p
  pub once : IsPlacedOnce p
  pub tells : TellsAddresses p look
  pub image : AreImportsOf b imports libraries
  pub link : AreNamesOf l names

-- the word at the address of one that is needed leads to its target, with its addend
abbrev pub LeadsAsNeeded : Link → List ℕ → Placed → Needed → Type 0
LeadsAsNeeded l b p n = WordLeads l b p n.address n.target n.addend

-- The needed word of this number is misled, and none before it is.
pub record IsMisledFirst (l : Link) (b : List ℕ) (p : Placed) (needed : List Needed) (k : ℕ) : Type 0 where
  pub among : k < length needed
  pub misled : (d : Needed) → LeadsAsNeeded l b p (get_or needed k d) → ⊥
  pub before : (j : ℕ) (d : Needed) → j < k → LeadsAsNeeded l b p (get_or needed j d)

-- the first needed word that is misled, or none where each leads as it is to
abbrev pub IsFirstMisled : Link → List ℕ → Placed → List Needed → Option ℕ → Type 0
IsFirstMisled l b p needed None = All (LeadsAsNeeded l b p) needed
IsFirstMisled l b p needed (Some k) = IsMisledFirst l b p needed k
