-- What is asked of a link and a placement of it, and what is told of the bytes that are made.
use Rattle.std.specs.Prelude.{◌≡◌, ℕ, ◌+◌, ◌*◌, ◌<◌, ◌≤◌, List, length, map, All, None}
use Rattle.std.specs.List.{range_with_len}
use Rattle.macho_bytes.specs.Numbers.{le_at}
use Rattle.macho_model.specs.declared.placed.Counts.{Counts}
use Rattle.macho_model.specs.declared.targets.Limit.TheVariants as limit
use Rattle.macho_model.specs.Links.{Link}
use Rattle.macho_model.specs.WrittenSum.{INITIALIZER_SIZE}
use Rattle.macho_model.specs.Placement.{Placed}
use Rattle.macho_model.specs.Addresses.{address_of}
use Rattle.macho_model.specs.Made.{initializers_of}
use Rattle.macho_model.specs.Limits.{PassesLimit, IsTooLarge, ImagePasses, LIMIT_32}
use Rattle.macho_unwind_pages.specs.Plans.{HasFarOffset}
use Rattle.macho_unwind.specs.Entries.{FindsEntries, FindsOnlyEntries}
use Rattle.macho_promise.specs.Sizes.{AreCounts, unwind_size}
use Rattle.macho_promise.specs.UnwindSays.{resolved_entries, IsUnwindText}
use Rattle.macho_consumed.specs.Told.{InitializersKeepRules, EntriesKeepRules}
use Rattle.macho_model.specs.Grammar.{ObjectsAreRead}
use Rattle.macho_layout_laws.specs.Laws.{IsWhollyPlaced}
use Rattle.macho_synthetic.specs.declared.fault.MadeFault.{MadeFault}
use Rattle.macho_synthetic.specs.declared.fault.MadeFault.TheVariants.{TooLarge, OutOfMemory}

-- Two limits that a link keeps before it has addresses: all of these are below 2 ^ 64, and few functions are personalities.
pub record KeepsLimits (l : Link) (counts : Counts) : Type 0 where
  pub sum : IsTooLarge l counts None → ⊥
  pub personalities : (number : ℕ) → PassesLimit l counts limit.Personalities number None → ⊥

-- A link whose consumed sections keep their rules, and a placement of it.
pub record IsToMake (l : Link) (counts : Counts) (p : Placed) : Type 0 where
  pub objects : ObjectsAreRead l
  pub initializers : InitializersKeepRules l
  pub entries : EntriesKeepRules l
  pub counted : AreCounts l counts
  pub limits : KeepsLimits l counts
  pub placed : IsWhollyPlaced l counts p

-- the address that offset number k of a text says, counted from the base
abbrev pub offset_said : Placed → List ℕ → ℕ → ℕ
offset_said p text k = p.base + le_at INITIALIZER_SIZE text (INITIALIZER_SIZE * k)

-- The text of initializers' offsets: one for each, in order, and all of 32 bits.
pub record IsOffsetsText (l : Link) (p : Placed) (text : List ℕ) : Type 0 where
  pub long : length text ≡ INITIALIZER_SIZE * length (initializers_of l)
  pub are : map (offset_said p text) (range_with_len 0 (length (initializers_of l))) ≡ map (address_of p) (initializers_of l)
  pub near : All (λ t. address_of p t < p.base + LIMIT_32) (initializers_of l)

-- The text of unwind information.
pub record IsUnwindMade (l : Link) (p : Placed) (text : List ℕ) : Type 0 where
  -- it is that of the link's entries, and no more
  pub exact : IsUnwindText p.base (resolved_entries l p) text
  -- in whatever begins with it look-up finds the entries, and nothing else
  pub found : FindsEntries p.base (resolved_entries l p) text
  pub only : 0 < length (resolved_entries l p) → FindsOnlyEntries p.base (resolved_entries l p) text
  -- it fits the room that was counted
  pub room : length text ≤ unwind_size l
  -- no address of an entry passes 32 bits, nor the end of a function
  pub near : HasFarOffset p.base (resolved_entries l p) → ⊥
  pub ends : All (λ e. e.start + e.length < p.base + LIMIT_32) (resolved_entries l p)

-- why something is not made; nothing is claimed of want of memory
abbrev pub IsRefused : Link → Placed → MadeFault → Type 0
IsRefused l p TooLarge = ImagePasses l p
IsRefused l p OutOfMemory = Unit {0}
