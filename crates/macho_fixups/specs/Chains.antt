-- The words of a run of fixups in the file: where each stands, and how far it leads on.
use Rattle.std.specs.Prelude.{◌≡◌, ℕ, ◌+◌, ◌-◌, ◌*◌, ◌/◌, ◌<◌, ◌≤◌, ◌==◌, nat_lt, if◌then◌else◌, true, false, List, [], ◌∷◌, length, map, get_or, slice_index, All, Contains, ◌↔◌}
use Rattle.std.specs.List.{range_with_len}
use Rattle.macho_bytes.specs.Numbers.{le_bytes}
use Rattle.macho_bytes.specs.Texts.{Part, Stands, IsOutside}
use Rattle.macho_model.specs.Segments.{SEGMENT_PAGE}
use Rattle.macho_model.specs.Chain.{STRIDE, ChainSegment, IsFileWord, next_of, OnChain, OnPageChain}
use Rattle.macho_model.specs.Needs.{POINTER_SIZE}
use Rattle.macho_fixups.specs.declared.run.Fixup.{Fixup}
use Rattle.macho_fixups.specs.declared.run.FixupSegment.{FixupSegment}
use Rattle.macho_fixups.specs.Words.{has_word, word_of, IsWordOf}
use Rattle.macho_fixups.specs.Runs.{Holds, is_in, pages_of, start_of}

-- the place in the file of an address of a segment's file part
unfoldable pub place_of : List FixupSegment → ℕ → ℕ
place_of [] a = 0
place_of (s ∷ segments) a = if is_in s a then s.file_offset + (a - s.address) else place_of segments a

-- the steps from one address to another of the same page, 0 where the page is another one
abbrev pub step_between : ℕ → ℕ → ℕ
step_between a b = if a / SEGMENT_PAGE == b / SEGMENT_PAGE then (b - a) / STRIDE else 0

abbrev pub address_at : List Fixup → ℕ → ℕ
address_at fixups k = slice_index (map (λ f. f.address) fixups) k

-- the steps from a fixup to the next one of its page, 0 at the page's last one
unfoldable pub step_of : List Fixup → ℕ → ℕ
step_of fixups k = if nat_lt (k + 1) (length fixups) then step_between (address_at fixups k) (address_at fixups (k + 1)) else 0

-- the word of fixup k, at its place
abbrev pub word_part : List FixupSegment → List Fixup → ℕ → Fixup → Part
word_part segments fixups k f =
    record { at = place_of segments f.address; text = le_bytes POINTER_SIZE (word_of f.kind (step_of fixups k)) }

-- The words of the first n fixups are written: each says what is asked, each stands, and every byte outside them is as before.
pub record AreWritten (segments : List FixupSegment) (fixups : List Fixup) (n : ℕ) (before now : List ℕ) : Type 0 where
  pub size : length now ≡ length before
  pub words : (k : ℕ) (d : Fixup) → k < n
      → IsWordOf (get_or fixups k d).kind (step_of fixups k) (word_of (get_or fixups k d).kind (step_of fixups k))
  pub each : (k : ℕ) (d : Fixup) → k < n → Stands now (word_part segments fixups k (get_or fixups k d))
  pub outside : (i : ℕ) → ((k : ℕ) (d : Fixup) → k < n → IsOutside i (word_part segments fixups k (get_or fixups k d)))
      → slice_index now i ≡ slice_index before i

-- the first n fixups have words
pub record HaveWords (fixups : List Fixup) (n : ℕ) : Type 0 where
  pub each : (k : ℕ) (d : Fixup) → k < n → has_word (get_or fixups k d).kind ≡ true

-- fixup n is the first that has no word
pub record IsFirstRefused (fixups : List Fixup) (n : ℕ) : Type 0 where
  pub within : n < length fixups
  pub none : (d : Fixup) → has_word (get_or fixups n d).kind ≡ false
  pub before : HaveWords fixups n

-- the file part of each segment with a fixup lies in so many bytes
abbrev pub HaveRoom : List FixupSegment → List Fixup → ℕ → Type 0
HaveRoom segments fixups n =
    All (λ s. (f : Fixup) → Contains fixups f → Holds s f.address → s.file_offset + s.file_size ≤ n) segments

-- all words stand in a file
pub record AllStand (segments : List FixupSegment) (fixups : List Fixup) (b : List ℕ) : Type 0 where
  pub each : (k : ℕ) (d : Fixup) → k < length fixups → Stands b (word_part segments fixups k (get_or fixups k d))

-- the starts of a segment's pages, up to the last one with a fixup
abbrev pub starts_in : List Fixup → FixupSegment → List ℕ
starts_in fixups s = map (λ page. start_of fixups (s.address / SEGMENT_PAGE + page)) (range_with_len 0 (pages_of s fixups))

-- a segment with these starts, as chains see it
abbrev pub chain_seen : List Fixup → FixupSegment → ChainSegment
chain_seen fixups s = record { address = s.address; file_offset = s.file_offset; file_size = s.file_size; starts = starts_in fixups s }

-- an address is that of a fixup
abbrev pub IsAddressOf : List Fixup → ℕ → Type 0
IsAddressOf fixups a = (f : Fixup) × Contains fixups f × (f.address ≡ a)

-- the address of a fixup by its number, and its page
abbrev pub address_of : List Fixup → ℕ → Fixup → ℕ
address_of fixups k d = (get_or fixups k d).address

-- So many steps from a fixup: they lead to the next fixup, on the same page. There are none where the page has no further one.
pub record IsStepOf (fixups : List Fixup) (k : ℕ) (d : Fixup) (steps : ℕ) : Type 0 where
  pub next : 1 ≤ steps → (k + 1 < length fixups) × (address_of fixups k d + STRIDE * steps ≡ address_of fixups (k + 1) d)
  pub page : 1 ≤ steps → address_of fixups (k + 1) d / SEGMENT_PAGE ≡ address_of fixups k d / SEGMENT_PAGE
  pub last : steps ≡ 0 → k + 1 < length fixups → address_of fixups k d / SEGMENT_PAGE < address_of fixups (k + 1) d / SEGMENT_PAGE

-- A word of the chain of a segment's page is that of a fixup. It stands whole in that page, and in the segment's file part.
pub record IsPageWord (fixups : List Fixup) (g : ChainSegment) (page a : ℕ) : Type 0 where
  pub one : IsAddressOf fixups a
  pub page_from : g.address + SEGMENT_PAGE * page ≤ a
  pub page_to : a + POINTER_SIZE ≤ g.address + SEGMENT_PAGE * (page + 1)
  pub inside : a + POINTER_SIZE ≤ g.address + g.file_size

-- In every file in which the words stand, and whose page starts are those of the run, the chain is the run.
pub record ChainIsRun (segments : List FixupSegment) (fixups : List Fixup) : Type 0 where
  pub set : (b : List ℕ) (a : ℕ) → AllStand segments fixups b → OnChain (map (chain_seen fixups) segments) b a ↔ IsAddressOf fixups a
  pub says : (b : List ℕ) (k word : ℕ) (d : Fixup) → AllStand segments fixups b → k < length fixups
      → IsFileWord (map (chain_seen fixups) segments) b (get_or fixups k d).address word
      → IsWordOf (get_or fixups k d).kind (step_of fixups k) word
  -- so a page's chain goes through its fixups in the order of their addresses, each once
  pub onward : (b : List ℕ) (k word : ℕ) (d : Fixup) → AllStand segments fixups b → k < length fixups
      → IsFileWord (map (chain_seen fixups) segments) b (get_or fixups k d).address word → IsStepOf fixups k d (next_of word)
  -- and every word of it is that of a fixup of its page
  pub pages : (b : List ℕ) (g : ChainSegment) (page a : ℕ) → AllStand segments fixups b → Contains (map (chain_seen fixups) segments) g
      → OnPageChain (map (chain_seen fixups) segments) b g page a → IsPageWord fixups g page a
