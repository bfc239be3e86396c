-- The bytes of a changed image, as they are written one text after the other.
use Rattle.std.specs.Prelude.{◌≡◌, ℕ, ◌+◌, ◌*◌, ◌-◌, ◌<◌, ◌≤◌, ◌^◌, List, [], ◌∷◌, ◌++◌, length, max, replicate, slice_range}
use Rattle.macho_bytes.specs.Numbers.{little, le_bytes, row_bytes}
use Rattle.macho_bytes.specs.Texts.{put}
use Rattle.macho_model.specs.Commands.{Command, commands_end}
use Rattle.macho_model.specs.Signature.{page_count, page_digests}
use Rattle.macho_model.specs.Images.{Table}
use Rattle.macho_retool.specs.declared.change.Change.{Change}
use Rattle.macho_retool.specs.declared.form.Form.{Form}
use Rattle.macho_retool.specs.declared.rewriting.Place.{Place}
use Rattle.macho_retool.specs.steps.Formed.{SaysForm}
use Rattle.macho_retool.specs.steps.Clear.{ClearBelow}
use Rattle.macho_retool.specs.steps.Spliced.{IsReady}
use Rattle.macho_retool.specs.Changes.{command_number, record_size, path_for, new_size, new_end}

-- the places of a change fit each other, the image and its signature
pub record PlaceFits (change : Change) (b : List ℕ) (p : Place) (form : Form) : Type 0 where
  pub from : 32 ≤ p.at
  pub record_fits : record_size change ≤ p.old_size
  pub sized : p.new_size ≡ new_size change
  pub small : p.new_size < 2 ^ 32
  pub inside : p.at + p.old_size ≤ p.old_end
  pub moves : p.new_end + p.old_size ≡ p.old_end + p.new_size
  pub old_signed : p.old_end ≤ form.limit
  pub new_signed : p.new_end ≤ form.limit
  pub digests : form.limit + form.hashes_offset + 32 * page_count form.limit ≤ length b

-- the front of the new command: its numbers, what stays of the old one, which stands at the start of `old`, and the path
abbrev pub front : Change → ℕ → List ℕ → List ℕ
front change size old =
    row_bytes little 4 (command_number change ∷ size ∷ record_size change ∷ []) ++ (slice_range old 12
    (record_size change) ++ path_for change)

-- what stands from the named command on, up to where old and new load commands are both over
unfoldable pub changed_commands : Change → List ℕ → Place → List ℕ
changed_commands change b p =
    put p.new_size (slice_range b (p.at + p.old_size) p.old_end)
    (put 0 (front change p.new_size (slice_range b p.at (length b))) (replicate (max p.old_end p.new_end - p.at) 0))

-- the image before it is signed
unfoldable pub unsigned : Change → List ℕ → Place → List ℕ
unsigned change b p = put p.at (changed_commands change b p) (put 20 (le_bytes 4 (p.new_end - 32)) b)

-- an image with the digests of its pages in its signature
unfoldable pub signed_at : Form → List ℕ → List ℕ
signed_at form image = put (form.limit + form.hashes_offset) (page_digests image form.limit) image

-- the place of a change of a command
abbrev pub place_in : Change → List ℕ → Command → Place
place_in change b c =
    record { at = c.at; old_size = c.size; new_size = new_size change; old_end = commands_end b; new_end = new_end change b c }

-- the image is the changed one: no refusal stands, and its bytes are those that are written
pub record IsChanged (change : Change) (b x : List ℕ) : Type 0 where
  pub command : Command
  pub table : Table
  pub form : Form
  pub ready : IsReady change b command table
  pub says : SaysForm b table form
  pub small : form.limit < 2 ^ 32
  pub clear : ClearBelow b change 8
  pub is : x ≡ signed_at form (unsigned change b (place_in change b command))
