-- A word that leads to a target leads there at every load.
--
-- If it moves with the image, it says the target's address at slide 0, up to the addend. The slide is added to the word and to the target
-- alike, so both agree at each slide. If it binds the target's import, then every load has an address for it, which is where the target is;
-- and the word becomes that address and the two addends, which make up the addend.
use Rattle.std.proofs.Common.{◌≡◌, ℕ, ◌+◌, ◌*◌, ◌-◌, ◌%◌, ◌^◌, true, false, List, [], get_or, refl, sym, ap, ◌∙◌, arith}
use Rattle.std.specs.FinMap.{empty}
use Rattle.std.proofs.lemmas.Bool.{true≢false}
use Rattle.macho_model.specs.declared.targets.Target.{Target}
use Rattle.macho_model.specs.declared.targets.Target.TheVariants as target
use Rattle.macho_model.specs.Links.{Link}
use Rattle.macho_model.specs.Needs.{imports_of, import_library, POINTER_SIZE}
use Rattle.macho_model.specs.Targets.{is_defined}
use Rattle.macho_model.specs.Values.{is_absolute_target}
use Rattle.macho_model.specs.Placement.{Placed}
use Rattle.macho_model.specs.Meaning.{Same}
use Rattle.macho_model.specs.Images.{base_of, libraries_of, import_entry, import_library_name}
use Rattle.macho_model.specs.Loader.{ordinal_of}
use Rattle.macho_model.specs.Memory.{Choice, chosen, rebase_target, rebase_high, HoldsNumber}
use Rattle.macho_model.specs.ReadBack.{SaysRebase, SaysBind}
use Rattle.macho_model.specs.Stands.{IsAt}
use Rattle.macho_model.proofs.FieldSlides.{defined_moves}
use Rattle.macho_model.proofs.PointerFixups.{moved_value, moved_is_held}
use Rattle.macho_verify_laws.specs.Loads.{Always}
use Rattle.macho_verify_laws.specs.InFile.{WordLeads}
use Rattle.macho_verify_laws.proofs.Found.{HasFileWord}
use Rattle.macho_verify_laws.proofs.Written.{added, bind_is_held}

-- At a load the 8 bytes at an address are a target's address and an addend.
pub record PointsAt (l : Link) (b : List ℕ) (p : Placed) (a : ℕ) (t : Target) (addend s : ℕ) (choice : Choice) : Type 0 where
  pub word : ℕ
  pub held : HoldsNumber b s choice POINTER_SIZE (a + s) word
  pub x : ℕ
  pub at : IsAt l p s choice t x
  pub points : Same word (x + addend)

-- a value of 64 bits, and what it is compared with, move alike
both_move : (n value x addend s : ℕ) → value ≡ n % 2 ^ 64 → Same value (x + addend) → Same ((n + s) % 2 ^ 64) (x + s + addend)
both_move n value x addend s is same = omega (arith, is, same)

-- a word that moves, to a target that does
pub moved_points : (l : Link) (b : List ℕ) (p : Placed) (a : ℕ) (t : Target) (addend value x : ℕ) → HasFileWord b a → is_defined t ≡ true
    → SaysRebase b a value → IsAt l p 0 empty t x → Same value (x + addend) → Always l b (PointsAt l b p a t addend)
moved_points l b p a t addend value x h moves says at same s choice load =
    record {
      word = moved_value b says.word s;
      held = moved_is_held b a says.word (record { on = h.on; stands = says.stands; rebases = says.rebases; alone = h.alone }) s choice;
      x = x + s;
      at = defined_moves l p empty choice t x s moves at;
      points = both_move (rebase_target says.word + rebase_high says.word * 2 ^ 56 + base_of b) value x addend s says.is same;
    }

-- an address of an import and both addends
both_bind : (x n sum addend : ℕ) → sum ≡ n % 2 ^ 64 → Same sum addend → Same ((x + n) % 2 ^ 64) (x + addend)
both_bind x n sum addend is same = omega (arith, is, same)

-- a word that binds an import, by the names of its library and its own
pub bound_points : (l : Link) (b : List ℕ) (p : Placed) (a id addend library sum : ℕ) → HasFileWord b a
    → SaysBind b a library (get_or (imports_of l) id []) sum
    → get_or (libraries_of b) (library - 1) [] ≡ import_library l (get_or (imports_of l) id []) → Same sum addend
    → Always l b (PointsAt l b p a (target.Import id) addend)
bound_points l b p a id addend library sum h says of same s choice load =
    let name = get_or (imports_of l) id [] in
    let entry = import_entry b says.table (ordinal_of says.word) in
    let chosen_at = load.image says.table (ordinal_of says.word) says.one says.import in
    let word : HasFileWord b a = record {
      on = h.on;
      word = says.word;
      stands = says.stands;
      alone = h.alone;
      import = λ binds. (says.table, says.one, says.import);
    } in
    let library_name : import_library l name ≡ import_library_name b entry =
    sym of ∙ ap (λ (n : ℕ). get_or (libraries_of b) (n - 1) []) says.library_is in
    record {
      word = (chosen_at.0 + added b says.table says.word) % 2 ^ 64;
      held = bind_is_held b a word says.binds says.table says.one says.import s choice chosen_at.0 chosen_at.2;
      x = chosen_at.0;
      at = ap (λ (n : List ℕ). chosen choice n name) library_name
          ∙ ap (λ (n : List ℕ). chosen choice (import_library_name b entry) n) says.name_is ∙ chosen_at.2;
      points = both_bind chosen_at.0 (added b says.table says.word) sum addend says.addend_is same;
    }

-- THE word points to its target at every load.
pub leads_always : (l : Link) (b : List ℕ) (p : Placed) (a : ℕ) (t : Target) (addend : ℕ) → HasFileWord b a → is_absolute_target t ≡ false
    → WordLeads l b p a t addend → Always l b (PointsAt l b p a t addend)
leads_always l b p a (target.Section file section offset) addend h moves (value, x, says, at, same) =
    moved_points l b p a (target.Section file section offset) addend value x h refl says at same
leads_always l b p a (target.Common id) addend h moves (value, x, says, at, same) =
    moved_points l b p a (target.Common id) addend value x h refl says at same
leads_always l b p a (target.Import id) addend h moves (library, sum, says, of, same) =
    bound_points l b p a id addend library sum h says of same
leads_always l b p a target.Base addend h moves (value, x, says, at, same) =
    moved_points l b p a target.Base addend value x h refl says at same
leads_always l b p a (target.Absolute value) addend h moves leads = absurd (true≢false moves)
leads_always l b p a target.None addend h moves (value, x, says, at, same) = absurd at
