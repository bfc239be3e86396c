-- What memory holds where the loader writes a word.
--
-- The word of the file becomes one value at each load: it moves with the image, or it binds an import that the choice has an address for.
-- In no byte of it another word begins, so memory holds the whole value there. And memory has one byte at each address, so a number that
-- it holds there is this value.
use Rattle.std.proofs.Common.{◌≡◌, ℕ, ◌+◌, ◌%◌, ◌^◌, ◌<◌, true, false, List, length, sym, ap, ◌∙◌, arith, Some}
use Rattle.std.specs.Prelude.{Contains, slice_index}
use Rattle.std.proofs.Math.Nat.{mod-lt}
use Rattle.std.proofs.lemmas.List.{ext_get_or}
use Rattle.macho_records.specs.Numbers.{le_at}
use Rattle.macho_model.specs.Needs.{POINTER_SIZE}
use Rattle.macho_model.specs.Images.{Table, tables_of, fixups_header, import_entry, import_name, import_library_name}
use Rattle.macho_model.specs.Loader.{IsAccepted, is_bind, ordinal_of}
use Rattle.macho_model.specs.Memory.{Choice, chosen, bind_addend, IsBound, HoldsNumber}
use Rattle.macho_model.proofs.ChainMemory.{fixed_word_is_held}
use Rattle.macho_model.proofs.PointerFixups.{moved_value, moved_is_held}
use Rattle.macho_verify_laws.proofs.OneMemory.{memory_is_one}
use Rattle.macho_verify_laws.proofs.Found.{HasFileWord}

-- memory holds one number of a width at an address
pub one_number : (b : List ℕ) (s : ℕ) (choice : Choice) (w x m n : ℕ) → IsAccepted b → HoldsNumber b s choice w x m
    → HoldsNumber b s choice w x n → m ≡ n
one_number b s choice w x m n accepted h k =
    let same : length h.text ≡ length k.text = h.long ∙ sym k.long in
    let texts : h.text ≡ k.text = ext_get_or 0 h.text k.text same (λ i lt.
    memory_is_one b s choice (x + i) (slice_index h.text i) (slice_index k.text i) accepted (h.held i lt)
    (k.held i (omega (arith, lt, same)))) in
    h.is ∙ ap (λ (t : List ℕ). le_at w t 0) texts ∙ sym k.is

-- what a word that moves becomes
pub rebase_is_held : (b : List ℕ) (a : ℕ) (h : HasFileWord b a) → is_bind h.word ≡ false → (s : ℕ) (choice : Choice)
    → HoldsNumber b s choice POINTER_SIZE (a + s) (moved_value b h.word s)
rebase_is_held b a h moves s choice =
    moved_is_held b a h.word (record { on = h.on; stands = h.stands; rebases = moves; alone = h.alone }) s choice

-- what binding an import by its entry adds to its address
abbrev pub added : List ℕ → Table → ℕ → ℕ
added b t word = (import_entry b t (ordinal_of word)).addend + bind_addend word

-- what a word that binds becomes
pub bind_is_held : (b : List ℕ) (a : ℕ) (h : HasFileWord b a) → is_bind h.word ≡ true → (t : Table) → Contains (tables_of b) t
    → ordinal_of h.word < (fixups_header b t).imports_count → (s : ℕ) (choice : Choice) (x : ℕ)
    → chosen choice (import_library_name b (import_entry b t (ordinal_of h.word))) (import_name b t (import_entry b t (ordinal_of h.word)))
    ≡ Some x
    → HoldsNumber b s choice POINTER_SIZE (a + s) ((x + added b t h.word) % 2 ^ 64)
bind_is_held b a h binds t one within s choice x chooses =
    let value : ℕ = (x + added b t h.word) % 2 ^ 64 in
    let bound : IsBound b choice h.word value = record {
      table = t;
      one = one;
      import = within;
      address = x;
      chooses = chooses;
      is = ap (λ (n : ℕ). n % 2 ^ 64) (omega arith);
    } in
    fixed_word_is_held b s choice a value (record { on = h.on; word = h.word; stands = h.stands; becomes = rw binds bound })
    (mod-lt (x + added b t h.word) (omega arith)) h.alone
