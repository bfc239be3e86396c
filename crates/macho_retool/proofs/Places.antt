-- The places of a change that is ready fit each other.
--
-- The named command ends where the list does or before, and old and new list end in front of the signature; so the new command is shorter
-- than 2 ^ 32 bytes. The digests of all pages stand in the code directory, it in the signature, and that in the file.
use Rattle.std.proofs.Common.{◌≡◌, ℕ, ◌+◌, ◌*◌, ◌-◌, ◌^◌, ◌<◌, ◌≤◌, ◌==◌, List, length, refl, sym, ap, subst, arith}
use Rattle.std.specs.Prelude.{Contains}
use Rattle.std.proofs.lemmas.Bool.{leb-true}
use Rattle.macho_bytes.proofs.Bools.{and_left, and_right, is_equal}
use Rattle.macho_bytes.proofs.Members.{unfilter_contains}
use Rattle.macho_records.specs.CodeDirectory.{CodeDirectory}
use Rattle.macho_model.specs.Commands.{Command, commands_of, commands_end}
use Rattle.macho_model.specs.Images.{Table}
use Rattle.macho_model.specs.WrittenSum.{DIGEST_SIZE}
use Rattle.macho_model.specs.Signature.{page_count, DIRECTORY_PLACE}
use Rattle.macho_model.specs.Loader.{IsAccepted}
use Rattle.macho_retool.specs.declared.change.Change.{Change}
use Rattle.macho_retool.specs.declared.form.Form.{Form}
use Rattle.macho_retool.specs.declared.rewriting.Place.{Place}
use Rattle.macho_retool.specs.Changes.{IsNamed, command_number, count_of_change}
use Rattle.macho_retool.specs.Forms.{IsFormed, directory_in}
use Rattle.macho_retool.specs.steps.Formed.{SaysForm}
use Rattle.macho_retool.specs.steps.Spliced.{IsReady}
use Rattle.macho_retool.specs.steps.Rewritten.{PlaceFits, place_in}
use Rattle.macho_retool.proofs.Rooms.{ends_inside}
use Rattle.macho_retool.proofs.Known.{Known, known}

-- the named command ends where the list does or before
pub named_ends : (change : Change) (b : List ℕ) (c : Command) → IsAccepted b → IsNamed change b c → c.size ≤ commands_end b
named_ends change b c accepted named =
    let there : Contains (commands_of b) c = unfilter_contains (λ d. d.number == command_number change) (commands_of b) c
    (count_of_change change - 1, named.one.0, named.one.1) in
    let fits = ends_inside b c accepted there in
    let h = fits.0 in omega (arith, h)

-- the digests stand in the file
pub digests_inside : (b : List ℕ) (t : Table) → IsFormed b t
    → t.at + (DIRECTORY_PLACE + (directory_in b t).hash_offset) + 32 * page_count t.at ≤ length b
digests_inside b t formed =
    let d : CodeDirectory = directory_in b t in
    let last = leb-true (d.hash_offset + DIGEST_SIZE * d.code_slots) d.length (and_right _ _ formed.directory) in
    let slots = is_equal d.code_slots (page_count t.at) (and_right _ _ (and_left _ _ formed.directory)) in
    let fits = leb-true (DIRECTORY_PLACE + d.length) t.size (and_right _ _ formed.blob) in
    let ends = formed.ends in
    let same : 32 * d.code_slots ≡ 32 * page_count t.at = ap (λ n. 32 * n) slots in
    omega (arith, last, fits, ends, same)

-- all places fit
pub place_fits : (change : Change) (b : List ℕ) (c : Command) (t : Table) (p : Place) (form : Form) → IsReady change b c t
    → SaysForm b t form → form.limit < 2 ^ 32 → p ≡ place_in change b c → PlaceFits change b p form
place_fits change b c t p form ready says small is =
    let k : Known change b c t = known change b c t ready in
    let from = k.from in
    let inside = k.inside in
    let old_text = k.old_text in
    let new_text = k.new_text in
    let limit = k.limit in
    let at = says.0 in
    let hashes = says.1 in
    let digests = digests_inside b t ready.formed in
    let pages : 32 * page_count form.limit ≡ 32 * page_count t.at = ap (λ n. 32 * page_count n) at in
    subst (λ q. PlaceFits change b q form) (sym is)
    (record {
      from = from;
      record_fits = k.holds;
      sized = refl;
      small = omega (arith, small, at, limit, new_text, inside);
      inside = inside;
      moves = omega (arith, inside);
      old_signed = omega (arith, at, limit, old_text);
      new_signed = omega (arith, at, limit, new_text);
      digests = omega (arith, at, hashes, digests, pages);
    })
