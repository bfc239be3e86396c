-- Flow lists: what is read over some lines is the tree of a list there, and the tree of a list is read, with the texts
-- of its scalars for names.
-- Both speak of what remains of a list behind its opening bracket (`ListTreesRemains`): the reading gives that token by
-- token (`ListTreesFound`) and reads it again (`ListTreesReads`); the tree spells it, and is gathered from it
-- (`ListTreesShape`). The number of the line stands in faults alone, and the places of the scalars in the tree alone,
-- so each holds of any.
use Rattle.std.proofs.Common.{◌≡◌, ◌≢◌, ℕ, false, List, [], ◌∷◌, drop, map, slice_index, Ok, refl, sym, ap, ◌∙◌, arith}
use Rattle.macho_stub_lines.specs.declared.list.Expect.TheVariants.{AfterOpen}
use Rattle.macho_stub_lines.specs.Bytes.{open_bracket, end}
use Rattle.macho_stub_lines.specs.Slices.{Slice, Line, texts_of}
use Rattle.macho_stub_lines.specs.Lists.{list_part, with_front}
use Rattle.macho_stub_lines.specs.FlowLists.{Block, bytes_then, IsFlowList}
use Rattle.macho_stub_lines.specs.steps.ListTrees.{between_then, followed_then, final_then, ListTree, slices_of, IsTreeList}
use Rattle.macho_stub_lines.specs.ReadLists.{ReadLine, read_line, GoesOn, IsReadList}
use Rattle.macho_stub_lines.proofs.Runs.{all_made, all_made_of}
use Rattle.macho_stub_lines.proofs.ListDerived.{list_of_tree, tree_of_list}
use Rattle.macho_stub_lines.proofs.ListTreesShape.{closing, texts_in, slices_say, list_remains, remains_spread}
use Rattle.macho_stub_lines.proofs.ListTreesReads.{remains_read}
use Rattle.macho_stub_lines.proofs.ListTreesFound.{read_remains}

-- a value that begins with the bracket
behind_bracket : (value : List ℕ) → slice_index value 0 ≡ open_bracket → value ≡ open_bracket ∷ drop 1 value
behind_bracket [] h = absurd (omega arith)
behind_bracket (b ∷ value) h = ap (λ (n : ℕ). n ∷ value) h

-- a line of a list isn't the end of a document
abbrev InList : ReadLine → Type 0
InList line = line.text ≢ end

-- Lines that are read as a list have the tree of one, and its scalars are the names.
pub list_found : (number at : ℕ) (value : List ℕ) (more : List Line) (names : List (List ℕ))
    → IsReadList number value (map read_line more) names → (says : List Slice) × IsFlowList at value more says × (texts_of says ≡ names)
list_found number at value more names read =
    let found = read_remains number AfterOpen false [] names (drop 1 value) more refl read.first read.begins read.goes_on in
    let spread = remains_spread false (record { head = drop 1 value; more = more }) found.names found.left in
    let scalars = spread.says in
    let tree : ListTree = record { opening = spread.between; followed = scalars.followed; final = scalars.final } in
    let one : Block = record { head = value; more = more } in
    let e : one ≡ bytes_then (open_bracket ∷ []) (record { head = drop 1 value; more = more }) =
    ap (λ (head : List ℕ). record { head = head; more = more }) (behind_bracket value read.bracket) in
    let spelled = e ∙ ap (bytes_then (open_bracket ∷ [])) (spread.spelled ∙ ap (between_then spread.between) scalars.spelled) in (
      slices_of at tree,
      list_of_tree at value more (slices_of at tree) (record {
        tree = tree;
        tail = scalars.tail;
        spelled = spelled;
        sound = record { opening = spread.sound; followed = scalars.sound; final = scalars.last };
        inside = all_made_of InList read_line more read.inside;
        ends = scalars.ends;
        is = refl;
      }),
      slices_say scalars.followed scalars.final _ ∙ scalars.say ∙ sym found.are,
    )

-- The tree of a list is read, with the texts of its scalars.
tree_reads : (number at : ℕ) (value : List ℕ) (more : List Line) (says : List Slice) → IsTreeList at value more says
    → IsReadList number value (map read_line more) (texts_of says)
tree_reads number at value more says list =
    let rest : Block = between_then list.tree.opening (followed_then list.tree.followed (final_then list.tree.final (closing list.tail))) in
    let names = texts_in list.tree.followed list.tree.final in
    let reads = remains_read false rest names (list_remains list.tree list.tail list.sound list.ends) AfterOpen refl number [] in
    let is : value ≡ open_bracket ∷ rest.head = ap (λ (b : Block). b.head) list.spelled in
    let lines : more ≡ rest.more = ap (λ (b : Block). b.more) list.spelled in
    let say : texts_of says ≡ names = ap texts_of list.is ∙ slices_say list.tree.followed list.tree.final _ in
    let begins : with_front [] (list_part number AfterOpen 0 (drop 1 value)) ≡ Ok reads.0 =
    ap (λ (bytes : List ℕ). with_front [] (list_part number AfterOpen 0 (drop 1 bytes))) is ∙ reads.1 in
    let goes_on : GoesOn reads.0 (map read_line more) (texts_of says) = rw (lines, say) reads.2 in
    record {
      bracket = rw is refl;
      first = reads.0;
      begins = begins;
      goes_on = goes_on;
      inside = all_made InList read_line more list.inside;
    }

-- A list is read, with the texts of its scalars.
pub list_reads : (number at : ℕ) (value : List ℕ) (more : List Line) (says : List Slice) → IsFlowList at value more says
    → IsReadList number value (map read_line more) (texts_of says)
list_reads number at value more says list = tree_reads number at value more says (tree_of_list at value more says list)
