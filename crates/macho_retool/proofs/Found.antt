-- The command that a change names and the signature of an image, by the ranges that commands of a number give.
--
-- The range with a number is that of the command with this number in the list, and a command is what stands at its place. The signatures of
-- an image are the ranges of its commands, as tables: where there is one range, one table.
use Rattle.std.proofs.Common.{◌≡◌, ℕ, ◌+◌, ◌-◌, ◌<◌, ◌≤◌, ◌==◌, true, ◌&&◌, List, [], ◌∷◌, length, get_or, map, refl, sym, ap, subst, ◌∙◌, arith, Option, Some, None}
use Rattle.std.specs.Prelude.{Contains, nat_le}
use Rattle.std.proofs.lemmas.List.{get_or-map, length-map, get_or_default}
use Rattle.macho_bytes.proofs.Bools.{and_left, is_equal}
use Rattle.macho_bytes.proofs.Members.{unfilter_contains}
use Rattle.macho_records.specs.declared.header.SegmentCommand.{SegmentCommand}
use Rattle.macho_records.specs.declared.constants.TheConstants.{LC_CODE_SIGNATURE}
use Rattle.macho_loader.specs.declared.commands.LinkeditRange.{LinkeditRange}
use Rattle.macho_loader.specs.Lists.{range_of}
use Rattle.macho_model.specs.Commands.{Command, command_at, commands_of, numbered, commands_end}
use Rattle.macho_model.specs.Images.{Table, table_of_command, signatures_of, segments_named}
use Rattle.macho_model.specs.Segments.{TEXT}
use Rattle.macho_model.specs.Lists.{IsNumber, of_first}
use Rattle.macho_model.specs.Loader.{IsAccepted, segment_in}
use Rattle.macho_image_walks.specs.declared.walk.Listed.TheVariants as list
use Rattle.macho_image_walks.specs.Readings.{listed, IsNth}
use Rattle.macho_image_walks.proofs.ListedLaws.{texts_are, nth_image}
use Rattle.macho_image_walks.proofs.SegmentWalk.{at_its_place}
use Rattle.macho_retool.specs.declared.change.Change.{Change}
use Rattle.macho_retool.specs.declared.form.Form.{Form}
use Rattle.macho_retool.specs.Changes.{IsNamed, command_number, count_of_change}
use Rattle.macho_retool.specs.Parts.{text_end}
use Rattle.macho_retool.specs.Forms.{IsFormed}
use Rattle.macho_retool.specs.steps.Formed.{table_in, IsFormHere, IsFormIn}

-- a command of the list is what stands at its place
pub stands_there : (b : List ℕ) (x : Command) → Contains (commands_of b) x → command_at b x.at ≡ x
stands_there b x (k, lt, is) = subst (λ y. command_at b y.at ≡ y) is (sym (at_its_place b k x lt))

-- the one that a change names
pub named_found : (change : Change) (b : List ℕ) (n count : ℕ) (ranges : List LinkeditRange) (r : LinkeditRange)
    → n ≡ command_number change → ranges ≡ map (range_of b) (numbered n b) → count ≡ count_of_change change → 1 ≤ count
    → count ≤ length ranges
    → r ≡ get_or ranges (count - 1) r → IsNamed change b (command_at b r.command)
named_found change b n count ranges r kind are which some within is =
    let cs : List Command = numbered n b in
    let d : Command = command_at b 0 in
    let long : length ranges ≡ length cs = ap (λ (rs : List LinkeditRange). length rs) are ∙ length-map cs (range_of b) in
    let lt : count - 1 < length cs = omega (arith, some, within, long) in
    let x : Command = get_or cs (count - 1) d in
    let one : r ≡ range_of b x = is ∙ ap (λ rs. get_or rs (count - 1) r) are ∙ get_or-map (range_of b) cs (count - 1) d r lt in
    let in_all : Contains (commands_of b) x = unfilter_contains (λ c. c.number == n) (commands_of b) x
    (count - 1, lt, get_or_default cs (count - 1) x d lt) in
    let same : command_at b r.command ≡ x = ap (λ (s : LinkeditRange). command_at b s.command) one ∙ stands_there b x in_all in
    let there : IsNumber cs (count - 1) x = (lt, get_or_default cs (count - 1) x d lt) in
    record {
      from_one = subst (λ k. 1 ≤ k) which some;
      one = subst (λ k. IsNumber (numbered k b) (count_of_change change - 1) (command_at b r.command)) kind
          (subst (λ k. IsNumber cs (k - 1) (command_at b r.command)) which (subst (λ y. IsNumber cs (count - 1) y) (sym same) there));
    }

-- the signatures are the ranges
signatures_are : (b : List ℕ) (ranges : List LinkeditRange) → ranges ≡ map (range_of b) (numbered LC_CODE_SIGNATURE b)
    → signatures_of b ≡ map table_in ranges
unfolding signatures_of
signatures_are b ranges are =
    sym (ap (λ rs. map table_in rs) are ∙ both (numbered LC_CODE_SIGNATURE b))
  where
    both : (cs : List Command) → map table_in (map (range_of b) cs) ≡ map (table_of_command b) cs
    both [] = refl
    both (x ∷ xs) = ap (λ ts. table_of_command b x ∷ ts) (both xs)

one_of : (ranges : List LinkeditRange) (d : LinkeditRange) → length ranges ≡ 1 → map table_in ranges ≡ table_in (get_or ranges 0 d) ∷ []
one_of [] d long = absurd (omega (arith, long))
one_of (x ∷ []) d long = refl
one_of (x ∷ y ∷ rest) d long = absurd (omega (arith, long))

head_is : (t u : Table) (ts : List Table) → t ∷ [] ≡ u ∷ ts → t ≡ u
head_is t u ts is = ap (λ (xs : List Table). of_first t (λ x. x) xs) is

-- one range: it has the form, or none has
pub form_found : (b : List ℕ) (ranges : List LinkeditRange) (d : LinkeditRange) (o : Option Form)
    → ranges ≡ map (range_of b) (numbered LC_CODE_SIGNATURE b)
    → length ranges ≡ 1 → IsFormHere b (table_in (get_or ranges 0 d)) o → IsFormIn b o
form_found b ranges d (Some form) are long here =
    let one = signatures_are b ranges are ∙ one_of ranges d long in (table_in (get_or ranges 0 d), here.0 one, here.1)
form_found b ranges d None are long none =
    λ t formed. none (subst (λ u. IsFormed b u) (head_is t (table_in (get_or ranges 0 d)) []
    (sym formed.one ∙ signatures_are b ranges are ∙ one_of ranges d long)) formed)

-- another number of ranges: none has
pub form_missing : (b : List ℕ) (ranges : List LinkeditRange) → ranges ≡ map (range_of b) (numbered LC_CODE_SIGNATURE b)
    → (length ranges ≡ 1 → ⊥) → (t : Table) → IsFormed b t → ⊥
form_missing b ranges are other t formed =
    let long : length (map table_in ranges) ≡ 1 =
    ap (λ (ts : List Table). length ts) (sym (signatures_are b ranges are) ∙ formed.one) in
    other (sym (length-map ranges table_in) ∙ long)

-- `__TEXT` begins with the file, so its file bytes end where they are many
pub text_found : (b : List ℕ) (place size : ℕ) → IsAccepted b → IsNth list.Texts b 0 place
    → size ≡ (segment_in b (command_at b place)).filesize → size ≡ text_end b
text_found b place size accepted nth is =
    let d : SegmentCommand = segment_in b (command_at b place) in
    let there : get_or (segments_named TEXT b) 0 d ≡ d =
    ap (λ (ss : List SegmentCommand). get_or ss 0 d) (texts_are b) ∙ nth_image (segment_in b) list.Texts b 0 place d nth in
    let some : 0 < length (segments_named TEXT b) =
    omega (
      arith,
      nth.within,
      ap (λ (ss : List SegmentCommand). length ss) (texts_are b),
      length-map (listed list.Texts b)
          (segment_in b),
    ) in
    let first : d.fileoff ≡ 0 =
    is_equal d.fileoff 0
    (and_left (d.fileoff == 0) (nat_le (commands_end b) d.filesize)
    (subst (λ (s : SegmentCommand). ((s.fileoff == 0) && nat_le (commands_end b) s.filesize) ≡ true) there (accepted.l7.1 0 d some))) in
    is ∙ no_offset d.fileoff d.filesize first ∙ first_of (segments_named TEXT b) d some there
  where
    no_offset : (m n : ℕ) → m ≡ 0 → n ≡ m + n
    no_offset m n none = omega (arith, none)

    first_of : (ss : List SegmentCommand) (d : SegmentCommand) → 0 < length ss → get_or ss 0 d ≡ d
        → d.fileoff + d.filesize ≡ of_first 0 (λ (s : SegmentCommand). s.fileoff + s.filesize) ss
    first_of [] d some is = absurd (omega (arith, some))
    first_of (s ∷ ss) d some is = ap (λ (t : SegmentCommand). t.fileoff + t.filesize) (sym is)

pub text_missing : (b : List ℕ) → length (listed list.Texts b) ≤ 0 → 0 ≡ text_end b
text_missing b none =
    none_of (segments_named TEXT b)
    (omega (arith, none, ap (λ (ss : List SegmentCommand). length ss) (texts_are b), length-map (listed list.Texts b) (segment_in b)))
  where
    none_of : (ss : List SegmentCommand) → length ss ≤ 0 → 0 ≡ of_first 0 (λ (s : SegmentCommand). s.fileoff + s.filesize) ss
    none_of [] none = refl
    none_of (s ∷ ss) none = absurd (omega (arith, none))
