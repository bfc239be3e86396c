-- The head of an image is found: the header with the number of the commands and of their bytes, and each command with its numbers cut.
--
-- The header stands first, and its fields are constants but for these two numbers. What it says of the bytes is what is left of their
-- number in 32 bits; and the end of the commands is where the placement's head ends. So the bytes are that many, and below 2 ^ 32. Each
-- command has at least 8 of them, so the number of commands fits too, and so does the size of each.
use Rattle.std.proofs.Common.{◌≡◌, ℕ, ◌+◌, ◌*◌, ◌%◌, ◌^◌, ◌<◌, Bool, true, false, List, [], ◌∷◌, ◌++◌, length, map, refl, sym, ap, subst, ◌∙◌, arith, All}
use Rattle.std.specs.Prelude.{if◌then◌else◌, sum_by}
use Rattle.std.specs.List.{concat, flat_map}
use Rattle.std.proofs.lemmas.List.{length-map, map-append}
use Rattle.std.proofs.lemmas.List.Concat.{flat_map-cons}
use Rattle.macho_bytes.specs.Numbers.{AllBelow, row_bytes}
use Rattle.macho_bytes.specs.Texts.{Stands}
use Rattle.macho_bytes.proofs.Layouts.{reads_back}
use Rattle.macho_bytes.proofs.Numbers.{little_is_sound, stands-front, stands-back}
use Rattle.macho_records.specs.declared.header.MachHeader.{MachHeader}
use Rattle.macho_records.specs.declared.constants.TheConstants.{MH_DYLIB, MH_EXECUTE}
use Rattle.macho_model.specs.declared.placed.Counts.{Counts}
use Rattle.macho_model.specs.declared.placed.PlacedSegment.{PlacedSegment}
use Rattle.macho_model.specs.Commands.{header_of, commands_from, commands_of, commands_end}
use Rattle.macho_model.specs.Links.{Link}
use Rattle.macho_model.specs.Placement.{Placed, head_size}
use Rattle.macho_model.specs.Head as head
use Rattle.macho_model.specs.Head.{headers_in, head_for, HeadSays}
use Rattle.macho_model.specs.HeadCommands.{HeadCommand, command_in, commands_in, size_said, commands_for, header_with, flags_for, describes_thread_locals}
use Rattle.macho_commands.specs.Texts.{text_said}
use Rattle.macho_commands.proofs.HeadBytes.{commands-spelled}
use Rattle.macho_promise.specs.Sizes.{commands_size}
use Rattle.macho_placed_laws.proofs.Heads.{commands_sized}
use Rattle.macho_head_laws.proofs.Cut.{bytes_cut4, segment_cut, header_cut, counts_cut, placed_cut}
use Rattle.macho_head_laws.proofs.Alike.{headers_cut, commands_alike}
use Rattle.macho_head_laws.proofs.Fits.{IsWhole}
use Rattle.macho_head_laws.proofs.Walk.{EachThere, each_there, walked, said_there, length-all, sizes_fit, count_fits}
use Rattle.macho_bytes.specs.Spellings.{spelling, ReadsBack}
use Rattle.macho_records.specs.Spellings.{mach_header_rows}

-- the header with a number of commands and of bytes, and with what is left of them
header_spelled : (l : Link) (p : Placed) (n m : ℕ) → spelling mach_header_rows (header_with l p (n % 2 ^ 32) (m % 2 ^ 32))
    ≡ spelling mach_header_rows (header_with l p n m)
unfolding spelling row_bytes
header_spelled l p n m = rw (bytes_cut4 n, bytes_cut4 m) refl

type_fits : (e : Bool) → (if e then MH_EXECUTE else MH_DYLIB) < 256 ^ 4
type_fits true = omega arith
type_fits false = omega arith

flags_fit : (l : Link) (p : Placed) → flags_for l p < 256 ^ 4
flags_fit l p = by l.executable (describes_thread_locals p) refl refl
  where
    by : (x y : Bool) → l.executable ≡ x → describes_thread_locals p ≡ y → flags_for l p < 256 ^ 4
    by true true e f = rw (e, f) (omega arith)
    by true false e f = rw (e, f) (omega arith)
    by false true e f = rw (e, f) (omega arith)
    by false false e f = rw (e, f) (omega arith)

header_back : (l : Link) (p : Placed) (n m : ℕ) → ReadsBack mach_header_rows (header_with l p (n % 2 ^ 32) (m % 2 ^ 32))
header_back l p n m =
    let fit : (header_with l p (n % 2 ^ 32) (m % 2 ^ 32)).flags < 256 ^ 4 = flags_fit l p in
    let last : AllBelow 4 (n % 2 ^ 32 ∷ m % 2 ^ 32 ∷ flags_for l p ∷ 0 ∷ []) = (omega arith, (omega arith, (fit, (omega arith, tt)))) in
    reads_back mach_header_rows (header_with l p (n % 2 ^ 32) (m % 2 ^ 32)) little_is_sound
    (((omega arith, (omega arith, (omega arith, (type_fits l.executable, last)))), refl), tt)
    refl

-- what is found of a head
pub record HeadFound (l : Link) (b : List ℕ) (p : Placed) (hs : List HeadCommand) : Type 0 where
  pub header : header_of b ≡ header_with l p (length hs) (sum_by size_said hs)
  pub commands : commands_in b ≡ hs

-- THE commands of a file that begins with them, where their bytes are as many as the header says
list_found : (l : Link) (b : List ℕ) (p : Placed) (hs : List HeadCommand) → All IsWhole hs
    → Stands b (record { at = 0; text = head_for l p (map text_said hs) })
    → (header_of b ≡ header_with l p (length hs % 2 ^ 32) (sum_by size_said hs % 2 ^ 32)
    → sum_by size_said hs % 2 ^ 32 ≡ sum_by size_said hs)
    → HeadFound l b p hs
unfolding head_for header_of commands_of commands_in spelling
list_found l b p hs whole s fits =
    record {
      header = header;
      commands = ap (λ (h : MachHeader). map (command_in b) (commands_from b 32 h.ncmds)) header
          ∙ ap (map (command_in b)) (walked hs b 32 each) ∙ said_there hs b 32 each;
    }
  where
    count : ℕ
    count = length hs

    size : ℕ
    size = sum_by size_said hs

    front : List ℕ
    front = spelling mach_header_rows (header_with l p count size)

    alike : spelling mach_header_rows (header_with l p (length (map text_said hs)) (sum_by length (map text_said hs))) ≡ front
    alike =
        ap (λ (n : ℕ). spelling mach_header_rows (header_with l p n (sum_by length (map text_said hs)))) (length-map hs text_said)
        ∙ ap (λ (n : ℕ). spelling mach_header_rows (header_with l p count n)) (length-all hs whole)

    stands : Stands b (record { at = 0; text = front ++ concat (map text_said hs) })
    stands = subst (λ (t : List ℕ). Stands b (record { at = 0; text = t ++ concat (map text_said hs) })) alike s

    back : ReadsBack mach_header_rows (header_with l p (count % 2 ^ 32) (size % 2 ^ 32))
    back = header_back l p count size

    cut : header_of b ≡ header_with l p (count % 2 ^ 32) (size % 2 ^ 32)
    cut =
        back.back b 0 (subst (λ (t : List ℕ). Stands b (record { at = 0; text = t })) (sym (header_spelled l p count size))
        (stands-front b 0 front (concat (map text_said hs)) stands))

    size_is : size % 2 ^ 32 ≡ size
    size_is = fits cut

    small : size < 2 ^ 32
    small = omega (arith, size_is)

    count_is : count % 2 ^ 32 ≡ count
    count_is = omega (arith, small, count_fits hs whole)

    header : header_of b ≡ header_with l p count size
    header = cut ∙ ap (λ (n : ℕ). header_with l p n (size % 2 ^ 32)) count_is ∙ ap (header_with l p count) size_is

    long : length front ≡ 32
    long = ap length (sym (header_spelled l p count size)) ∙ back.long

    each : EachThere b 32 hs
    each =
        each_there hs b 32 whole (sizes_fit hs small) (stands-back b 0 32 front (concat (map text_said hs)) (omega (arith, long)) stands)

-- the headers of all segments are cut one by one
pub sections_cut : (l : Link) (p : Placed) (ss : List PlacedSegment)
    → flat_map (headers_in (placed_cut l p)) (map segment_cut ss) ≡ map header_cut (flat_map (headers_in p) ss)
sections_cut l p [] = refl
sections_cut l p (s ∷ ss) =
    rw (
      flat_map-cons (headers_in (placed_cut l p)) (segment_cut s) (map segment_cut ss),
      flat_map-cons (headers_in p) s ss,
      map-append header_cut (headers_in p s) (flat_map (headers_in p) ss),
      headers_cut l p s,
      sections_cut l p ss,
    ) refl

-- THE head of an image
pub head_found : (l : Link) (counts : Counts) (uuid b : List ℕ) (p : Placed) (says : HeadSays l counts uuid b p)
    → All IsWhole (commands_for l (counts_cut counts) (placed_cut l p) uuid (says.trie % 2 ^ 32)) → counts.commands ≡ commands_size l
    → flat_map (headers_in p) p.segments ≡ p.output_sections → commands_end b + counts.padding ≡ head_size counts p
    → HeadFound l b p (commands_for l (counts_cut counts) (placed_cut l p) uuid (says.trie % 2 ^ 32))
unfolding commands_end
head_found l counts uuid b p says whole counted headers ends =
    list_found l b p hs whole
    (subst (λ (ts : List (List ℕ)). Stands b (record { at = 0; text = head_for l p ts })) (sym texts) says.text)
    (λ cut. omega (arith, ap (λ (h : MachHeader). h.sizeofcmds) cut, sized, count, all, counted, ends))
  where
    hs : List HeadCommand
    hs = commands_for l (counts_cut counts) (placed_cut l p) uuid (says.trie % 2 ^ 32)

    texts : map text_said hs ≡ head.commands_for l counts p uuid says.trie
    texts = commands_alike l counts p uuid says.trie ∙ commands-spelled l counts p uuid says.trie

    sized : sum_by size_said hs ≡ 72 * length (placed_cut l p).segments
        + 80 * length (flat_map (headers_in (placed_cut l p)) (placed_cut l p).segments) + commands_size l
    sized = commands_sized l (counts_cut counts) (placed_cut l p) uuid (says.trie % 2 ^ 32)

    count : length (placed_cut l p).segments ≡ length p.segments
    count = length-map p.segments segment_cut

    all : length (flat_map (headers_in (placed_cut l p)) (placed_cut l p).segments) ≡ length p.output_sections
    all =
        ap length (sections_cut l p p.segments) ∙ length-map (flat_map (headers_in p) p.segments) header_cut ∙ ap length headers
