-- The offsets that are written are those of the link's initializers, or one of these is too far away.
--
-- What is looked up for a row is its target's address, at the base or above it. So the number that was written, added to the base, is
-- that address, and has 32 bits; and where none could be written, the address is 2^32 or more above the base, also where it would
-- pass 64 bits, since the base is at most 2^32.
use Rattle.std.proofs.Common.{◌≡◌, ℕ, ◌+◌, ◌*◌, ◌^◌, ◌<◌, ◌≤◌, inl, inr, Bool, true, false, List, length, get_or, map, sym, ap, subst, ◌∙◌, arith}
use Rattle.std.specs.Prelude.{Contains, if◌then◌else◌}
use Rattle.std.specs.FinMap.{empty}
use Rattle.std.specs.List.{range_with_len}
use Rattle.std.proofs.lemmas.List.{ext_get_or, get_or-map, length-map}
use Rattle.std.proofs.lemmas.List.FromFn.{get_or-range_with_len, length-range_with_len}
use Rattle.macho_bytes.specs.Numbers.{le_at}
use Rattle.macho_bytes.proofs.Members.{map_contains}
use Rattle.macho_model.specs.declared.placed.Counts.{Counts}
use Rattle.macho_model.specs.declared.targets.Target.{Target}
use Rattle.macho_model.specs.declared.targets.Target.TheVariants as target
use Rattle.macho_model.specs.Links.{Link}
use Rattle.macho_model.specs.Placement.{Placed}
use Rattle.macho_model.specs.Addresses.{section_address, address_of}
use Rattle.macho_model.specs.Consumed.{is_section_target}
use Rattle.macho_model.specs.Made.{initializers_of}
use Rattle.macho_model.specs.Stands.{IsAt}
use Rattle.macho_model.specs.Limits.{ImagePasses, initializer}
use Rattle.macho_consumed.specs.declared.rows.Initializer.{Initializer}
use Rattle.macho_consumed.specs.Rows.{initializer_rows}
use Rattle.macho_consumed.specs.Laws.{section_of_initializer, target_of_initializer}
use Rattle.macho_consumed.proofs.RowLaws.{are_rows, are_many}
use Rattle.macho_placed_laws.specs.Targets.{ListsAll}
use Rattle.macho_placed_laws.proofs.Places.{places_are_had}
use Rattle.macho_placed_laws.proofs.Above.{targets_above}
use Rattle.macho_fields.specs.Looks.{Look, Tells, TellsAddresses}
use Rattle.macho_synthetic.specs.declared.fault.MadeFault.{MadeFault}
use Rattle.macho_synthetic.specs.declared.fault.MadeFault.TheVariants.{TooLarge, OutOfMemory}
use Rattle.macho_synthetic.specs.Made.{IsToMake, offset_said, IsOffsetsText, IsRefused}
use Rattle.macho_synthetic.specs.steps.Offsets.{IsOffset, IsAway, HasNoOffset, target_in, OffsetsStand, HasFarRow, IsFarOrMemory}
use Rattle.macho_synthetic.proofs.InitializerRows.{IsRow, is_row, row_leads, row_section, row_of_link}
use Rattle.macho_bytes.proofs.Comparing.{read_alike}

-- a placement that is whole lists all
pub lists_all : (l : Link) (counts : Counts) (p : Placed) → IsToMake l counts p → ListsAll l p
lists_all l counts p make = record {
  sections = make.placed.order.sections;
  commons = make.placed.order.commons;
  slots = make.placed.placed.whole_list.slots;
}

-- the base is at most 2^32
pub base_low : (l : Link) (counts : Counts) (p : Placed) → IsToMake l counts p → p.base ≤ 2 ^ 32
base_low l counts p make = subst (λ (n : ℕ). n ≤ 2 ^ 32) (sym make.placed.placed.base) (by l.executable)
  where
    by : (b : Bool) → (if b then 0x100000000 else 0) ≤ 2 ^ 32
    by true = omega arith
    by false = omega arith

-- a target's offset is its address less the base
pub offset_tells : (p : Placed) (look : Look) (t : Target) (n : ℕ) → TellsAddresses p look → IsOffset look t n
    → (n < 2 ^ 32) × (p.base + n ≡ address_of p t)
offset_tells p look (target.Section file section offset) n tells is =
    (is.0, omega (arith, is.1, tells.base, tells.sections file section))
offset_tells p look (target.Common id) n tells is = absurd is
offset_tells p look (target.Import id) n tells is = absurd is
offset_tells p look target.Base n tells is = absurd is
offset_tells p look (target.Absolute value) n tells is = absurd is
offset_tells p look target.None n tells is = absurd is

-- and one without an offset is far away
pub away_is_far : (p : Placed) (look : Look) (t : Target) → TellsAddresses p look → is_section_target t ≡ true → HasNoOffset look t
    → p.base ≤ address_of p t → p.base ≤ 2 ^ 32 → p.base + 2 ^ 32 ≤ address_of p t
away_is_far p look (target.Section file section offset) tells is away above low =
    by (tells.sections file section) tells.base away above
  where
    by : look.section file section ≡ section_address p file section → look.base ≡ p.base
        → IsAway look.base (look.section file section + offset) → p.base ≤ address_of p (target.Section file section offset)
        → p.base + 2 ^ 32 ≤ address_of p (target.Section file section offset)
    by at base (inl below) up = absurd (omega (arith, at, base, below, up))
    by at base (inr (inl far)) up = omega (arith, at, base, far)
    by at base (inr (inr past)) up = omega (arith, at, past, low)
away_is_far p look (target.Common id) tells is away above low = cc
away_is_far p look (target.Import id) tells is away above low = cc
away_is_far p look target.Base tells is away above low = cc
away_is_far p look (target.Absolute value) tells is away above low = cc
away_is_far p look target.None tells is away above low = cc

-- a row by its number
row_at : (rows : List Initializer) (k : ℕ) (d : Initializer) → k < length rows → Contains rows (get_or rows k d)
row_at rows k d lt = (k, lt, read_alike rows k (get_or rows k d) d lt)

-- THE offsets of a link
pub offsets_made : (l : Link) (counts : Counts) (p : Placed) (look : Look) (rows : List Initializer) (text : List ℕ) → IsToMake l counts p
    → Tells l p look → rows ≡ initializer_rows l → length text ≡ 4 * length rows → OffsetsStand look rows (length rows) text
    → IsOffsetsText l p text
offsets_made l counts p look rows text make tells same long stand = record {
  long = omega (arith, long, many);
  are = ext_get_or 0 (map (offset_said p text) (range_with_len 0 n)) (map (address_of p) (initializers_of l))
      (omega (
        arith,
        length-map (range_with_len 0 n) (offset_said p text),
        length-range_with_len 0 n,
        length-map (initializers_of l)
            (address_of p),
      ))
      (λ k lt. each k (omega (arith, lt, length-map (range_with_len 0 n) (offset_said p text), length-range_with_len 0 n)));
  near = λ k d lt. omega (arith, (one k d lt).0, (one k d lt).1);
}
  where
    n : ℕ
    n = length (initializers_of l)

    many : n ≡ length rows
    many = are_many l ∙ ap length (sym same)

    -- each initializer is the target of a row
    of_row : (k : ℕ) (d : Target) → k < n → (row : Initializer)
        × (get_or (initializers_of l) k d ≡ target_of_initializer l row) × IsOffset look (target_in look row) (le_at 4 text (4 * k)) ×
        Contains (initializer_rows l) row
    of_row k d lt =
        let low : k < length rows = omega (arith, lt, many) in
        let made = map_contains (target_of_initializer l) (initializer_rows l) (get_or (initializers_of l) k d)
        (subst (λ (ts : List Target). Contains ts (get_or (initializers_of l) k d)) (are_rows l)
        (k, lt, read_alike (initializers_of l) k (get_or (initializers_of l) k d) d lt)) in
        let first : Initializer = made.0 in
        let row : Initializer = get_or rows k first in
        let told : get_or (initializers_of l) k d ≡ target_of_initializer l row =
        read_alike (initializers_of l) k d (target_of_initializer l first) lt
        ∙ ap (λ (ts : List Target). get_or ts k (target_of_initializer l first))
        (are_rows l ∙ ap (map (target_of_initializer l)) (sym same))
        ∙ get_or-map (target_of_initializer l) rows k first (target_of_initializer l first) low in
        (row, told, stand k first low, subst (λ (rs : List Initializer). Contains rs row) same (row_at rows k first low))

    one : (k : ℕ) (d : Target) → k < n → (le_at 4 text (4 * k) < 2 ^ 32) ×
        (p.base + le_at 4 text (4 * k) ≡ address_of p (get_or (initializers_of l) k d))
    one k d lt =
        let of = of_row k d lt in
        let is = is_row l of.0 make.initializers of.3 in
        let leads = row_leads l p look of.0 make.objects tells is in
        let tell = offset_tells p look (target_of_initializer l of.0) (le_at 4 text (4 * k)) tells.addresses
        (subst (λ (t : Target). IsOffset look t (le_at 4 text (4 * k))) leads of.2) in
        (tell.0, tell.1 ∙ ap (address_of p) (sym of.1))

    each : (k : ℕ) → k < n → get_or (map (offset_said p text) (range_with_len 0 n)) k 0 ≡ get_or (map (address_of p) (initializers_of l))
        k 0
    each k lt =
        let said : get_or (map (offset_said p text) (range_with_len 0 n)) k 0 ≡ offset_said p text k =
        get_or-map (offset_said p text) (range_with_len 0 n) k 0 0 (omega (arith, lt, length-range_with_len 0 n))
        ∙ ap (offset_said p text) (get_or-range_with_len 0 n k 0 lt ∙ omega arith) in
        let address : get_or (map (address_of p) (initializers_of l)) k 0 ≡ address_of p (get_or (initializers_of l) k target.None) =
        get_or-map (address_of p) (initializers_of l) k target.None 0 lt in
        said ∙ (one k target.None lt).1 ∙ sym address

-- the address of a row, before any slide
pub row_is_at : (l : Link) (counts : Counts) (p : Placed) (row : Initializer) → IsToMake l counts p → IsRow l row
    → IsAt l p 0 empty (target_of_initializer l row) (address_of p (target_of_initializer l row))
row_is_at l counts p row make is =
    let at = places_are_had l p 0 empty (target_of_initializer l row) (lists_all l counts p make) (row_of_link l row make.objects is) in
    subst (IsAt l p 0 empty (target_of_initializer l row)) (omega arith) at

-- THE refusal
pub far_row_passes : (l : Link) (counts : Counts) (p : Placed) (look : Look) (rows : List Initializer) → IsToMake l counts p
    → Tells l p look → rows ≡ initializer_rows l → HasFarRow look rows → ImagePasses l p
far_row_passes l counts p look rows make tells same far =
    let d : Initializer = record {
      file = 0;
      section = 0;
      number = 0;
      relocation = record
          { r_address = 0; r_symbolnum = 0; r_pcrel = false; r_length = 0; r_extern = false; r_type = 0 };
    } in
    let row : Initializer = get_or rows far.number d in
    let is = is_row l row make.initializers (subst (λ (rs : List Initializer). Contains rs row) same
    (row_at rows far.number d far.among)) in
    let leads = row_leads l p look row make.objects tells is in
    let t : Target = target_of_initializer l row in
    let above = targets_above l counts p t make.placed.placed (lists_all l counts p make) (row_of_link l row make.objects is) in
    let away = away_is_far p look t tells.addresses (row_section l row is) (subst (HasNoOffset look) leads (far.far d)) above
    (base_low l counts p make) in
    inr (inr (
      address_of p t,
      initializer (section_of_initializer row) row.number (address_of p t) is.section is.low
          (row_is_at l counts p row make is),
      away,
    ))

pub refused : (l : Link) (counts : Counts) (p : Placed) (look : Look) (rows : List Initializer) (fault : MadeFault) → IsToMake l counts p
    → Tells l p look → rows ≡ initializer_rows l → IsFarOrMemory look rows fault → IsRefused l p fault
refused l counts p look rows TooLarge make tells same far = far_row_passes l counts p look rows make tells same far
refused l counts p look rows OutOfMemory make tells same far = tt
