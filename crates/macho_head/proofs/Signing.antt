-- A signature that stands in its range is that of the link.
--
-- The file has one `__TEXT`, told as the placement tells it: it begins the file and has the size that is signed. The range has
-- the room that was
-- counted, which is the length of the signature's text, and with it the file ends.
use Rattle.std.proofs.Common.{◌≡◌, ℕ, suc, ◌+◌, ◌-◌, ◌*◌, ◌/◌, ◌⊎◌, inl, inr, Bool, true, false, List, [], ◌∷◌, map, length, get_or, slice_range, refl, sym, ap, subst, ◌∙◌, arith, rules, All}
use Rattle.std.specs.Prelude.{Contains, filter, drop}
use Rattle.std.specs.Str.{bytes_eq}
use Rattle.std.proofs.lemmas.Slice.Eq.{bytes_eq-Decides}
use Rattle.macho_bytes.proofs.Members.{contains_cases, nil_contains, all_contains}
use Rattle.macho_bytes.specs.Numbers.{rounded_up}
use Rattle.macho_records.specs.Segments.{text_of}
use Rattle.macho_records.specs.declared.header.SegmentCommand.{SegmentCommand}
use Rattle.macho_model.specs.declared.placed.Counts.{Counts}
use Rattle.macho_model.specs.declared.placed.PlacedSegment.{PlacedSegment}
use Rattle.macho_model.specs.Links.{Link}
use Rattle.macho_model.specs.Segments.{TEXT}
use Rattle.macho_model.specs.WrittenSum.{SIGNED_PAGE, DIGEST_SIZE, SIGNATURE_FIXED}
use Rattle.macho_model.specs.Placement.{Placed, is_segment_named, Follows}
use Rattle.macho_model.specs.Images.{segments_of, is_named, segments_named}
use Rattle.macho_model.specs.Agreement.{SegmentsAgree}
use Rattle.macho_model.specs.Signature.{Signed, identifier_text, signature_text, signed_of}
use Rattle.macho_signature.specs.declared.signature.Signer.{Signer}
use Rattle.macho_signature.specs.Sizes.{signed_by, directory_for}
use Rattle.macho_bytes.proofs.Layouts.{length-spelling}
use Rattle.macho_bytes.proofs.Numbers.{big_is_sound}
use Rattle.macho_signature.proofs.Texts.{length-signature, length-identifier}
use Rattle.macho_commands.proofs.HeadRead.{head_read}
use Rattle.macho_placed_laws.specs.Sizes.{AreCounts, counts_with}
use Rattle.macho_model.specs.Faults.{last_part}
use Rattle.macho_model.specs.Lists.{EachNext}
use Rattle.macho_placed_laws.proofs.Classes.{AllDiffer}
use Rattle.macho_placed_laws.proofs.Headers.{all_differ}
use Rattle.macho_placed_laws.proofs.Room.{text_begins}
use Rattle.macho_head.specs.Signing.{IsSignerOf, SignatureIsSaid}
use Rattle.macho_wire.specs.Spellings.{code_directory_rows}
use Rattle.macho_model.specs.steps.Agreement.{SegmentPlace, place_by_command, place_told}
use Rattle.macho_promise.proofs.Counted.{identifier_counted}

-- the segments of a name are told alike
alike : (cs : List SegmentCommand) (segments : List PlacedSegment) → map place_by_command cs ≡ map place_told segments
    → map place_by_command (filter (is_named TEXT) cs) ≡ map place_told (filter (is_segment_named TEXT) segments)
alike [] [] e = refl
alike [] (s ∷ segments) e = cc
alike (c ∷ cs) [] e = cc
alike (c ∷ cs) (s ∷ segments) e = by (alike cs segments (ap (drop 1) e)) (is_segment_named TEXT s) refl
  where
    one : place_by_command c ≡ place_told s
    one = ap (λ (ps : List SegmentPlace). get_or ps 0 (place_told s)) e

    test : is_named TEXT c ≡ is_segment_named TEXT s
    test = ap (λ (q : SegmentPlace). bytes_eq q.0 TEXT) one

    by : map place_by_command (filter (is_named TEXT) cs) ≡ map place_told (filter (is_segment_named TEXT) segments) → (x : Bool)
        → is_segment_named TEXT s ≡ x
        → map place_by_command (filter (is_named TEXT) (c ∷ cs)) ≡ map place_told (filter (is_segment_named TEXT) (s ∷ segments))
    by rest true is = rw (test, is) cc
    by rest false is = rw (test, is) rest

-- one segment has the name
none_named : (segments : List PlacedSegment)
    → All (λ m. (bytes_eq m TEXT ≡ false) × (bytes_eq TEXT m ≡ false)) (map (λ s. text_of s.name) segments)
    → filter (is_segment_named TEXT) segments ≡ []
none_named [] differ = refl
none_named (s ∷ segments) differ =
    rw ((differ 0 [] (omega arith)).0) (none_named segments (λ k d lt. differ (suc k) d (omega arith)))

alone : (segments : List PlacedSegment) (t : PlacedSegment) → AllDiffer (map (λ s. text_of s.name) segments) → Contains segments t
    → is_segment_named TEXT t ≡ true
    → filter (is_segment_named TEXT) segments ≡ t ∷ []
alone [] t differ has named = absurd (nil_contains t has)
alone (s ∷ segments) t differ has named =
    by (λ later. alone segments t differ.1 later named) (is_segment_named TEXT s) refl (contains_cases s segments t has)
  where
    rest_none : is_segment_named TEXT s ≡ true → filter (is_segment_named TEXT) segments ≡ []
    rest_none is =
        let name : text_of s.name ≡ TEXT = (bytes_eq-Decides (text_of s.name) TEXT).0 is in
        none_named segments
        (subst (λ (n : List ℕ). All (λ m. (bytes_eq m n ≡ false) × (bytes_eq n m ≡ false))
        (map (λ u. text_of u.name) segments)) name differ.0)

    by : (Contains segments t → filter (is_segment_named TEXT) segments ≡ t ∷ []) → (x : Bool) → is_segment_named TEXT s ≡ x
        → (s ≡ t) ⊎ Contains segments t
        → filter (is_segment_named TEXT) (s ∷ segments) ≡ t ∷ []
    by rest true is (inl same) = rw is (ap (λ (ss : List PlacedSegment). s ∷ ss) (rest_none is) ∙ ap (λ (u : PlacedSegment). u ∷ []) same)
    by rest true is (inr later) =
        let empty : t ∷ [] ≡ [] = sym (rest later) ∙ rest_none is in
        cc
    by rest false is (inl same) =
        let both : true ≡ false = sym named ∙ ap (is_segment_named TEXT) (sym same) ∙ is in
        cc
    by rest false is (inr later) = rw is (rest later)

-- the file's one `__TEXT`
record OneText (b : List ℕ) (t : PlacedSegment) : Type 0 where
  pub text : SegmentCommand
  pub one : segments_named TEXT b ≡ text ∷ []
  pub place : place_by_command text ≡ place_told t

one_text : (b : List ℕ) (t : PlacedSegment) (found : List SegmentCommand) → segments_named TEXT b ≡ found
    → map place_by_command found ≡ place_told t ∷ [] → OneText b t
one_text b t [] is e = cc
one_text b t (c ∷ []) is e = record { text = c; one = is; place = ap (λ (ps : List SegmentPlace). get_or ps 0 (place_told t)) e }
one_text b t (c ∷ d ∷ found) is e = cc

text_told : (l : Link) (b : List ℕ) (p : Placed) (t : PlacedSegment) → EachNext (Follows l) p.segments → SegmentsAgree b p
    → Contains p.segments t
    → is_segment_named TEXT t ≡ true → OneText b t
text_told l b p t follow agree has named =
    one_text b t (segments_named TEXT b) refl
    (alike (segments_of b) p.segments agree ∙ ap (map place_told) (alone p.segments t (all_differ l p.segments follow) has named))

-- so many whole pages
whole_pages : (n : ℕ) → n * SIGNED_PAGE / SIGNED_PAGE ≡ n
whole_pages n = omega arith

-- what the signer says is what is to be signed
signed_same : (l : Link) (p : Placed) (signer : Signer) (c : SegmentCommand) (t : PlacedSegment) (limit : ℕ) → IsSignerOf l p signer
    → Contains p.segments t
    → is_segment_named TEXT t ≡ true → c.fileoff ≡ t.file_offset → c.filesize ≡ t.file_size → t.file_offset ≡ 0
    → signed_by signer limit ≡ signed_of l c limit
signed_same l p signer c t limit signs has named offset size front =
    let size_is : signer.text_size ≡ c.filesize = signs.size t has named ∙ sym size in
    let offset_is : signer.text_offset ≡ c.fileoff = signs.offset ∙ sym front ∙ sym offset in
    rw (signs.name, signs.executable, offset_is, size_is) refl

-- THE signature is the link's
pub signature_said : SignatureIsSaid
signature_said l counts uuid b p signer says are placed laid signs long stands =
    let reads = head_read l counts uuid b p says.trie says.commands in
    let t : PlacedSegment = placed.begins.0 in
    let has : Contains p.segments t = placed.begins.1 in
    let named : is_segment_named TEXT t ≡ true = placed.begins.2 in
    let one = text_told l b p t placed.follow reads.segments has named in
    let limit : ℕ = p.linkedit.signature.start in
    let s : Signed = signed_by signer limit in
    let size : length (signature_text s b) ≡ SIGNATURE_FIXED + rounded_up 16 (length signer.identifier.now + 1) + DIGEST_SIZE *
    ((limit + (SIGNED_PAGE - 1)) / SIGNED_PAGE) =
    length-signature s b (length-spelling code_directory_rows (directory_for s) big_is_sound (search rules)) in
    let room = laid.least.rooms.signature in
    let front : t.file_offset ≡ 0 =
    all_contains (λ (u : PlacedSegment). is_segment_named TEXT u ≡ true → u.file_offset ≡ 0) p.segments t
    (text_begins l counts p placed.follow laid) has named in
    let pages : rounded_up SIGNED_PAGE limit / SIGNED_PAGE ≡ (limit + (SIGNED_PAGE - 1)) / SIGNED_PAGE =
    whole_pages ((limit + (SIGNED_PAGE - 1)) / SIGNED_PAGE) in
    let name : counts.identifier ≡ rounded_up 16 (length signer.identifier.now + 1) =
    identifier_counted l counts are ∙ ap (λ (n : List ℕ). length (identifier_text n)) (sym signs.name)
    ∙ length-identifier signer.identifier.now in
    let digests : DIGEST_SIZE * (rounded_up SIGNED_PAGE limit / SIGNED_PAGE) ≡ DIGEST_SIZE *
    ((limit + (SIGNED_PAGE - 1)) / SIGNED_PAGE) = ap (λ (n : ℕ). DIGEST_SIZE * n) pages in
    let ends : limit + length (signature_text s b) ≡ length b = omega (arith, size, room, name, digests, long) in
    record {
      limit = limit;
      size = p.linkedit.signature.end - limit;
      one = reads.signature;
      ends = omega (arith, long, ends);
      text = one.text;
      text_is = one.one;
      says = ap (λ (n : ℕ). slice_range b limit n) (sym ends) ∙ stands.same
          ∙ ap (λ (u : Signed). signature_text u b) (signed_same l p signer one.text t limit signs has named
          (ap (λ (q : SegmentPlace). q.3) one.place) (ap (λ (q : SegmentPlace). q.4) one.place) front);
    }
