-- The tables of a plan, one section more.
--
-- Names are put into a table unless they are there, which is what taking repeats out of one name more gives. A section that was there
-- keeps the place of its output section, since it is inside the table; the new one has the place of its name, also where it goes last.
use Rattle.std.proofs.Common.{◌≡◌, ℕ, ◌<◌, ◌≤◌, ◌==◌, ◌&&◌, Bool, List, [], ◌∷◌, ◌++◌, map, length, get_or, Decides, refl, sym, ap, ◌∙◌, subst, arith}
use Rattle.std.specs.List.{list_any, position_or_len}
use Rattle.std.proofs.lemmas.Bool.{and_parts, and_from, eqb-true, eq-eqb}
use Rattle.std.proofs.lemmas.Slice.Eq.{bytes_eq-Decides}
use Rattle.std.proofs.lemmas.List.{map_push}
use Rattle.std.proofs.lemmas.List.Elements.{All-push}
use Rattle.indexmap.specs.IndexSet.{insert_key}
use Rattle.macho_records.specs.declared.segments.SegmentName.{SegmentName}
use Rattle.macho_model.specs.Needs.{distinct}
use Rattle.macho_layout.specs.declared.spec.SectionSpec.{SectionSpec}
use Rattle.macho_layout.specs.declared.spec.CommonSpec.{CommonSpec}
use Rattle.macho_layout.specs.declared.spec.OutputName.{OutputName}
use Rattle.macho_layout.specs.declared.spec.Planned.{Planned}
use Rattle.macho_layout.specs.Plans.{MayStand}
use Rattle.macho_layout.specs.Keys.{same_segment, same_output, segment_key_of, output_key_of, segments_seen, outputs_seen, specs_of}
use Rattle.macho_layout.specs.steps.Holding.{HoldNames, AreSound}
use Rattle.macho_layout.proofs.Distinct.{distinct_push, place_put, place_new, longer_put}

-- the tests of names decide whether they are equal
pub segment-decides : (a b : SegmentName) → Decides (same_segment a b) (a ≡ b)
segment-decides a b = (
  λ t. ap (λ (n : List ℕ). record { 0 = n }) ((bytes_eq-Decides a.0 b.0).0 t),
  λ e. (bytes_eq-Decides a.0 b.0).1
      (ap (λ (n : SegmentName). n.0) e),
)

same_parts : (a b : OutputName) → a.segment ≡ b.segment → a.name ≡ b.name → a.kind ≡ b.kind → a ≡ b
same_parts a b segment name kind =
    ap (λ (s : SegmentName). record { segment = s; name = a.name; kind = a.kind }) segment
    ∙ ap (λ (n : SegmentName). record { segment = b.segment; name = n; kind = a.kind }) name
    ∙ ap (λ (k : ℕ). record { segment = b.segment; name = b.name; kind = k }) kind

pub output-decides : (a b : OutputName) → Decides (same_output a b) (a ≡ b)
output-decides a b = (
  λ t.
      let all = and_parts (same_segment a.segment b.segment) (same_segment a.name b.name && (a.kind == b.kind)) t in
      let rest = and_parts (same_segment a.name b.name) (a.kind == b.kind) all.1 in
      let segment : a.segment ≡ b.segment = (segment-decides a.segment b.segment).0 all.0 in
      let name : a.name ≡ b.name = (segment-decides a.name b.name).0 rest.0 in
      let kind : a.kind ≡ b.kind = eqb-true a.kind b.kind rest.1 in
      same_parts a b segment name kind,
  λ e. and_from (same_segment a.segment b.segment) (same_segment a.name b.name && (a.kind == b.kind))
      ((segment-decides a.segment b.segment).1 (ap (λ (n : OutputName). n.segment) e))
      (and_from (same_segment a.name b.name) (a.kind == b.kind) ((segment-decides a.name b.name).1 (ap (λ (n : OutputName). n.name) e))
      (eq-eqb a.kind b.kind (ap (λ (n : OutputName). n.kind) e))),
)

-- the names of one section more
outputs_more : (sections : List SectionSpec) (x : SectionSpec) → outputs_seen (sections ++ x ∷ []) ≡ insert_key same_output
    (outputs_seen sections) (output_key_of x)
unfolding outputs_seen
outputs_more sections x =
    ap (distinct same_output) (map_push output_key_of sections x) ∙ distinct_push same_output output-decides (map output_key_of sections)
    (output_key_of x)

segments_more : (sections : List SectionSpec) (x : SectionSpec) → segments_seen (sections ++ x ∷ []) ≡ insert_key same_segment
    (segments_seen sections) (segment_key_of x)
unfolding segments_seen
segments_more sections x =
    ap (distinct same_segment) (map_push segment_key_of sections x) ∙ distinct_push same_segment segment-decides
    (map segment_key_of sections) (segment_key_of x)

-- one section more
pub names_more : (sections : List Planned) (keys : List OutputName) (segments : List SegmentName) (x : Planned)
    → x.output ≡ position_or_len (same_output (output_key_of x.spec)) keys
    → x.output < length (insert_key same_output keys (output_key_of x.spec)) → HoldNames sections keys segments
    → HoldNames (sections ++ x ∷ []) (insert_key same_output keys (output_key_of x.spec))
    (insert_key same_segment segments (segment_key_of x.spec))
names_more sections keys segments x at inside h =
    let k : OutputName = output_key_of x.spec in
    let b : Bool = list_any (same_output (output_key_of x.spec)) keys in
    record {
      keys_are = ap (λ (ks : List OutputName). insert_key same_output ks (output_key_of x.spec)) h.keys_are
          ∙ sym (ap outputs_seen (map_push (λ (s : Planned). s.spec) sections x) ∙ outputs_more (specs_of sections) x.spec);
      segments_are = ap (λ (ks : List SegmentName). insert_key same_segment ks (segment_key_of x.spec)) h.segments_are
          ∙ sym (ap segments_seen (map_push (λ (s : Planned). s.spec) sections x) ∙ segments_more (specs_of sections) x.spec);
      outputs = All-push (λ (s : Planned). s.output ≡ position_or_len (same_output (output_key_of s.spec))
          (insert_key same_output keys (output_key_of x.spec))) sections x
          (λ i d low. h.outputs i d low ∙ sym (place_put (same_output (output_key_of (get_or sections i d).spec)) b keys k
          (omega (arith, h.outputs i d low, h.within i d low))))
          (at ∙ sym (place_new (same_output k) b keys k ((output-decides k k).1 refl)));
      within = All-push (λ (s : Planned). s.output < length (insert_key same_output keys (output_key_of x.spec))) sections x
          (λ i d low. omega (arith, h.within i d low, longer_put b keys k)) inside;
    }

-- what is asked of the parts
pub sound_more : (sections : List Planned) (commons : List CommonSpec) (x : Planned) → x.spec.align ≤ 14 → MayStand x.spec
    → AreSound (specs_of sections) commons → AreSound (specs_of (sections ++ x ∷ [])) commons
sound_more sections commons x small place h =
    subst (λ (ss : List SectionSpec). AreSound ss commons) (sym (map_push (λ (s : Planned). s.spec) sections x)) (record {
      sections_small = All-push (λ (s : SectionSpec). s.align ≤ 14) (specs_of sections) x.spec h.sections_small small;
      commons_small = h.commons_small;
      places = All-push MayStand (specs_of sections) x.spec h.places place;
    })

-- one section more, as the calls on the tables tell it
pub names_after : (sections now next : List Planned) (keys room wide : List OutputName) (segments space broad : List SegmentName)
    (x : Planned) (k : OutputName) (g : SegmentName)
    → now ≡ sections → room ≡ keys → space ≡ segments → k ≡ output_key_of x.spec → g ≡ segment_key_of x.spec
    → next ≡ now ++ x ∷ [] → wide ≡ insert_key same_output room k → broad ≡ insert_key same_segment space g
    → x.output ≡ position_or_len (same_output k) room → x.output < length wide → HoldNames sections keys segments
    → HoldNames next wide broad
names_after sections now next keys room wide segments space broad x k g a b c d e f i j at inside h =
    let more = names_more sections keys segments x (at ∙ ap (λ (n : OutputName). position_or_len (same_output n) room) d ∙ ap
    (position_or_len (same_output (output_key_of x.spec))) b)
    (subst (λ (ks : List OutputName). x.output < length ks) (i ∙ ap (insert_key same_output room) d ∙ ap
    (λ (ks : List OutputName). insert_key same_output ks (output_key_of x.spec)) b) inside) h in
    rw (f, a, i, b, d, j, c, e) more

-- no section
pub names_none : HoldNames [] [] [] × AreSound [] []
unfolding outputs_seen segments_seen
names_none = (
  record { keys_are = refl; segments_are = refl; outputs = λ i d low. absurd (omega arith); within = λ i d low. absurd (omega arith) },
  record {
    sections_small = λ i d low. absurd (omega arith);
    commons_small = λ i d low. absurd (omega arith);
    places = λ i d low. absurd
        (omega arith);
  },
)
