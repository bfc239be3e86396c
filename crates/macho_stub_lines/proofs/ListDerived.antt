-- Flow lists as trees, and as the grammar derives them: each step of a derivation is a part of the tree.
use Rattle.std.proofs.Common.{◌≡◌, ℕ, ◌+◌, List, [], ◌∷◌, length, Option, None, Some, refl, sym, ap, ◌∙◌, subst}
use Rattle.std.specs.Prelude.{IfSome}
use Rattle.std.specs.List.{AllByRecursion}
use Rattle.macho_stub_lines.specs.Bytes.{comma, open_bracket, close_bracket}
use Rattle.macho_stub_lines.specs.Slices.{Slice, Line}
use Rattle.macho_stub_lines.specs.Spelling.{scalar_bytes, slice_of}
use Rattle.macho_stub_lines.specs.FlowLists.{Block, bytes_then, turn_then, IsGap, spaces, turn, AreScalars, none, last, next, IsFlowList}
use Rattle.macho_stub_lines.specs.steps.ListTrees.{Between, Spaces, Turn, Followed, Final, ListTree, between_then, followed_then, final_then, IsBetween, IsFollowed, IsFinal, behind_between, slices_from, IsTreeList}

-- ---- from trees

gap_of : (between : Between) (at : ℕ) (rest : Block) → IsBetween between
    → IsGap at (between_then between rest) (behind_between at between) rest
gap_of (Spaces count) at rest s = spaces at count rest
gap_of (Turn tail number next_at between) at rest s =
    turn at (behind_between next_at between) number next_at tail (between_then between rest) rest s.0 (gap_of between next_at rest s.1)

scalars_of : (followed : List Followed) (final : Option Final) (at : ℕ) (rest : Block) → AllByRecursion IsFollowed followed
    → IfSome final IsFinal → AreScalars at (followed_then followed (final_then final rest)) (slices_from at followed final) rest
scalars_of [] None at rest s f = none at rest
scalars_of [] (Some one) at rest s f =
    let behind_at = at + length (scalar_bytes one.scalar) in
    last at (behind_between behind_at one.behind) one.scalar (between_then one.behind rest) rest f.scalar
    (gap_of one.behind behind_at rest f.behind)
scalars_of (one ∷ others) final at rest s f =
    let behind_at = at + length (scalar_bytes one.scalar) in
    let comma_at = behind_between behind_at one.before in
    let next_at = behind_between (comma_at + 1) one.behind in
    let more = followed_then others (final_then final rest) in
    let behind = between_then one.behind more in
    next at comma_at next_at one.scalar (between_then one.before (bytes_then (comma ∷ []) behind)) behind more rest
    (slices_from next_at others final) s.0.scalar (gap_of one.before behind_at (bytes_then (comma ∷ []) behind) s.0.before)
    (gap_of one.behind (comma_at + 1) more s.0.behind) (scalars_of others final next_at rest s.1 f)

-- the tree of a list is derived
pub list_of_tree : (at : ℕ) (value : List ℕ) (more : List Line) (says : List Slice) → IsTreeList at value more says
    → IsFlowList at value more says
list_of_tree at value more says t =
    let rest = bytes_then (close_bracket ∷ []) (record { head = t.tail; more = [] }) in
    let scalars = followed_then t.tree.followed (final_then t.tree.final rest) in
    let first_at = behind_between (at + 1) t.tree.opening in
    let A : List Slice → Type 0 = λ slices. AreScalars first_at scalars slices rest in
    record {
      opened = between_then t.tree.opening scalars;
      spelled = t.spelled;
      first_at = first_at;
      scalars = scalars;
      gap = gap_of t.tree.opening (at + 1) scalars t.sound.opening;
      tail = t.tail;
      are = subst A (sym t.is) (scalars_of t.tree.followed t.tree.final first_at rest t.sound.followed t.sound.final);
      ends = t.ends;
      inside = t.inside;
    }

-- ---- to trees

record GapTree (at : ℕ) (block : Block) (behind : ℕ) (rest : Block) : Type 0 where
  between : Between
  sound : IsBetween between
  spelled : block ≡ between_then between rest
  place : behind ≡ behind_between at between

gap_tree : (at : ℕ) (block : Block) (behind : ℕ) (rest : Block) → IsGap at block behind rest → GapTree at block behind rest
gap_tree at block behind rest (spaces a count r) = record { between = Spaces count; sound = tt; spelled = refl; place = refl }
gap_tree at block behind rest (turn a b number next_at tail after r h gap) =
    let g = gap_tree next_at after behind rest gap in
    record {
      between = Turn tail number next_at g.between;
      sound = (h, g.sound);
      spelled = ap (turn_then tail number next_at) g.spelled;
      place = g.place;
    }

record ScalarsTree (at : ℕ) (block : Block) (says : List Slice) (rest : Block) : Type 0 where
  followed : List Followed
  final : Option Final
  sound : AllByRecursion IsFollowed followed
  last_sound : IfSome final IsFinal
  spelled : block ≡ followed_then followed (final_then final rest)
  are : says ≡ slices_from at followed final

scalars_tree : (at : ℕ) (block : Block) (says : List Slice) (rest : Block) → AreScalars at block says rest → ScalarsTree at block says rest
scalars_tree at block says rest (none a r) =
    record { followed = []; final = None; sound = tt; last_sound = tt; spelled = refl; are = refl }
scalars_tree at block says rest (last a behind scalar after r s gap) =
    let g = gap_tree (at + length (scalar_bytes scalar)) after behind rest gap in
    record {
      followed = [];
      final = Some (record { scalar = scalar; behind = g.between });
      sound = tt;
      last_sound = record { scalar = s; behind = g.sound };
      spelled = ap (bytes_then (scalar_bytes scalar)) g.spelled;
      are = refl;
    }
scalars_tree at block says rest (next a comma_at next_at scalar before behind others r slices s gap after more) =
    let g = gap_tree (at + length (scalar_bytes scalar)) before comma_at (bytes_then (comma ∷ []) behind) gap in
    let h = gap_tree (comma_at + 1) behind next_at others after in
    let t = scalars_tree next_at others slices rest more in
    let there : next_at ≡ behind_between (behind_between (at + length (scalar_bytes scalar)) g.between + 1) h.between =
    h.place ∙ ap (λ k. behind_between (k + 1) h.between) g.place in
    record {
      followed = record { scalar = scalar; before = g.between; behind = h.between } ∷ t.followed;
      final = t.final;
      sound = (record { scalar = s; before = g.sound; behind = h.sound }, t.sound);
      last_sound = t.last_sound;
      spelled = ap (bytes_then (scalar_bytes scalar)) (g.spelled
          ∙ ap (λ (b : Block). between_then g.between (bytes_then (comma ∷ []) b)) (h.spelled ∙ ap (between_then h.between) t.spelled));
      are = ap (λ (all : List Slice). slice_of at scalar ∷ all) (t.are ∙ ap (λ k. slices_from k t.followed t.final) there);
    }

-- and what is derived is the tree of a list
pub tree_of_list : (at : ℕ) (value : List ℕ) (more : List Line) (says : List Slice) → IsFlowList at value more says
    → IsTreeList at value more says
tree_of_list at value more says l =
    let rest = bytes_then (close_bracket ∷ []) (record { head = l.tail; more = [] }) in
    let g = gap_tree (at + 1) l.opened l.first_at l.scalars l.gap in
    let t = scalars_tree l.first_at l.scalars says rest l.are in
    let tree : ListTree = record { opening = g.between; followed = t.followed; final = t.final } in
    record {
      tree = tree;
      tail = l.tail;
      spelled = l.spelled ∙ ap (bytes_then (open_bracket ∷ [])) (g.spelled ∙ ap (between_then g.between) t.spelled);
      sound = record { opening = g.sound; followed = t.sound; final = t.last_sound };
      inside = l.inside;
      ends = l.ends;
      is = t.are ∙ ap (λ k. slices_from k t.followed t.final) g.place;
    }
