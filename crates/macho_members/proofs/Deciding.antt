-- From what the table finds to the member that a name brings, and back. The first input that offers the name decides it: if that is this
-- one, its number is what the count has come to; if not, the rest of the inputs decides, counted from the next number. An archive that
-- offers a name has a member that defines it, and the first such member is what the table has. So what is found is brought. If a name
-- brings a member, the deciding input has members: it is an archive, and the table has a member for it. Names that are settled are found
-- before, to bring nothing, and a name that brings a member isn't settled.
use Rattle.std.proofs.Common.{◌≡◌, ℕ, ◌+◌, ◌<◌, suc, List, [], ◌∷◌, Bool, true, false, ◌||◌, not, cond, length, Option, Some, None, refl, sym, ap, ◌∙◌, subst, arith, Bor}
use Rattle.std.specs.Option.{option_or}
use Rattle.std.specs.List.{list_any, position_or_len}
use Rattle.macho_members.specs.declared.inputs.MemberPlace.{MemberPlace}
use Rattle.macho_members.specs.declared.inputs.Asked.{Asked}
use Rattle.macho_members.specs.Inputs.{Names, Input, defines, offers, members_of, members_at}
use Rattle.macho_members.specs.Inputs as asked
use Rattle.macho_members.specs.Needs.{is_settled, decider_of, Brings}
use Rattle.macho_members.specs.Views.{inputs_of}
use Rattle.macho_bytes.proofs.Members.{place_inside}
use Rattle.macho_members.specs.steps.Tables.{known_by, Finds}
use Rattle.macho_members.specs.steps.Taken.{FindsBrought}
use Rattle.macho_members.proofs.Places.{at}
use Rattle.macho_members.proofs.Known.{decision, decided, settled_is, offered_is}

-- what a place says of the input that decides
abbrev Tells : ℕ → List Input → List ℕ → MemberPlace → ℕ → Type 0
Tells k xs q p d =
    (p.archive ≡ k + d) × (p.member ≡ position_or_len (defines q) (members_at xs d)) × (p.member < length (members_at xs d))

nothing : {G : Type 0} (p : MemberPlace) → ◌≡◌ {A = Option (Option MemberPlace)} (Some None) (Some (Some p)) → G
nothing p e = absurd cc

same_place : (p r : MemberPlace) → ◌≡◌ {A = Option (Option MemberPlace)} (Some (Some r)) (Some (Some p)) → r ≡ p
same_place p r e = cc

tells_here : (k : ℕ) (x : Input) (xs : List Input) (q : List ℕ) (p : MemberPlace) → offers q x ≡ true
    → ◌≡◌ {A = Option (Option MemberPlace)} (Some (decision k x q)) (Some (Some p)) → Tells k (x ∷ xs) q p 0
tells_here k (asked.Input.object _) xs q p o e = nothing p e
tells_here k (asked.Input.library _) xs q p o e = nothing p e
tells_here k (asked.Input.archive _ ms) xs q p o e =
    let same = same_place p (at k (position_or_len (defines q) ms)) e in
    let member : position_or_len (defines q) ms ≡ p.member = ap (λ (r : MemberPlace). r.member) same in (
      ap (λ (r : MemberPlace). r.archive) (sym same) ∙ omega arith,
      sym member,
      subst (λ j. j < length ms) member (place_inside (defines q) ms o),
    )

-- what is found is told of the input that decides
decided_tells : (k : ℕ) (xs : List Input) (q : List ℕ) (p : MemberPlace) → decided k xs q ≡ Some (Some p)
    → Tells k xs q p (position_or_len (offers q) xs)
decided_tells k [] q p e = absurd cc
decided_tells k (x ∷ xs) q p e = by (offers q x) refl (decided_tells (k + 1) xs q p) e
  where
    by : (b : Bool) → offers q x ≡ b
        → (decided (k + 1) xs q ≡ Some (Some p) → Tells (k + 1) xs q p (position_or_len (offers q) xs))
        → cond b (Some (decision k x q)) (decided (k + 1) xs q) ≡ Some (Some p)
        → Tells k (x ∷ xs) q p (cond (not b) (1 + position_or_len (offers q) xs) 0)
    by true o rest h = tells_here k x xs q p o h
    by false o rest h =
        let t = rest h in
        let d = position_or_len (offers q) xs in
        let next : suc d ≡ 1 + d = omega arith in
        subst (Tells k (x ∷ xs) q p) next (omega (arith, t.0), t.1, t.2)

-- and a member of the input that decides is found
member_found : (k : ℕ) (x : Input) (q : List ℕ) (m : ℕ) → m < length (members_of x)
    → (p : MemberPlace) × (◌≡◌ {A = Option (Option MemberPlace)} (Some (decision k x q)) (Some (Some p)))
member_found k (asked.Input.object _) q m h = absurd (omega (arith, h))
member_found k (asked.Input.library _) q m h = absurd (omega (arith, h))
member_found k (asked.Input.archive _ ms) q m h = (at k (position_or_len (defines q) ms), refl)

decided_found : (k : ℕ) (xs : List Input) (q : List ℕ) (m : ℕ) → m < length (members_at xs (position_or_len (offers q) xs))
    → (p : MemberPlace) × (decided k xs q ≡ Some (Some p))
decided_found k [] q m h = absurd (omega (arith, h))
decided_found k (x ∷ xs) q m h = by (offers q x) (decided_found (k + 1) xs q m) h
  where
    by : (b : Bool)
        → (m < length (members_at xs (position_or_len (offers q) xs)) → (p : MemberPlace) × (decided (k + 1) xs q ≡ Some (Some p)))
        → m < length (members_at (x ∷ xs) (cond (not b) (1 + position_or_len (offers q) xs) 0))
        → (p : MemberPlace) × (cond b (Some (decision k x q)) (decided (k + 1) xs q) ≡ Some (Some p))
    by true rest low = member_found k x q m low
    by false rest low =
        let d = position_or_len (offers q) xs in
        let next : 1 + d ≡ suc d = omega arith in
        rest (subst (λ j. m < length (members_at (x ∷ xs) j)) next low)

-- so the table finds what names bring
pub table_finds : (xs : List Asked) (find : Bor (List ℕ) → Option (Option MemberPlace)) → Finds find (known_by xs)
    → FindsBrought (inputs_of xs) find
unfolding decider_of
table_finds xs find finds = record {
  brings = λ q p e. brought q.now p (is_settled ins q.now) refl (sym (found q) ∙ e);
  all = λ q i m b. all_of q i m b (decided_found 0 ins q.now m (subst (λ j. m < length (members_at ins j)) b.decides b.inside));
}
  where
    ins : List Input
    ins = inputs_of xs

    known : Bool → List ℕ → Option (Option MemberPlace)
    known b q = option_or (cond b (Some None) None) (decided 0 ins q)

    found : (q : Bor (List ℕ)) → find q ≡ known (is_settled ins q.now) q.now
    found q = finds.each q ∙ rw (settled_is xs q.now, offered_is 0 xs q.now) refl

    brought : (q : List ℕ) (p : MemberPlace) (b : Bool) → is_settled ins q ≡ b → known b q ≡ Some (Some p)
        → Brings ins q p.archive p.member
    brought q p true s e = nothing p e
    brought q p false s e =
        let t = decided_tells 0 ins q p e in
        let archive : p.archive ≡ position_or_len (offers q) ins = t.0 ∙ omega arith in
        record {
          free = s;
          decides = archive;
          first = subst (λ j. p.member ≡ position_or_len (defines q) (members_at ins j)) (sym archive) t.1;
          inside = subst (λ j. p.member < length (members_at ins j)) (sym archive) t.2;
        }

    all_of : (q : Bor (List ℕ)) (i m : ℕ) → Brings ins q.now i m → (p : MemberPlace) × (decided 0 ins q.now ≡ Some (Some p))
        → (p : MemberPlace) × (find q ≡ Some (Some p))
    all_of q i m b r = (r.0, found q ∙ ap (λ s. known s q.now) b.free ∙ r.1)
