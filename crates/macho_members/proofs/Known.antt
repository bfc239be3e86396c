-- What the table of a link finds. At first it learns the names that objects and members of whole archives define: with these it finds that
-- they bring nothing, and these are the settled names. Then it learns what libraries and archives offer, in order, so that the first that
-- offers a name decides: a library's name brings nothing, and an archive's the first member that defines it. So the table finds a member
-- exactly where a name brings one. Each step is a recursion on the list of names, members or inputs, with cases on whether its first
-- element has the name.
use Rattle.std.proofs.Common.{◌≡◌, ℕ, ◌+◌, List, [], ◌∷◌, Bool, true, false, ◌||◌, not, cond, map, Option, Some, None, refl, sym, ap, ◌∙◌, arith, Bor}
use Rattle.std.specs.Option.{option_or}
use Rattle.std.specs.List.{list_any, enumerate_from, position_or_len}
use Rattle.std.specs.Str.{bytes_eq}
use Rattle.std.proofs.lemmas.List.Folds.{list_any-append}
use Rattle.std.proofs.lemmas.Slice.Eq.{bytes_eq-Decides}
use Rattle.macho_bytes.proofs.Comparing.{bytes_turn}
use Rattle.macho_members.specs.declared.inputs.ObjectNames.{ObjectNames}
use Rattle.macho_members.specs.declared.inputs.MemberPlace.{MemberPlace}
use Rattle.macho_members.specs.declared.inputs.Asked.{Asked}
use Rattle.macho_members.specs.declared.inputs.Asked.TheVariants.{Object, Library, Archive}
use Rattle.macho_members.specs.Inputs.{Names, Input, is_among, defines, offers, members_of, members_at, object_of, whole_of, objects_of, wholes_of}
use Rattle.macho_members.specs.Inputs as asked
use Rattle.macho_members.specs.Needs.{is_settled}
use Rattle.macho_members.specs.Views.{texts, names_of, input_of, inputs_of}
use Rattle.macho_members.specs.steps.Tables.{named, member_known, first_of, none_known, settled_by, offered_by}
use Rattle.macho_members.proofs.Places.{at}

or_cond : {X : Type 0} (b c : Bool) (x : X) → option_or (cond b (Some x) None) (cond c (Some x) None) ≡ cond (b || c) (Some x) None
or_cond true c x = refl
or_cond false c x = refl

or_taken : {X : Type 0} (b : Bool) (x : X) (r : Option X) → option_or (cond b (Some x) None) r ≡ cond b (Some x) r
or_taken true x r = refl
or_taken false x r = refl

-- several names
named_is : (place : Option MemberPlace) (names : List (Bor (List ℕ))) (q : List ℕ)
    → first_of (map (λ n. named place n.now) names) q ≡ cond (is_among (texts names) q) (Some place) None
unfolding first_of named
named_is place [] q = refl
named_is place (n ∷ ns) q =
    ap (λ b. option_or (cond b (Some place) None) (first_of (map (λ n. named place n.now) ns) q)) (bytes_turn n.now q)
    ∙ ap (option_or (cond (bytes_eq q n.now) (Some place) None)) (named_is place ns q)
    ∙ or_cond (bytes_eq q n.now) (is_among (texts ns) q) place

-- several members that bring nothing
none_is : (ms : List ObjectNames) (q : List ℕ)
    → first_of (map none_known ms) q ≡ cond (list_any (defines q) (map names_of ms)) (Some None) None
unfolding first_of
none_is [] q = refl
none_is (m ∷ ms) q =
    ap (λ r. option_or r (first_of (map none_known ms) q)) (named_is None m.defined.now q)
    ∙ ap (option_or (cond (defines q (names_of m)) (Some None) None)) (none_is ms q)
    ∙ or_cond (defines q (names_of m)) (list_any (defines q) (map names_of ms)) None

abbrev when : Bool → Option MemberPlace → Option (Option MemberPlace)
when b x = cond b (Some x) None

-- whether an input settles a name
abbrev settles : List ℕ → Input → Bool
settles q x = list_any (defines q) (object_of x) || list_any (defines q) (whole_of x)

settled_one : (x : Asked) (q : List ℕ) → settled_by x q ≡ cond (settles q (input_of x)) (Some None) None
unfolding first_of
settled_one (Object names) q = named_is None names.defined.now q ∙ by (defines q (names_of names))
  where
    by : (b : Bool) → when b None ≡ when ((b || false) || false) None
    by true = refl
    by false = refl
settled_one (Library _) q = refl
settled_one (Archive true ms) q = none_is ms.now q
settled_one (Archive false _) q = refl

or_swap : (a b c d : Bool) → ((a || b) || (c || d)) ≡ ((a || c) || (b || d))
or_swap true b c d = refl
or_swap false b true d = by b
  where
    by : (b : Bool) → (b || true) ≡ true
    by true = refl
    by false = refl
or_swap false b false d = refl

settled_more : (x : Input) (xs : List Input) (q : List ℕ) → (settles q x || is_settled xs q) ≡ is_settled (x ∷ xs) q
unfolding is_settled
settled_more x xs q =
    or_swap (list_any (defines q) (object_of x)) (list_any (defines q) (whole_of x)) (list_any (defines q) (objects_of xs))
    (list_any (defines q) (wholes_of xs))
    ∙ sym (ap (λ b. b || list_any (defines q) (wholes_of (x ∷ xs))) (list_any-append (defines q) (object_of x) (objects_of xs))
    ∙ ap (λ b. (list_any (defines q) (object_of x) || list_any (defines q) (objects_of xs)) || b)
    (list_any-append (defines q) (whole_of x) (wholes_of xs)))

pub settled_is : (xs : List Asked) (q : List ℕ)
    → first_of (map settled_by xs) q ≡ cond (is_settled (inputs_of xs) q) (Some None) None
unfolding first_of is_settled
settled_is [] q = refl
settled_is (x ∷ xs) q =
    ap (λ r. option_or r (first_of (map settled_by xs) q)) (settled_one x q)
    ∙ ap (option_or (cond (settles q (input_of x)) (Some None) None)) (settled_is xs q)
    ∙ or_cond (settles q (input_of x)) (is_settled (inputs_of xs) q) None
    ∙ ap (λ b. cond b (Some None) None) (settled_more (input_of x) (inputs_of xs) q)

-- several members of an archive: the first that defines the name
members_is : (k a : ℕ) (ms : List ObjectNames) (q : List ℕ)
    → first_of (map (member_known a) (enumerate_from k ms)) q
    ≡ cond (list_any (defines q) (map names_of ms)) (Some (Some (at a (k + position_or_len (defines q) (map names_of ms))))) None
unfolding first_of
members_is k a [] q = refl
members_is k a (m ∷ ms) q =
    ap (λ r. option_or r (first_of (map (member_known a) (enumerate_from (k + 1) ms)) q)) (named_is (Some (at a k)) m.defined.now q)
    ∙ ap (option_or (cond (defines q (names_of m)) (Some (Some (at a k))) None)) (members_is (k + 1) a ms q)
    ∙ by (defines q (names_of m))
  where
    later : List Names
    later = map names_of ms

    by : (b : Bool) → option_or (cond b (Some (Some (at a k))) None)
        (cond (list_any (defines q) later) (Some (Some (at a (k + 1 + position_or_len (defines q) later)))) None)
        ≡ cond (b || list_any (defines q) later) (Some (Some (at a (k + cond (not b) (1 + position_or_len (defines q) later) 0)))) None
    by true = ap (λ j. Some (Some (at a j))) (omega arith)
    by false = ap (λ j. cond (list_any (defines q) later) (Some (Some (at a j))) None) (omega arith)

-- what an input decides of a name that it offers, and what the first that offers it decides
abbrev pub decision : ℕ → Input → List ℕ → Option MemberPlace
decision k (asked.Input.object _) q = None
decision k (asked.Input.library _) q = None
decision k (asked.Input.archive _ ms) q = Some (at k (position_or_len (defines q) ms))

abbrev pub decided : ℕ → List Input → List ℕ → Option (Option MemberPlace)
decided k [] q = None
decided k (x ∷ xs) q = cond (offers q x) (Some (decision k x q)) (decided (k + 1) xs q)

offered_one : (k : ℕ) (x : Asked) (q : List ℕ) → offered_by (k, x) q ≡ cond (offers q (input_of x)) (Some (decision k (input_of x) q)) None
unfolding first_of
offered_one k (Object _) q = refl
offered_one k (Library names) q = named_is None names.now q
offered_one k (Archive _ ms) q = members_is 0 k ms.now q
    ∙ ap (λ j. cond (list_any (defines q) (map names_of ms.now)) (Some (Some (at k j))) None) (omega arith)

pub offered_is : (k : ℕ) (xs : List Asked) (q : List ℕ)
    → first_of (map offered_by (enumerate_from k xs)) q ≡ decided k (inputs_of xs) q
unfolding first_of
offered_is k [] q = refl
offered_is k (x ∷ xs) q =
    ap (λ r. option_or r (first_of (map offered_by (enumerate_from (k + 1) xs)) q)) (offered_one k x q)
    ∙ ap (option_or (cond (offers q (input_of x)) (Some (decision k (input_of x) q)) None)) (offered_is (k + 1) xs q)
    ∙ or_taken (offers q (input_of x)) (decision k (input_of x) q) (decided (k + 1) (inputs_of xs) q)
