-- Edges are read one after the other, and the step is along the first that may be taken.
--
-- What a list of edges gives behind a step that may be known already is that step, or else the step from the list. So
-- with one edge read, what the remaining edges give behind the noted step is what all gave behind the step before.
use Rattle.std.proofs.Common.{◌≡◌, ℕ, suc, ◌+◌, ◌-◌, ◌<◌, ◌≤◌, if◌then◌else◌, true, false, List, ◌∷◌, length, take, drop, Option, Some, None, refl, sym, ap, ◌∙◌, arith}
use Rattle.std.specs.Option.{option_map, option_or}
use Rattle.std.specs.List.{find}
use Rattle.std.proofs.lemmas.List.{take_rest}
use Rattle.macho_bytes.specs.Uleb.{uleb_at}
use Rattle.macho_trie.specs.Nodes.{Edge, ended_name, edge_at, edges_at}
use Rattle.macho_trie.specs.Lookup.{leads}
use Rattle.macho_trie.specs.steps.Lookup.{step_of, noted, step_among}

pub no_label : (bytes : List ℕ) (at : ℕ) → None ≡ ended_name (take (length bytes - at) (drop at bytes)) → None ≡ edge_at bytes at
unfolding edge_at
no_label bytes at none =
    let same : None ≡ ended_name (drop at bytes) = none ∙ ap ended_name (take_rest bytes at) in
    rw (← same) refl

-- an edge, by what is read of its child
pub by_child : (bytes label : List ℕ) (at : ℕ) (child : Option (ℕ × ℕ)) → Some label ≡ ended_name (take (length bytes - at) (drop at bytes))
    → child ≡ uleb_at bytes (at + length label + 1)
    → option_map (λ n. (record { label = label; child = n.0 }, n.1)) child ≡ edge_at bytes at
unfolding edge_at
by_child bytes label at child read is =
    let same : Some label ≡ ended_name (drop at bytes) = read ∙ ap ended_name (take_rest bytes at) in
    rw (← same) (rw (← is) refl)

-- what further edges give behind a step that may be known
abbrev pub behind : List ℕ → Option (ℕ × ℕ) → Option (List Edge) → Option (Option (ℕ × ℕ))
behind rest known edges = option_map (λ es. option_or known (step_among rest es)) edges

pub all_behind_none : (rest : List ℕ) (edges : Option (List Edge)) → behind rest None edges ≡ option_map (step_among rest) edges
all_behind_none rest None = refl
all_behind_none rest (Some es) = refl

pub nothing_left : (bytes rest : List ℕ) (at : ℕ) (known : Option (ℕ × ℕ)) → behind rest known (edges_at 0 bytes at) ≡ Some known
unfolding edges_at step_among
nothing_left bytes rest at None = refl
nothing_left bytes rest at (Some s) = refl

one_noted : (rest : List ℕ) (known : Option (ℕ × ℕ)) (e : Edge) (es : List Edge)
    → option_or known (step_among rest (e ∷ es)) ≡ option_or (noted rest known e) (step_among rest es)
unfolding step_among
one_noted rest (Some s) e es = refl
one_noted rest None e es =
    elim (leads rest e) as (λ b. option_map step_of (if b then Some e else find (leads rest) es)
    ≡ option_or (if b then Some (step_of e) else None) (option_map step_of (find (leads rest) es))) [ true ↦ refl | false ↦ refl ]

pub one_more : (bytes rest : List ℕ) (others at next : ℕ) (known : Option (ℕ × ℕ)) (e : Edge) → Some (e, next) ≡ edge_at bytes at
    → behind rest known (edges_at (suc others) bytes at) ≡ behind rest (noted rest known e) (edges_at others bytes next)
unfolding edges_at
one_more bytes rest others at next known e read = rw (← read) (each (edges_at others bytes next))
  where
    each : (es : Option (List Edge)) → behind rest known (option_map (λ es. e ∷ es) es) ≡ behind rest (noted rest known e) es
    each None = refl
    each (Some es) = ap (λ (s : Option (ℕ × ℕ)). let r : Option (Option (ℕ × ℕ)) = Some s in r) (one_noted rest known e es)

pub unread : (bytes rest : List ℕ) (others at : ℕ) (known : Option (ℕ × ℕ)) → None ≡ edge_at bytes at
    → None ≡ behind rest known (edges_at (suc others) bytes at)
unfolding edges_at
unread bytes rest others at known none = rw (← none) refl

-- the loop over the edges: one more, one that isn't whole, and the end
pub goes_on : (bytes rest : List ℕ) (count i at next : ℕ) (known after : Option (ℕ × ℕ)) (e : Edge) (all : Option (Option (ℕ × ℕ)))
    → i < count
    → Some (e, next) ≡ edge_at bytes at → after ≡ noted rest known e → behind rest known (edges_at (count - i) bytes at) ≡ all
    → behind rest after (edges_at (count - (i + 1)) bytes next) ≡ all
goes_on bytes rest count i at next known after e all more read is same =
    let left : count - i ≡ suc (count - (i + 1)) = omega arith in
    ap (λ (s : Option (ℕ × ℕ)). behind rest s (edges_at (count - (i + 1)) bytes next)) is
    ∙ sym (one_more bytes rest (count - (i + 1)) at next known e read)
    ∙ ap (λ (n : ℕ). behind rest known (edges_at n bytes at)) (sym left) ∙ same

pub breaks_off : (bytes rest : List ℕ) (count i at : ℕ) (known : Option (ℕ × ℕ)) (all : Option (Option (ℕ × ℕ))) → i < count
    → None ≡ edge_at bytes at
    → behind rest known (edges_at (count - i) bytes at) ≡ all → None ≡ all
breaks_off bytes rest count i at known all more none same =
    let left : count - i ≡ suc (count - (i + 1)) = omega arith in
    unread bytes rest (count - (i + 1)) at known none ∙ ap (λ (n : ℕ). behind rest known (edges_at n bytes at)) (sym left) ∙ same

pub ends : (bytes rest : List ℕ) (count i at : ℕ) (known : Option (ℕ × ℕ)) (all : Option (Option (ℕ × ℕ))) → count ≤ i
    → behind rest known (edges_at (count - i) bytes at) ≡ all → Some known ≡ all
ends bytes rest count i at known all past same =
    let left : count - i ≡ 0 = omega arith in
    sym (nothing_left bytes rest at known) ∙ ap (λ (n : ℕ). behind rest known (edges_at n bytes at)) (sym left) ∙ same
