-- Lists of the nodes that each node reads in the same step.
use Rattle.std.proofs.Common.{◌≡◌, ◌≢◌, refl, ap, ◌∙◌, ℕ, zero, suc, ◌<◌, ◌≤◌, List, [], ◌∷◌, ◌++◌, pos, arith, length, replicate, slice_set, inl, inr}
use Rattle.std.specs.List.{Contains}
use Rattle.std.proofs.lemmas.Bool.{cases_eq}
use Rattle.std.proofs.lemmas.List.{get_or-set_same, get_or-set_other}
use Rattle.std.proofs.lemmas.List.Elements.{Contains-append_left, Contains-push, Contains-push_cases}
use Rattle.lola_model.specs.declared.graph.Edge.{Edge}
use Rattle.lola_model.specs.Nodes.{node_count}
use Rattle.lola_graph.specs.Paths.{read_by, AreWithin, IsRead, AreReads}
use Rattle.lola_graph.proofs.NodeLemmas.{node_low}

pub no_element : {X : Type 0} (x : X) → Contains [] x → ⊥
no_element x c = let k : c.0 < 0 = c.1 in absurd (omega arith)

read_by_empty : (count n : ℕ) → read_by (replicate count []) n ≡ []
read_by_empty zero n = refl
read_by_empty (suc count) zero = refl
read_by_empty (suc count) (suc n) = read_by_empty count n

-- a graph without edges has empty lists
pub reads_none : (count : ℕ) → AreReads [] (replicate count [])
reads_none count = record {
  sound = λ n m c. (let e = read_by_empty count n in absurd (no_element m (rw e at c)));
  complete = λ n m r. absurd (no_element r.0 r.1);
}

module _ (edges : List Edge) (lists : List (List ℕ)) (e : Edge) (h : AreReads edges lists) where
  is_read : (n m : ℕ) → IsRead edges n m → IsRead (edges ++ e ∷ []) n m
  is_read n m r = (r.0, Contains-append_left edges (e ∷ []) r.0 r.1, r.2, r.3, r.4)

  -- an edge of another weight
  pub reads_same : e.weight ≢ pos 0 → AreReads (edges ++ e ∷ []) lists
  reads_same ne = record {
    sound = λ n m c. is_read n m (h.sound n m c);
    complete = λ n m r. elim (Contains-push_cases edges e r.0 r.1) [ inl a ↦ h.complete n m (r.0, a, r.2, r.3, r.4) | inr q ↦ absurd (ne (ap (λ (x : Edge). x.weight) q ∙ r.4)) ];
  }

  module _ (zero : e.weight ≡ pos 0) (low : e.from < length lists) where
    abbrev after : List (List ℕ)
    after = slice_set lists e.from (read_by lists e.from ++ e.to ∷ [])

    at_from : read_by after e.from ≡ read_by lists e.from ++ e.to ∷ []
    at_from = get_or-set_same lists e.from (read_by lists e.from ++ e.to ∷ []) [] low

    at_other : (n : ℕ) → n ≢ e.from → read_by after n ≡ read_by lists n
    at_other n ne = get_or-set_other lists e.from n (read_by lists e.from ++ e.to ∷ []) [] ne

    new_read : IsRead (edges ++ e ∷ []) e.from e.to
    new_read = (e, Contains-push edges e, refl, refl, zero)

    sound_more : (n m : ℕ) → Contains (read_by after n) m → IsRead (edges ++ e ∷ []) n m
    sound_more n m c =
        elim (cases_eq n e.from) [
          | inl q ↦ elim (Contains-push_cases (read_by lists e.from) e.to m (rw (q, at_from) at c)) [
            | inl a ↦ is_read n m (h.sound n m (rw q a))
            | inr p ↦ rw (q, ← p) new_read
          ]
          | inr ne ↦ is_read n m (h.sound n m (rw (at_other n ne) at c))
        ]

    keeps : (n m : ℕ) → Contains (read_by lists n) m → Contains (read_by after n) m
    keeps n m c =
        elim (cases_eq n e.from) [
          | inl q ↦ rw (q, at_from) (Contains-append_left (read_by lists e.from) (e.to ∷ []) m (rw q at c))
          | inr ne ↦ rw (at_other n ne) c
        ]

    complete_more : (n m : ℕ) → IsRead (edges ++ e ∷ []) n m → Contains (read_by after n) m
    complete_more n m r =
        elim (Contains-push_cases edges e r.0 r.1) [
          | inl a ↦ keeps n m (h.complete n m (r.0, a, r.2, r.3, r.4))
          | inr q ↦ (let f : e.from ≡ n = ap (λ (x : Edge). x.from) q ∙ r.2 in
              let t : e.to ≡ m = ap (λ (x : Edge). x.to) q ∙ r.3 in
              rw (← f, ← t, at_from) (Contains-push (read_by lists e.from) e.to))
        ]

    -- an edge of weight 0
    pub reads_more : AreReads (edges ++ e ∷ []) after
    reads_more = record { sound = sound_more; complete = complete_more }

-- the nodes of a graph have lists
pub reads_within : (edges : List Edge) (lists : List (List ℕ)) → AreReads edges lists → node_count edges ≤ length lists → AreWithin lists
reads_within edges lists h le n m c =
    let r = h.sound n m c in
    let low = (node_low edges r.0 r.1).1 in
    let to : r.0.to ≡ m = r.3 in
    omega arith
