-- Each clause has its leaves.
use Rattle.std.proofs.Common.{◌≡◌, ◌≢◌, inl, inr, refl, ℕ, zero, suc, ◌<◌, List, [], ◌∷◌, Option, Bool, true, false, map, length, slice_get, arith}
use Rattle.std.specs.List.{Contains}
use Rattle.lola_model.specs.Accepted.{IsClauseInRange, AreClausesInRange}
use Rattle.lola_model.specs.Leaves.{AreLeaves, IsLeaf, IsTrail, IsVisited, followed_in, is_end_of, list_at, onward}
use Rattle.lola_model.specs.declared.spec.Clause.{Clause}
use Rattle.lola_model.specs.declared.spec.Stream.{Stream}
use Rattle.lola_pacing.proofs.LeafLemmas.{low_clause, low_lists}
use Rattle.lola_front_law.proofs.Telling.{IsListed, Least, Told, both_told, contains_told, least_below, listed_below, other_told}
use Rattle.lola_front_law.proofs.Reaching.{IsPathBy, IsReached, path_below, reached_told}

bool_told : (b : Bool) → Told (b ≡ true)
bool_told true = inl refl
bool_told false = inr (λ e. cc e)

end_low : (streams : List Stream) (n : ℕ) → is_end_of (slice_get streams n) ≡ true → n < length streams
end_low [] n h = absurd (cc h)
end_low (t ∷ ts) zero h = omega arith
end_low (t ∷ ts) (suc n) h = omega (arith, end_low ts n h)

module _ (lists : List (List ℕ)) (own : ℕ) where
  -- a stream leads on to another, which is not the own one
  abbrev Leads : ℕ → ℕ → Type 0
  Leads n m = Contains (list_at lists n) m × (m ≢ own)

  leads_told : (n m : ℕ) → Told (Leads n m)
  leads_told n m = both_told (contains_told (list_at lists n) m) (other_told m own)

  trail_path : (over : List ℕ) (n to : ℕ) → IsTrail lists own (list_at lists n) over to → IsPathBy Leads n over to
  trail_path [] n to t = t
  trail_path (m ∷ ms) n to t = ((t.0, t.1), trail_path ms m to t.2)

  path_trail : (over : List ℕ) (n to : ℕ) → IsPathBy Leads n over to → IsTrail lists own (list_at lists n) over to
  path_trail [] n to p = p
  path_trail (m ∷ ms) n to p = (p.0.0, p.0.1, path_trail ms m to p.1)

  module _ (first : List ℕ) (limit : ℕ) (low_first : (n : ℕ) → Contains first n → n < limit) (low : (n m : ℕ) → Contains (list_at lists n) m → m < limit) where
    -- from one of the first streams
    abbrev Begins : ℕ → ℕ → Type 0
    Begins to n = (Contains first n × (n ≢ own)) × IsReached Leads limit n to

    begins_told : (to n : ℕ) → Told (Begins to n)
    begins_told to n = both_told (both_told (contains_told first n) (other_told n own)) (reached_told Leads leads_told limit n to)

    abbrev IsFirst : ℕ → Type 0
    IsFirst to = Contains first to × (to ≢ own)

    visits : (to n : ℕ) → Begins to n → IsVisited lists own first to
    visits to n b = (n ∷ b.1.over, (b.0.0, b.0.1, path_trail b.1.over n to b.1.path))

    unvisited : (to : ℕ) → (IsFirst to → ⊥) → ((n : ℕ) → n < limit → Begins to n → ⊥) → (over : List ℕ) → IsTrail lists own first over to → ⊥
    unvisited to never none [] t = never t
    unvisited to never none (n ∷ ns) t =
        let path : IsPathBy Leads n ns to = trail_path ns n to t.2 in
        none n (low_first n t.0) ((t.0, t.1), record { over = ns; path = path; below = path_below Leads limit (λ a b e. low a b e.0) ns n to path })

    visited_by : (to : ℕ) → Told (IsFirst to) → Least (Begins to) limit → Told (IsVisited lists own first to)
    visited_by to (inl f) l = inl ([], f)
    visited_by to (inr never) (inl some) = inl (visits to some.0 some.2)
    visited_by to (inr never) (inr none) = inr (λ v. unvisited to never none v.0 v.1)

    visited_told : (to : ℕ) → Told (IsVisited lists own first to)
    visited_told to = visited_by to (both_told (contains_told first to) (other_told to own)) (least_below (Begins to) (begins_told to) limit)

module _ (streams : List Stream) (windows own : ℕ) (in_range : AreClausesInRange (length streams) windows streams) where
  pub leaves_of : (clause : Option Clause) → IsClauseInRange (length streams) windows clause → (leaves : List ℕ) × AreLeaves streams own clause leaves
  leaves_of clause range =
      let visited = visited_told (map onward streams) own (followed_in clause) (length streams) (low_clause (length streams) windows clause range) (low_lists (length streams) windows streams in_range) in
      let told : (n : ℕ) → Told (IsLeaf streams own clause n) = λ n. leaf_told n (both_told (visited n) (bool_told (is_end_of (slice_get streams n)))) in
      let l : IsListed (IsLeaf streams own clause) (length streams) = listed_below (IsLeaf streams own clause) told (length streams) in
      (l.numbers, record { ordered = l.ordered; members = λ n. (l.hold n, λ leaf. l.all n (end_low streams n leaf.ends) leaf) })
    where
      leaf_told : (n : ℕ) → Told (IsVisited (map onward streams) own (followed_in clause) n × (is_end_of (slice_get streams n) ≡ true)) → Told (IsLeaf streams own clause n)
      leaf_told n (inl h) = inl (record { visited = h.0; ends = h.1 })
      leaf_told n (inr never) = inr (λ leaf. never (leaf.visited, leaf.ends))
