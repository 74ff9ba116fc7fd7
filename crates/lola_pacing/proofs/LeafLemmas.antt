-- Streams that are followed, and those at which a search ends.
use Rattle.std.proofs.Common.{◌≡◌, ◌≢◌, refl, ap, sym, ℕ, zero, suc, ◌+◌, ◌<◌, List, [], ◌∷◌, ◌++◌, Option, Some, None, Bool, true, false, if◌then◌else◌, arith, length, map, slice_get, subst, inl, inr}
use Rattle.std.specs.List.{slice_index_or, Contains}
use Rattle.std.proofs.lemmas.Bool.{cases_eq}
use Rattle.std.proofs.lemmas.List.{get_or_default}
use Rattle.std.proofs.lemmas.List.Elements.{Contains-append_left, Contains-append_cases, Contains-push, Contains-push_cases}
use Rattle.std.proofs.lemmas.List.Quantifiers.{all_pairs_push}
use Rattle.lola_model.specs.Accepted.{IsInRange, AreInRange, IsWhenInRange, IsWithInRange, IsClauseInRange, AreClausesInRange}
use Rattle.lola_model.specs.Parts.{listed, listed_all, listed_when, listed_with}
use Rattle.lola_model.specs.declared.expr.Access.{Access}
use Rattle.lola_model.specs.declared.expr.Access.TheVariants as access
use Rattle.lola_model.specs.declared.expr.Arguments.{Arguments}
use Rattle.lola_model.specs.declared.expr.Arguments.TheVariants.{End, More'}
use Rattle.lola_model.specs.declared.expr.Expr.{Expr}
use Rattle.lola_model.specs.declared.expr.Expr.TheVariants.{Literal, Parameter, Read, Window, Defaults', Unary', Both', Choice'}
use Rattle.lola_model.specs.declared.spec.Clause.{Clause}
use Rattle.lola_model.specs.declared.spec.Stream.{Stream}
use Rattle.lola_model.specs.Leaves.{followed_by, followed, followed_in, is_end, is_end_of, onward, list_at, AreLeaves}
use Rattle.lola_pacing.specs.Flags.{FlagsVisited, IsEndBelow, AreEndsBelow}
use Rattle.lola_pacing.proofs.FlagLemmas.{no_element}

-- what is followed in an expression is one of the streams
module _ (s w : ℕ) where
  low_both : (xs ys : List ℕ) → ((n : ℕ) → Contains xs n → n < s) → ((n : ℕ) → Contains ys n → n < s) → (n : ℕ) → Contains (xs ++ ys) n → n < s
  low_both xs ys f g n c = elim (Contains-append_cases xs ys n c) [ inl a ↦ f n a | inr b ↦ g n b ]

  low_one : (m : ℕ) → m < s → (n : ℕ) → Contains (m ∷ []) n → n < s
  low_one m lt n c = elim (Contains-push_cases [] m n c) [ inl a ↦ absurd (no_element n a) | inr e ↦ rw (← e) lt ]

  low_access : (how : Access) (m : ℕ) → m < s → (n : ℕ) → Contains (followed_by how m) n → n < s
  low_access access.Direct m lt n c = low_one m lt n c
  low_access access.Get m lt n c = absurd (no_element n c)
  low_access access.Hold m lt n c = absurd (no_element n c)
  low_access (access.Offset k) m lt n c = low_one m lt n c

  mutual
    low : (e : Expr) → IsInRange s w e → (n : ℕ) → Contains (listed followed e) n → n < s
    low (Literal place v) r n c = absurd (no_element n c)
    low (Parameter place i) r n c = absurd (no_element n c)
    low (Read place m how args) r n c = low_both (followed_by how m) (listed_all followed args) (low_access how m r.0) (low_all args r.1) n c
    low (Window place m args) r n c = low_all args r.1 n c
    low (Defaults' place u a v b) r n c = low_both (listed followed a) (listed followed b) (low a r.0) (low b r.1) n c
    low (Unary' place operator u a) r n c = low a r n c
    low (Both' place operator u a v b) r n c = low_both (listed followed a) (listed followed b) (low a r.0) (low b r.1) n c
    low (Choice' place u a v b x d) r n c =
        low_both (listed followed a) (listed followed b ++ listed followed d) (low a r.0) (low_both (listed followed b) (listed followed d) (low b r.1) (low d r.2)) n c

    low_all : (args : Arguments) → AreInRange s w args → (n : ℕ) → Contains (listed_all followed args) n → n < s
    low_all End r n c = absurd (no_element n c)
    low_all (More' u a v rest) r n c = low_both (listed followed a) (listed_all followed rest) (low a r.0) (low_all rest r.1) n c

  low_when : (when : Option Expr) → IsWhenInRange s w when → (n : ℕ) → Contains (listed_when followed when) n → n < s
  low_when None r n c = absurd (no_element n c)
  low_when (Some e) r n c = low e r n c

  low_with : (es : List Expr) → IsWithInRange s w es → (n : ℕ) → Contains (listed_with followed es) n → n < s
  low_with [] r n c = absurd (no_element n c)
  low_with (e ∷ es) r n c = low_both (listed followed e) (listed_with followed es) (low e r.0) (low_with es r.1) n c

  pub low_clause : (clause : Option Clause) → IsClauseInRange s w clause → (n : ℕ) → Contains (followed_in clause) n → n < s
  low_clause None r n c = absurd (no_element n c)
  low_clause (Some k) r n c = low_both (listed_when followed k.when) (listed_with followed k.with) (low_when k.when r.0) (low_with k.with r.1) n c

  behind : (b : Bool) (xs : List ℕ) → ((n : ℕ) → Contains xs n → n < s) → (n : ℕ) → Contains (if b then [] else xs) n → n < s
  behind true xs f n c = absurd (no_element n c)
  behind false xs f n c = f n c

  low_onward : (t : Stream) → IsClauseInRange s w t.eval → (n : ℕ) → Contains (onward t) n → n < s
  low_onward t r n c = behind (is_end t) (followed_in t.eval) (low_clause t.eval r) n c

  pub low_lists : (ss : List Stream) → AreClausesInRange s w ss → (n m : ℕ) → Contains (list_at (map onward ss) n) m → m < s
  low_lists [] r n m c = absurd (no_element m c)
  low_lists (t ∷ ts) r zero m c = low_onward t r.1 m c
  low_lists (t ∷ ts) r (suc n) m c = low_lists ts r.3 n m c

-- the lists of all streams have a list for each
pub length-lists : (ss : List Stream) → length (map onward ss) ≡ length ss
length-lists [] = refl
length-lists (t ∷ ts) = ap suc (length-lists ts)

module _ (streams : List Stream) (flags : List Bool) where
  -- below 0 there is none
  pub no_ends : AreEndsBelow streams flags 0 []
  no_ends = record {
    ordered = λ i j d lt low. absurd (omega arith);
    members = λ n. (λ c. absurd (no_element n c), λ e. (let k : n < 0 = e.below in absurd (omega arith)));
  }

  module _ (k : ℕ) (leaves : List ℕ) (h : AreEndsBelow streams flags k leaves) where
    raised : (n : ℕ) → IsEndBelow streams flags k n → IsEndBelow streams flags (k + 1) n
    raised n e = record { below = omega (arith, e.below); flagged = e.flagged; ends = e.ends }

    lowered : (n : ℕ) → n ≢ k → IsEndBelow streams flags (k + 1) n → IsEndBelow streams flags k n
    lowered n ne e = record { below = omega (arith, e.below, ne); flagged = e.flagged; ends = e.ends }

    -- a stream that is none of them
    pub ends_same : ¬ (IsEndBelow streams flags (k + 1) k) → AreEndsBelow streams flags (k + 1) leaves
    ends_same never = record {
      ordered = h.ordered;
      members = λ n. (λ c. raised n ((h.members n).0 c), λ e. (h.members n).1 (lowered n (λ q. never (subst (λ (m : ℕ). IsEndBelow streams flags (k + 1) m) q e)) e));
    }

    below_last : (i d : ℕ) → i < length leaves → slice_index_or leaves i d < k
    below_last i d lt = ((h.members (slice_index_or leaves i d)).0 (i, lt, sym (get_or_default leaves i d (slice_index_or leaves i d) lt))).below

    -- one more of them
    pub ends_more : IsEndBelow streams flags (k + 1) k → AreEndsBelow streams flags (k + 1) (leaves ++ k ∷ [])
    ends_more here = record {
      ordered = all_pairs_push (λ m n. m < n) leaves k h.ordered below_last;
      members = λ n. (
        λ c. elim (Contains-push_cases leaves k n c) [ inl a ↦ raised n ((h.members n).0 a) | inr e ↦ subst (λ (m : ℕ). IsEndBelow streams flags (k + 1) m) e here ],
        λ e. elim (cases_eq n k) [
          | inl q ↦ rw q (Contains-push leaves k)
          | inr ne ↦ Contains-append_left leaves (k ∷ []) n ((h.members n).1 (lowered n ne e))
        ],
      );
    }

end_low : (streams : List Stream) (n : ℕ) → is_end_of (slice_get streams n) ≡ true → n < length streams
end_low [] n h = absurd (cc)
end_low (t ∷ ts) zero h = omega arith
end_low (t ∷ ts) (suc n) h = omega (arith, end_low ts n h)

-- the streams that are flagged and at which the search ends are the leaves, where the flags are on what is visited
pub ends_are_leaves : (streams : List Stream) (own : ℕ) (clause : Option Clause) (flags : List Bool) (leaves : List ℕ)
    → FlagsVisited (map onward streams) own (followed_in clause) flags → AreEndsBelow streams flags (length streams) leaves → AreLeaves streams own clause leaves
ends_are_leaves streams own clause flags leaves v h = record {
  ordered = h.ordered;
  members = λ n. (
    λ c. (let e = (h.members n).0 c in record { visited = (v n).0 e.flagged; ends = e.ends }),
    λ l. (h.members n).1 (record { below = end_low streams n l.ends; flagged = (v n).1 l.visited; ends = l.ends }),
  );
}

-- a stream that is looked up
pub end_at : (streams : List Stream) (n : ℕ) (s : Stream) → n < length streams → s ≡ slice_index_or streams n s → is_end_of (slice_get streams n) ≡ is_end s
end_at [] n s lt e = absurd (omega arith)
end_at (t ∷ ts) zero s lt e = ap is_end (sym e)
end_at (t ∷ ts) (suc n) s lt e = end_at ts n s (omega arith) e
