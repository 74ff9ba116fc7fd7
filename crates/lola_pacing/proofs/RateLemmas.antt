-- Least rates.
use Rattle.std.proofs.Common.{◌≡◌, refl, ap, sym, ◌∙◌, ℕ, ◌+◌, ◌*◌, ◌<◌, ◌≤◌, List, [], ◌∷◌, ◌++◌, arith, length, take}
use Rattle.std.specs.List.{slice_index_or}
use Rattle.std.proofs.Math.Nat.{mul-le-mul_right, le_of_mul-le-mul_left}
use Rattle.std.proofs.lemmas.List.{map-append, take_more, append_assoc}
use Rattle.std.proofs.lemmas.List.Elements.{All-push, Contains-push, Contains-append_left}
use Rattle.lola_value.specs.Ratio.{Ratio}
use Rattle.lola_model.specs.PacingFound.{finding_at, findings_at, rate_of, rates_of, IsAtMost, IsLeastRate}
use Rattle.lola_model.specs.declared.finding.FoundPacing.{FoundPacing}

pub at_most_through : (r q s : Ratio) → 0 < q.den → IsAtMost r q → IsAtMost q s → IsAtMost r s
at_most_through r q s positive h k =
    let a : r.num * q.den * s.den ≤ q.num * r.den * s.den = mul-le-mul_right s.den h in
    let b : q.num * s.den * r.den ≤ s.num * q.den * r.den = mul-le-mul_right r.den k in
    let x : q.den * (r.num * s.den) ≡ r.num * q.den * s.den = grind arith in
    let y : q.num * r.den * s.den ≡ q.num * s.den * r.den = grind arith in
    let z : s.num * q.den * r.den ≡ q.den * (s.num * r.den) = grind arith in
    let all : q.den * (r.num * s.den) ≤ q.den * (s.num * r.den) = omega (arith, a, b, x, y, z) in
    le_of_mul-le-mul_left all positive

module _ (rates : List Ratio) (other next : Ratio) (h : IsLeastRate rates other) where
  -- a rate that is at most the least one
  pub least_next : 0 < other.den → IsAtMost next other → IsLeastRate (rates ++ next ∷ []) next
  least_next positive most = record {
    listed = Contains-push rates next;
    least = All-push (IsAtMost next) rates next (λ k d lt. at_most_through next other (slice_index_or rates k d) positive most (h.least k d lt)) (omega arith);
  }

  -- and one that is not
  pub least_same : ¬ (IsAtMost next other) → IsLeastRate (rates ++ next ∷ []) other
  least_same above = record {
    listed = Contains-append_left rates (next ∷ []) other h.listed;
    least = All-push (IsAtMost other) rates next h.least (omega (arith, above));
  }

rates_of-append : (fs gs : List FoundPacing) → rates_of (fs ++ gs) ≡ rates_of fs ++ rates_of gs
rates_of-append [] gs = refl
rates_of-append (f ∷ fs) gs = ap (λ rs. rate_of f ++ rs) (rates_of-append fs gs) ∙ sym (append_assoc (rate_of f) (rates_of fs) (rates_of gs))

append_none : (rs : List Ratio) → rs ++ [] ≡ rs
append_none [] = refl
append_none (r ∷ rs) = ap (λ xs. r ∷ xs) (append_none rs)

-- the rates of one more stream
pub rates_more : (fs : List FoundPacing) (ss : List ℕ) (i : ℕ) → i < length ss
    → rates_of (findings_at fs (take (i + 1) ss)) ≡ rates_of (findings_at fs (take i ss)) ++ rate_of (finding_at fs (slice_index_or ss i 0))
rates_more fs ss i lt =
    let x = slice_index_or ss i 0 in
    let at : take (i + 1) ss ≡ take i ss ++ x ∷ [] = take_more ss i 0 lt in
    ap (λ (ns : List ℕ). rates_of (findings_at fs ns)) at
    ∙ ap rates_of (map-append (finding_at fs) (take i ss) (x ∷ []))
    ∙ rates_of-append (findings_at fs (take i ss)) (finding_at fs x ∷ [])
    ∙ ap (λ rs. rates_of (findings_at fs (take i ss)) ++ rs) (append_none (rate_of (finding_at fs x)))
