-- The least of some rates, and rates that are kept.
use Rattle.std.proofs.Common.{◌⊎◌, inl, inr, ◌*◌, ◌<◌, ◌≤◌, List, [], ◌∷◌, ◌++◌, subst, arith}
use Rattle.std.specs.List.{Contains}
use Rattle.std.proofs.lemmas.Bool.{cases_lt}
use Rattle.std.proofs.lemmas.List.Elements.{All-nil, All-cons, All-weaker}
use Rattle.lola_value.specs.Ratio.{Ratio}
use Rattle.lola_pacing.proofs.RateLemmas.{at_most_through}
use Rattle.lola_model.proofs.Strictly.{Contains-cases, Contains-here, Contains-none, Contains-there}
use Rattle.lola_model.specs.PacingFound.{IsAtMost, IsLeastRate}
use Rattle.lola_model.specs.StepOrder.{AreRates, IsPositiveRate}

pub record HasLeastRate (rates : List Ratio) : Type 0 where
  pub rate : Ratio
  pub is : IsLeastRate rates rate
  pub positive : 0 < rate.den

one_least : (r : Ratio) → IsPositiveRate r → HasLeastRate (r ∷ [])
one_least r h = record { rate = r; is = record { listed = Contains-here r []; least = All-cons (IsAtMost r) r [] (omega arith) (All-nil (IsAtMost r)) }; positive = h.den }

pub least_rate : (r : Ratio) (rs : List Ratio) → AreRates (r ∷ rs) → HasLeastRate (r ∷ rs)
least_rate r [] h = one_least r h.0
least_rate r (s ∷ ss) h = go (least_rate s ss h.1)
  where
    by : (l : HasLeastRate (s ∷ ss)) → (l.rate.num * r.den < r.num * l.rate.den) ⊎ (r.num * l.rate.den ≤ l.rate.num * r.den) → HasLeastRate (r ∷ s ∷ ss)
    by l (inl above) = record {
      rate = l.rate;
      is = record { listed = Contains-there r l.rate (s ∷ ss) l.is.listed; least = All-cons (IsAtMost l.rate) r (s ∷ ss) (omega (arith, above)) l.is.least };
      positive = l.positive;
    }
    by l (inr most) = record {
      rate = r;
      is = record {
        listed = Contains-here r (s ∷ ss);
        least = All-cons (IsAtMost r) r (s ∷ ss) (omega arith) (All-weaker (IsAtMost l.rate) (IsAtMost r) (λ q k. at_most_through r l.rate q l.positive most k) (s ∷ ss) l.is.least);
      };
      positive = h.0.den;
    }

    go : HasLeastRate (s ∷ ss) → HasLeastRate (r ∷ s ∷ ss)
    go l = by l (cases_lt (l.rate.num * r.den) (r.num * l.rate.den))

-- a rate that is listed
pub rate_among : (rates : List Ratio) (r : Ratio) → AreRates rates → Contains rates r → IsPositiveRate r
rate_among [] r h c = absurd (Contains-none r c)
rate_among (s ∷ ss) r h c = elim (Contains-cases s r ss c) [ inl e ↦ subst IsPositiveRate e h.0 | inr d ↦ rate_among ss r h.1 d ]

pub rates_both : (as' bs : List Ratio) → AreRates as' → AreRates bs → AreRates (as' ++ bs)
rates_both [] bs h k = k
rates_both (a ∷ as') bs h k = (h.0, rates_both as' bs h.1 k)
