-- Rates that are left out since they are there already take no deadline away.
use Rattle.std.proofs.Common.{◌≡◌, refl, ap, sym, subst, ◌∙◌, ℕ, zero, suc, ◌<◌, List, [], ◌∷◌, ◌++◌, Option, Some, None, Contains, length, slice_index_or, append_assoc, append-nil, arith, min}
use Rattle.lola_value.specs.Ratio.{Ratio}
use Rattle.lola_value.specs.Rate.{next_deadline}
use Rattle.lola_model.specs.StepOrder.{AreRates}
use Rattle.lola_model.specs.Steps.{earlier_of_two, first_after}
use Rattle.lola_engine.specs.Rates.{HaveDeadlinesOf}

-- the earlier of two moments, if they are there
abbrev joined : Option ℕ → Option ℕ → Option ℕ
joined None o = o
joined (Some s) None = Some s
joined (Some s) (Some t) = Some (min s t)

joined_one : (a b : Option ℕ) (n : ℕ) → Some (earlier_of_two (joined a b) n) ≡ joined (Some (earlier_of_two a n)) b
joined_one None None n = refl
joined_one None (Some t) n = ap Some (omega arith)
joined_one (Some s) None n = refl
joined_one (Some s) (Some t) n = ap Some (omega arith)

-- the first deadline of two lists of rates is the earlier of their first ones
first_of_both : (xs ys : List Ratio) (t : ℕ) → first_after (xs ++ ys) t ≡ joined (first_after xs t) (first_after ys t)
first_of_both [] ys t = refl
first_of_both (x ∷ xs) ys t =
    ap (λ (o : Option ℕ). Some (earlier_of_two o (next_deadline x t))) (first_of_both xs ys t)
    ∙ joined_one (first_after xs t) (first_after ys t) (next_deadline x t)

both_rates : (xs ys : List Ratio) → AreRates xs → AreRates ys → AreRates (xs ++ ys)
both_rates [] ys a b = b
both_rates (x ∷ xs) ys a b = (a.0, both_rates xs ys a.1 b)

front_rates : (xs ys : List Ratio) → AreRates (xs ++ ys) → AreRates xs
front_rates [] ys a = tt
front_rates (x ∷ xs) ys a = (a.0, front_rates xs ys a.1)

back_rates : (xs ys : List Ratio) → AreRates (xs ++ ys) → AreRates ys
back_rates [] ys a = a
back_rates (x ∷ xs) ys a = back_rates xs ys a.1

pub have_own : (rates : List Ratio) → HaveDeadlinesOf rates rates
have_own rates = record { first = λ t. refl; are_rates = λ a. a }

pub have_through : (all some few : List Ratio) → HaveDeadlinesOf all some → HaveDeadlinesOf some few → HaveDeadlinesOf all few
have_through all some few a b = record { first = λ t. b.first t ∙ a.first t; are_rates = λ r. b.are_rates (a.are_rates r) }

pub have_more : (all some more : List Ratio) → HaveDeadlinesOf all some → HaveDeadlinesOf (all ++ more) (some ++ more)
have_more all some more h = record {
  first = λ t. first_of_both some more t ∙ (ap (λ (o : Option ℕ). joined o (first_after more t)) (h.first t) ∙ sym (first_of_both all more t));
  are_rates = λ r. both_rates some more (h.are_rates (front_rates all more r)) (back_rates all more r);
}

-- a rate that is there already
joined_again : (o : Option ℕ) (n : ℕ) → Some (earlier_of_two o n) ≡ joined (Some (earlier_of_two o n)) (Some n)
joined_again None n = ap Some (omega arith)
joined_again (Some s) n = ap Some (omega arith)

joined_past : (o : Option ℕ) (m n : ℕ) → o ≡ joined o (Some n) → Some (earlier_of_two o m) ≡ joined (Some (earlier_of_two o m)) (Some n)
joined_past None m n e = absurd (cc)
joined_past (Some s) m n e = let same : s ≡ min s n = cc in ap Some (omega (arith, same))

covered : (xs : List Ratio) (r : Ratio) (t k : ℕ) → k < length xs → slice_index_or xs k r ≡ r → first_after xs t ≡ joined (first_after xs t) (Some (next_deadline r t))
covered [] r t k lt e = absurd (omega (arith, lt))
covered (x ∷ xs) r t zero lt e =
    subst (λ (q : Ratio). Some (earlier_of_two (first_after xs t) (next_deadline q t)) ≡ joined (Some (earlier_of_two (first_after xs t) (next_deadline q t))) (Some (next_deadline r t)))
    (sym e)
    (joined_again (first_after xs t) (next_deadline r t))
covered (x ∷ xs) r t (suc k) lt e = joined_past (first_after xs t) (next_deadline x t) (next_deadline r t) (covered xs r t k (omega (arith, lt)) e)

pub have_again : (rates : List Ratio) (r : Ratio) → Contains rates r → HaveDeadlinesOf (rates ++ r ∷ []) rates
have_again rates r there = record {
  first = λ t. covered rates r t there.0 there.1 there.2 ∙ sym (first_of_both rates (r ∷ []) t);
  are_rates = front_rates rates (r ∷ []);
}

-- rates of one clause after those of another
pub have_next : (all rates more rest new : List Ratio) → HaveDeadlinesOf all (rates ++ (more ++ rest)) → HaveDeadlinesOf (rates ++ more) new → HaveDeadlinesOf all (new ++ rest)
have_next all rates more rest new before h =
    have_through all (rates ++ (more ++ rest)) (new ++ rest) before
    (subst (λ (xs : List Ratio). HaveDeadlinesOf xs (new ++ rest)) (append_assoc rates more rest) (have_more (rates ++ more) new rest h))

pub have_all : (all rates : List Ratio) → HaveDeadlinesOf all (rates ++ []) → HaveDeadlinesOf all rates
have_all all rates h = subst (HaveDeadlinesOf all) (append-nil rates) h
