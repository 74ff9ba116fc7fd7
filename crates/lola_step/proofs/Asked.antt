-- What a clause comes to, from what its condition and its expressions come to.
use Rattle.std.proofs.Common.{◌≡◌, ℕ, refl, ap, sym, ◌∙◌, subst, List, [], ◌∷◌, Some, Ok, Err, true, false, slice_get, map, drop, length, nat_le, arith, IsTrue}
use Rattle.lola_value.specs.declared.value.Kind.{Kind}
use Rattle.lola_value.specs.declared.value.Value.{Value}
use Rattle.lola_value.specs.declared.value.Value.TheVariants as value
use Rattle.lola_value.specs.declared.value.Outcome.{Outcome}
use Rattle.lola_value.specs.declared.value.Outcome.TheVariants as outcome
use Rattle.lola_value.specs.declared.value.Params.{Params}
use Rattle.lola_value.specs.Answer.{Answer, Given}
use Rattle.lola_value.specs.Kinds.{all_unused, is_unused, is_well_formed}
use Rattle.lola_value.specs.Naming.{Naming, read, read_outcome, read_params, the_values}
use Rattle.lola_model.specs.Content.{Content}
use Rattle.lola_model.specs.Denotation.{den, with_argument}
use Rattle.lola_model.specs.Model.{first_answer, named_params}
use Rattle.lola_model.specs.Store.{Memories, Seen, no_params}
use Rattle.lola_model.specs.Typing.{noted}
use Rattle.lola_model.specs.declared.expr.Expr.{Expr}
use Rattle.lola_model.specs.declared.plan.Plan.{Plan}
use Rattle.lola_model.specs.declared.spec.Spec.{Spec}
use Rattle.lola_expr.specs.Evaluation.{IsDenoted, is_named, is_no_value}
use Rattle.lola_expr.proofs.OperandLemmas.{first, second}
use Rattle.lola_step_contents.specs.Ready.{AreAskable, HasTexts}
use Rattle.lola_step.specs.Clauses.{AreExpressions, IsAnswer}

-- the first of some expressions is the answer
pub first_answered : (plan : Plan) (remembers : Memories) (s : Seen) (p : Params) (wants : List Kind) (es : List Expr) (e : Expr) (r : Outcome) → slice_get es 0 ≡ Some e
    → AreAskable s p plan.spec.texts wants es → IsDenoted remembers s p e r → IsAnswer plan remembers s p (λ c q. first_answer plan.spec c q es) r
first_answered plan remembers s p wants [] e r is a d = absurd (cc)
first_answered plan remembers s p wants (x ∷ xs) e r is a d = λ names c sees texts.
    let q : x ≡ e = cc in
    let w = d plan names c sees (subst (λ (y : Expr). (n : Naming) → HasTexts n plan.spec.texts → IsTrue (is_named n plan.spec.texts y)) q a.0.named names texts) in
    (w.0 ∙ ap (den plan.spec c (read_params names p)) (sym q), w.1)

-- no value
pub no_value : (r : Outcome) → ((v : Value) → r ≡ outcome.Value v → ⊥) → is_no_value r ≡ true
no_value (outcome.Value v) ne = absurd (ne v refl)
no_value outcome.Missing ne = refl
no_value (outcome.Fault k) ne = refl
no_value outcome.Poison ne = refl

-- one more parameter
pub named_more : (spec : Spec) (names : Naming) (c : Content) (es others : List Expr) (e : Expr) (v : Value) (given all : Params) → es ≡ e ∷ others → Given (read names v) ≡ den spec c [] e
    → named_params spec c others ≡ Ok (read_params names given) → the_values all ≡ v ∷ the_values given → named_params spec c es ≡ Ok (read_params names all)
named_more spec names c es others e v given all is a b values =
    ap (named_params spec c) is
    ∙ (ap (λ x. with_argument x (named_params spec c others)) (sym a)
    ∙ (ap (with_argument (Given (read names v))) b
    ∙ ap (λ vs. Ok (map (read names) vs)) (sym values)))

-- a later one that is no value decides
pub named_later : (spec : Spec) (names : Naming) (c : Content) (es others : List Expr) (e : Expr) (v : Value) (a : Answer) → es ≡ e ∷ others → Given (read names v) ≡ den spec c [] e
    → named_params spec c others ≡ Err a → named_params spec c es ≡ Err a
named_later spec names c es others e v a is d b =
    ap (named_params spec c) is
    ∙ (ap (λ x. with_argument x (named_params spec c others)) (sym d)
    ∙ ap (with_argument (Given (read names v))) b)

-- and so does the first
pub named_first : (spec : Spec) (names : Naming) (c : Content) (es others : List Expr) (e : Expr) (r : Outcome) → es ≡ e ∷ others → ((v : Value) → r ≡ outcome.Value v → ⊥)
    → read_outcome names r ≡ den spec c [] e → named_params spec c es ≡ Err (read_outcome names r)
named_first spec names c es others e r is ne d =
    ap (named_params spec c) is ∙ (ap (λ x. with_argument x (named_params spec c others)) (sym d) ∙ by_outcome r ne)
  where
    by_outcome : (o : Outcome) → ((v : Value) → o ≡ outcome.Value v → ⊥) → with_argument (read_outcome names o) (named_params spec c others) ≡ Err (read_outcome names o)
    by_outcome (outcome.Value v) ne = absurd (ne v refl)
    by_outcome outcome.Missing ne = refl
    by_outcome (outcome.Fault k) ne = refl
    by_outcome outcome.Poison ne = refl

-- expressions of given kinds are each of their own kind
pub of_their_own : (s : Seen) (texts : List (List ℕ)) (wants : List Kind) (es : List Expr) → AreAskable s no_params texts wants es → AreExpressions s texts es
of_their_own s texts wants [] a = tt
of_their_own s texts wants (e ∷ es) a = (record { asks = a.0.asks; kind = refl; named = a.0.named }, of_their_own s texts (drop 1 wants) es a.1)

-- and those kinds are the given ones
pub kinds_are : (s : Seen) (texts : List (List ℕ)) (wants : List Kind) (es : List Expr) → AreAskable s no_params texts wants es → length es ≡ length wants → map noted es ≡ wants
kinds_are s texts [] [] a e = refl
kinds_are s texts [] (x ∷ xs) a e = absurd (omega (arith, e))
kinds_are s texts (k ∷ ks) [] a e = absurd (omega (arith, e))
kinds_are s texts (k ∷ ks) (x ∷ xs) a e =
    ap (λ (j : Kind). j ∷ map noted xs) a.0.kind ∙ ap (λ js. k ∷ js) (kinds_are s texts ks xs a.1 (omega (arith, e)))

-- what a place holds that is not used
unused_is : (v : Value) → is_unused v ≡ true → v ≡ value.Bool false
unused_is (value.Bool true) h = absurd (cc)
unused_is (value.Bool false) h = refl
unused_is (value.Int z) h = absurd (cc)
unused_is (value.Text id) h = absurd (cc)

-- no parameters
pub none_is : (p : Params) → p.count ≡ 0 → is_well_formed p ≡ true → p ≡ no_params
none_is p n w =
    let all = subst (λ k. all_unused (drop k (p.at0 ∷ p.at1 ∷ p.at2 ∷ p.at3 ∷ [])) ≡ true) n (second (nat_le p.count 4) (all_unused (drop p.count (p.at0 ∷ p.at1 ∷ p.at2 ∷ p.at3 ∷ []))) w) in
    let later = second (is_unused p.at0) (all_unused (p.at1 ∷ p.at2 ∷ p.at3 ∷ [])) all in
    let last = second (is_unused p.at1) (all_unused (p.at2 ∷ p.at3 ∷ [])) later in
    let e0 = unused_is p.at0 (first (is_unused p.at0) (all_unused (p.at1 ∷ p.at2 ∷ p.at3 ∷ [])) all) in
    let e1 = unused_is p.at1 (first (is_unused p.at1) (all_unused (p.at2 ∷ p.at3 ∷ [])) later) in
    let e2 = unused_is p.at2 (first (is_unused p.at2) (all_unused (p.at3 ∷ [])) last) in
    let e3 = unused_is p.at3 (first (is_unused p.at3) (all_unused []) (second (is_unused p.at2) (all_unused (p.at3 ∷ [])) last)) in
    λ i. record { count = n i; at0 = e0 i; at1 = e1 i; at2 = e2 i; at3 = e3 i }
