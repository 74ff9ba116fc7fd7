-- Normal forms of formulas, from those of their parts.
use Rattle.std.proofs.Common.{◌≡◌, refl, ap, sym, subst, ◌∙◌, ℕ, ◌*◌, ◌^◌, List, [], ◌∷◌, ◌++◌, Bool, true, false, ◌&&◌, ◌||◌, nat_eq, Result, Ok, Err, arith}
use Rattle.std.proofs.lemmas.Bool.{eqb-true, eq-eqb}
use Rattle.std.proofs.lemmas.Nat.{and_comm}
use Rattle.std.proofs.lemmas.Nat.Bits.{and_pow, bit_at-pow_same}
use Rattle.std.proofs.lemmas.List.Elements.{All-nil, All-cons, All-append, Contains-append_left, Contains-append_right}
use Rattle.std.specs.Int.{bit_at}
use Rattle.std.specs.Int.Bits.{bit_and}
use Rattle.std.specs.List.{All, Any, Contains}
use Rattle.lola_model.proofs.Strictly.{Contains-here, Contains-there, same_by_members}
use Rattle.lola_model.proofs.Implied.{normal_form_decides, least_sets_are_the_same}
use Rattle.lola_model.specs.Activity.{satisfies_some}
use Rattle.lola_model.specs.Implication.{has_input, satisfies_formula, IsNormalFormOf, AreLeastSets}
use Rattle.lola_model.specs.declared.pacing.InputSet.{InputSet}
use Rattle.lola_model.specs.declared.spec.Formula.{Formula}
use Rattle.lola_model.specs.declared.spec.Formula.TheVariants.{Input}
use Rattle.lola_model.specs.InputOrder.{ComesBefore}
use Rattle.lola_pacing_normal.specs.Least.{AnswersLeast}
use Rattle.lola_model.specs.NormalForms.{parts_of, IsWide, ListsNormalForm}
use Rattle.lola_pacing_normal.specs.Formulas.{AnswersNormal, HasOneNormalForm}
use Rattle.lola_pacing_normal.specs.declared.answer.NormalEnd.{NormalEnd}
use Rattle.lola_pacing_normal.specs.declared.answer.NormalEnd.TheVariants as ends
use Rattle.lola_pacing_normal.proofs.BitLemmas.{within_has}
use Rattle.lola_pacing_normal.proofs.OrderLemmas.{strictly_before}
use Rattle.lola_pacing_normal.proofs.LeastLemmas.{passes_some, same_bool, least_by_test, wide_by_test}

-- a normal form and its formula are one test
pub same_test : (f : Formula) (sets : List InputSet) → IsNormalFormOf f sets → (inputs : ℕ) → satisfies_some inputs sets ≡ satisfies_formula inputs f
same_test f sets h inputs = let d = normal_form_decides f sets h inputs in same_bool (satisfies_some inputs sets) (satisfies_formula inputs f) d.1 d.0

-- some part

any_of : (P : Formula → Type 0) (fs : List Formula) (f : Formula) → Contains fs f → P f → Any P fs
any_of P fs f c h = (c.0, f, c.1, c.2, h)

pub any_first : (P : Formula → Type 0) (f : Formula) (fs : List Formula) → P f → Any P (f ∷ fs)
any_first P f fs h = any_of P (f ∷ fs) f (Contains-here f fs) h

pub any_left : (P : Formula → Type 0) (f : Formula) (fs gs : List Formula) → Any P fs → Any P (f ∷ (fs ++ gs))
any_left P f fs gs w = any_of P (f ∷ (fs ++ gs)) w.1 (Contains-there f w.1 (fs ++ gs) (Contains-append_left fs gs w.1 (w.0, w.2, w.3))) w.4

pub any_right : (P : Formula → Type 0) (f : Formula) (fs gs : List Formula) → Any P gs → Any P (f ∷ (fs ++ gs))
any_right P f fs gs w = any_of P (f ∷ (fs ++ gs)) w.1 (Contains-there f w.1 (fs ++ gs) (Contains-append_right fs gs w.1 (w.0, w.2, w.3))) w.4

-- one input

pub input_passes : (n : ℕ) (inputs : ℕ) → passes_some (2 ^ n ∷ []) inputs ≡ has_input inputs n
input_passes n inputs = same_bool (passes_some (2 ^ n ∷ []) inputs) (has_input inputs n) there back
  where
    last : (b : Bool) → (b || false) ≡ true → b ≡ true
    last true e = refl
    last false e = e

    there : passes_some (2 ^ n ∷ []) inputs ≡ true → has_input inputs n ≡ true
    there e =
        let w : bit_and (2 ^ n) inputs ≡ 2 ^ n = eqb-true (bit_and (2 ^ n) inputs) (2 ^ n) (last (nat_eq (bit_and (2 ^ n) inputs) (2 ^ n)) e) in
        eq-eqb (bit_at inputs n) 1 (within_has (2 ^ n) inputs n w (bit_at-pow_same n))

    back : has_input inputs n ≡ true → passes_some (2 ^ n ∷ []) inputs ≡ true
    back e =
        let has : bit_at inputs n ≡ 1 = eqb-true (bit_at inputs n) 1 e in
        let w : bit_and (2 ^ n) inputs ≡ 2 ^ n = and_comm (2 ^ n) inputs ∙ (and_pow inputs n ∙ (ap (λ b. b * 2 ^ n) has ∙ omega arith)) in
        ap (λ b. b || false) (eq-eqb (bit_and (2 ^ n) inputs) (2 ^ n) w)

pub normal_input : (n : ℕ) (r : Result (List InputSet) NormalEnd) → AnswersLeast (λ inputs. has_input inputs n) r → AnswersNormal (Input n) r
normal_input n (Ok sets) h = record {
  least = h.least;
  ordered = h.ordered;
  narrow = All-cons (λ (part : Formula). ¬ (IsWide part)) (Input n) [] h.narrow (All-nil (λ (part : Formula). ¬ (IsWide part)));
}
normal_input n (Err ends.TooWide) h = any_first IsWide (Input n) [] h
normal_input n (Err ends.Memory) h = tt

-- two parts, of which a formula is made whose test is made of theirs

-- the answer for the whole
pub normal_of_parts : (f a b : Formula) (x y : List InputSet) (p : ℕ → Bool) (r : Result (List InputSet) NormalEnd) → parts_of f ≡ f ∷ (parts_of a ++ parts_of b) → ListsNormalForm a x → ListsNormalForm b y
    → ((inputs : ℕ) → p inputs ≡ satisfies_formula inputs f) → AnswersLeast p r → AnswersNormal f r
normal_of_parts f a b x y p (Ok sets) is ha hb e h = record {
  least = least_by_test p (λ inputs. satisfies_formula inputs f) sets e h.least;
  ordered = h.ordered;
  narrow = subst (λ fs. All (λ (part : Formula). ¬ (IsWide part)) fs) (sym is)
      (All-cons (λ (part : Formula). ¬ (IsWide part)) f (parts_of a ++ parts_of b) (λ w. h.narrow (wide_by_test (λ inputs. satisfies_formula inputs f) p (λ n. sym (e n)) w))
      (All-append (λ (part : Formula). ¬ (IsWide part)) (parts_of a) (parts_of b) ha.narrow hb.narrow));
}
normal_of_parts f a b x y p (Err ends.TooWide) is ha hb e h = subst (λ fs. Any IsWide fs) (sym is) (any_first IsWide f (parts_of a ++ parts_of b) (wide_by_test p (λ inputs. satisfies_formula inputs f) e h))
normal_of_parts f a b x y p (Err ends.Memory) is ha hb e h = tt

pub normal_and : (f a b : Formula) (x y : List InputSet) (r : Result (List InputSet) NormalEnd) → parts_of f ≡ f ∷ (parts_of a ++ parts_of b) → ((inputs : ℕ) → satisfies_formula inputs f ≡ (satisfies_formula inputs a && satisfies_formula inputs b))
    → ListsNormalForm a x → ListsNormalForm b y → AnswersLeast (λ inputs. satisfies_some inputs x && satisfies_some inputs y) r → AnswersNormal f r
normal_and f a b x y r is test ha hb h = normal_of_parts f a b x y (λ inputs. satisfies_some inputs x && satisfies_some inputs y) r is ha hb
    (λ inputs. ap (λ t. t && satisfies_some inputs y) (same_test a x ha.least inputs) ∙ (ap (λ t. satisfies_formula inputs a && t) (same_test b y hb.least inputs) ∙ sym (test inputs))) h

pub normal_or : (f a b : Formula) (x y : List InputSet) (r : Result (List InputSet) NormalEnd) → parts_of f ≡ f ∷ (parts_of a ++ parts_of b) → ((inputs : ℕ) → satisfies_formula inputs f ≡ (satisfies_formula inputs a || satisfies_formula inputs b))
    → ListsNormalForm a x → ListsNormalForm b y → AnswersLeast (λ inputs. satisfies_some inputs x || satisfies_some inputs y) r → AnswersNormal f r
normal_or f a b x y r is test ha hb h = normal_of_parts f a b x y (λ inputs. satisfies_some inputs x || satisfies_some inputs y) r is ha hb
    (λ inputs. ap (λ t. t || satisfies_some inputs y) (same_test a x ha.least inputs) ∙ (ap (λ t. satisfies_formula inputs a || t) (same_test b y hb.least inputs) ∙ sym (test inputs))) h

-- a part ends the search
pub end_of_left : (f a b : Formula) (end : NormalEnd) → parts_of f ≡ f ∷ (parts_of a ++ parts_of b) → AnswersNormal a (Err end) → AnswersNormal f (Err end)
end_of_left f a b ends.TooWide is h = subst (λ fs. Any IsWide fs) (sym is) (any_left IsWide f (parts_of a) (parts_of b) h)
end_of_left f a b ends.Memory is h = tt

pub end_of_right : (f a b : Formula) (end : NormalEnd) → parts_of f ≡ f ∷ (parts_of a ++ parts_of b) → AnswersNormal b (Err end) → AnswersNormal f (Err end)
end_of_right f a b ends.TooWide is h = subst (λ fs. Any IsWide fs) (sym is) (any_right IsWide f (parts_of a) (parts_of b) h)
end_of_right f a b ends.Memory is h = tt

-- formulas that imply each other have one list
pub one_normal_form_lem : HasOneNormalForm
one_normal_form_lem = record {
  same = λ f g a b h k i j.
      let agree : (n : ℕ) → satisfies_formula n g ≡ satisfies_formula n f = λ n. same_bool (satisfies_formula n g) (satisfies_formula n f) (j n) (i n) in
      let other : AreLeastSets (λ n. satisfies_formula n f) b = least_by_test (λ n. satisfies_formula n g) (λ n. satisfies_formula n f) b agree k.least in
      same_by_members ComesBefore strictly_before a b h.ordered k.ordered
      (least_sets_are_the_same (λ n. satisfies_formula n f) a b h.least other)
      (least_sets_are_the_same (λ n. satisfies_formula n f) b a other h.least);
}
