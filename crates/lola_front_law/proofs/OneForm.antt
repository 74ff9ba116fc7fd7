-- The least sets that pass a test are one list, and formulas that differ in boxes alone have one normal form.
use Rattle.std.proofs.Common.{◌≡◌, refl, sym, ap, ◌∙◌, ℕ, List, [], ◌∷◌, ◌++◌, Bool, ◌&&◌, ◌||◌, All, Any}
use Rattle.std.proofs.lemmas.List.Elements.{All-nil, All-cons, All-head, All-tail, All-append, All-contains, Contains-append_left, Contains-append_right}
use Rattle.lola_model.specs.Implication.{has_input, satisfies_formula}
use Rattle.lola_model.specs.InputOrder.{ComesBefore}
use Rattle.lola_model.specs.NormalForms.{IsWide, ListsLeast, ListsNormalForm, parts_of}
use Rattle.lola_model.specs.declared.pacing.InputSet.{InputSet}
use Rattle.lola_model.specs.declared.spec.Formula.{Formula}
use Rattle.lola_model.specs.declared.spec.Formula.TheVariants.{Input, And', Or'}
use Rattle.lola_model.proofs.Implied.{least_sets_are_the_same}
use Rattle.lola_model.proofs.Strictly.{All-from_members, same_by_members}
use Rattle.lola_pacing_normal.proofs.FormulaLemmas.{one_normal_form_lem}
use Rattle.lola_pacing_normal.proofs.LeastLemmas.{wide_by_test}
use Rattle.lola_pacing_normal.proofs.OrderLemmas.{strictly_before}
use Rattle.lola_types.specs.Filled.{SameFormula}
use Rattle.lola_front_law.proofs.AlikeKinds.{two}

pub one_least : (passes : ℕ → Bool) (a b : List InputSet) → ListsLeast passes a → ListsLeast passes b → a ≡ b
one_least passes a b h k =
    same_by_members ComesBefore strictly_before a b h.ordered k.ordered
    (least_sets_are_the_same passes a b h.least k.least)
    (least_sets_are_the_same passes b a k.least h.least)

-- ---- formulas

pub same_test : (f g : Formula) → SameFormula f g → (inputs : ℕ) → satisfies_formula inputs f ≡ satisfies_formula inputs g
same_test (Input i) (Input j) h inputs = ap (has_input inputs) h
same_test (And' u a v b) (And' x c y d) h inputs = two (λ (p q : Bool). p && q) _ _ _ _ (same_test a c h.0 inputs) (same_test b d h.1 inputs)
same_test (Or' u a v b) (Or' x c y d) h inputs = two (λ (p q : Bool). p || q) _ _ _ _ (same_test a c h.0 inputs) (same_test b d h.1 inputs)
same_test _ _ h inputs = absurd h

abbrev IsNarrow : Formula → Type 0
IsNarrow f = ¬ (IsWide f)

whole_narrow : (f g : Formula) → SameFormula f g → IsNarrow f → IsNarrow g
whole_narrow f g h narrow wide =
    narrow (wide_by_test (λ inputs. satisfies_formula inputs g) (λ inputs. satisfies_formula inputs f) (λ inputs. sym (same_test f g h inputs)) wide)

left_of : (fs gs : List Formula) → All IsNarrow (fs ++ gs) → All IsNarrow fs
left_of fs gs h = All-from_members IsNarrow fs (λ f m. All-contains IsNarrow (fs ++ gs) f h (Contains-append_left fs gs f m))

right_of : (fs gs : List Formula) → All IsNarrow (fs ++ gs) → All IsNarrow gs
right_of fs gs h = All-from_members IsNarrow gs (λ f m. All-contains IsNarrow (fs ++ gs) f h (Contains-append_right fs gs f m))

both_narrow : (f g : Formula) (as' bs cs ds : List Formula) → SameFormula f g → (All IsNarrow as' → All IsNarrow cs) → (All IsNarrow bs → All IsNarrow ds)
    → All IsNarrow (f ∷ (as' ++ bs)) → All IsNarrow (g ∷ (cs ++ ds))
both_narrow f g as' bs cs ds h left right all =
    let rest = All-tail IsNarrow f (as' ++ bs) all in
    All-cons IsNarrow g (cs ++ ds) (whole_narrow f g h (All-head IsNarrow f (as' ++ bs) all))
    (All-append IsNarrow cs ds (left (left_of as' bs rest)) (right (right_of as' bs rest)))

parts_narrow : (f g : Formula) → SameFormula f g → All IsNarrow (parts_of f) → All IsNarrow (parts_of g)
parts_narrow (Input i) (Input j) h all = All-cons IsNarrow (Input j) [] (whole_narrow (Input i) (Input j) h (All-head IsNarrow (Input i) [] all)) (All-nil IsNarrow)
parts_narrow (And' u a v b) (And' x c y d) h all =
    both_narrow (And' u a v b) (And' x c y d) (parts_of a) (parts_of b) (parts_of c) (parts_of d) h (parts_narrow a c h.0) (parts_narrow b d h.1) all
parts_narrow (Or' u a v b) (Or' x c y d) h all =
    both_narrow (Or' u a v b) (Or' x c y d) (parts_of a) (parts_of b) (parts_of c) (parts_of d) h (parts_narrow a c h.0) (parts_narrow b d h.1) all
parts_narrow _ _ h all = absurd h

none_wide : (fs : List Formula) → All IsNarrow fs → Any IsWide fs → ⊥
none_wide fs all wide = All-contains IsNarrow fs wide.1 all (wide.0, wide.2, wide.3) wide.4

pub one_form : (f g : Formula) (a b : List InputSet) → SameFormula f g → ListsNormalForm f a → ListsNormalForm g b → a ≡ b
one_form f g a b h x y = one_normal_form_lem.same f g a b x y (λ inputs e. sym (same_test f g h inputs) ∙ e) (λ inputs e. same_test f g h inputs ∙ e)

-- a formula with a normal form has no part that is too wide, nor has one that differs in boxes alone
pub form_or_wide : (f g : Formula) (a : List InputSet) → SameFormula f g → ListsNormalForm f a → Any IsWide (parts_of g) → ⊥
form_or_wide f g a h x wide = none_wide (parts_of g) (parts_narrow f g h x.narrow) wide

-- ---- the same formula, with other boxes

pub formula_itself : (f : Formula) → SameFormula f f
formula_itself (Input i) = refl
formula_itself (And' u a v b) = (formula_itself a, formula_itself b)
formula_itself (Or' u a v b) = (formula_itself a, formula_itself b)

pub formula_back : (f g : Formula) → SameFormula f g → SameFormula g f
formula_back (Input i) (Input j) h = sym h
formula_back (And' u a v b) (And' x c y d) h = (formula_back a c h.0, formula_back b d h.1)
formula_back (Or' u a v b) (Or' x c y d) h = (formula_back a c h.0, formula_back b d h.1)
formula_back _ _ h = absurd h

pub formula_through : (f g k : Formula) → SameFormula f g → SameFormula g k → SameFormula f k
formula_through (Input i) (Input j) (Input l) h q = h ∙ q
formula_through (Input i) (Input j) _ h q = absurd q
formula_through (And' u a v b) (And' x c y d) (And' t e w f) h q = (formula_through a c e h.0 q.0, formula_through b d f h.1 q.1)
formula_through (And' u a v b) (And' x c y d) _ h q = absurd q
formula_through (Or' u a v b) (Or' x c y d) (Or' t e w f) h q = (formula_through a c e h.0 q.0, formula_through b d f h.1 q.1)
formula_through (Or' u a v b) (Or' x c y d) _ h q = absurd q
formula_through _ _ k h q = absurd h
