-- What is printed of a formula spells it.
use Rattle.std.proofs.Common.{◌≡◌, ℕ, zero, suc, ◌≤◌, ◌<◌, Bool, true, false, List, [], ◌∷◌, ◌++◌, refl, sym, ap, subst, arith, inl, inr, ltb-false, ltb-true}
use Rattle.std.specs.Prelude.{nat_lt}
use Rattle.std.proofs.lemmas.Bool.{cases_lt}
use Rattle.lola_lexer.specs.declared.shape.TokenShape.TheVariants as is
use Rattle.lola_parser_grammar.specs.declared.literals.Name.{Name}
use Rattle.lola_parser_grammar.specs.declared.pacing.Formula.{Formula, more_of-Formula, end_of-Formula}
use Rattle.lola_parser_grammar.specs.declared.pacing.Formula.TheVariants as f
use Rattle.lola_parser_grammar.specs.declared.pacing.Formula.TheBlock as X
use Rattle.lola_parser_grammar.specs.Syntax.{Lexeme, Syntax, Then, Spells}
use Rattle.lola_parser_grammar.specs.Grammar as g
use Rattle.lola_parser_grammar.specs.Grammar.{token, nesting, formula_in, ◌*>◌, ◌<*◌}
use Rattle.lola_parser_print.specs.Print as out
use Rattle.lola_parser_print.specs.Print.{lex, bracketed_if, print_formula, bare_formula, formula_level}
use Rattle.lola_parser_law.specs.Erased as erased
use Rattle.lola_parser_law.specs.Erased.{formula_need}
use Rattle.lola_parser_law.proofs.Single.{token_spelled, nesting_spelled, name_spelled, after, before, both, joined_none, joined_more}

abbrev pub FormulaAt : ℕ → Syntax Formula → Syntax Formula
FormulaAt zero F = g.formula_with F
FormulaAt (suc zero) F = g.conjunct F
FormulaAt (suc (suc k)) F = g.atom F

module _ (F : Syntax Formula) where
  up : (u : List Lexeme) (x : Formula) (j : ℕ) → j < 2 → Spells (FormulaAt (suc j) F) u x → Spells (FormulaAt j F) u x
  unfolding g.formula_with g.alternatives_of g.conjunct g.conjunctions_of
  up u x zero l h = joined_none g.either (g.conjunct F) (Then (nesting is.Or) (g.conjunct F)) u x h
  up u x (suc zero) l h = joined_none g.both (g.atom F) (Then (nesting is.And) (g.atom F)) u x h
  up u x (suc (suc j)) l h = absurd (omega (arith, l))

  down : (u : List Lexeme) (x : Formula) (j k : ℕ) → k ≤ j → j ≤ 2 → Spells (FormulaAt j F) u x → Spells (FormulaAt k F) u x
  down u x zero k le top h = let e : 0 ≡ k = omega (arith, le) in subst (λ i. Spells (FormulaAt i F) u x) e h
  down u x (suc j) k le top h = elim (cases_lt k (suc j)) [
    | inl lt ↦ down u x j k (omega (arith, lt)) (omega (arith, top)) (up u x j (omega (arith, top)) h)
    | inr ge ↦ (let e : suc j ≡ k = omega (arith, le, ge) in subst (λ i. Spells (FormulaAt i F) u x) e h)
  ]

  both_spelled : (u w : List Lexeme) (a b : Formula) → Spells (FormulaAt 1 F) u a → Spells (FormulaAt 2 F) w b → Spells (FormulaAt 1 F) (u ++ (lex is.And ∷ w)) (f.Both 0 a b)
  unfolding g.conjunct g.conjunctions_of
  both_spelled u w a b h k =
      joined_more g.both (g.atom F) (Then (nesting is.And) (g.atom F)) u (lex is.And ∷ w) a (0, b) h (both (nesting is.And) (g.atom F) (lex is.And ∷ []) w 0 b (nesting_spelled is.And) k)

  either_spelled : (u w : List Lexeme) (a b : Formula) → Spells (FormulaAt 0 F) u a → Spells (FormulaAt 1 F) w b → Spells (FormulaAt 0 F) (u ++ (lex is.Or ∷ w)) (f.Either 0 a b)
  unfolding g.formula_with g.alternatives_of
  either_spelled u w a b h k =
      joined_more g.either (g.conjunct F) (Then (nesting is.Or) (g.conjunct F)) u (lex is.Or ∷ w) a (0, b) h (both (nesting is.Or) (g.conjunct F) (lex is.Or ∷ []) w 0 b (nesting_spelled is.Or) k)

  input_spelled : (n : Name) → Spells (FormulaAt 2 F) (out.name n ∷ []) (f.Input (erased.name n))
  unfolding Spells g.atom
  input_spelled n = inl (erased.name n, refl, name_spelled n)

  in_brackets : (u : List Lexeme) (x : Formula) → Spells F u x → Spells (FormulaAt 2 F) (out.bracketed u) x
  unfolding Spells g.atom
  in_brackets u x h = inr (closed u x h)
    where
      closed : (u : List Lexeme) (x : Formula) → Spells F u x → Spells (nesting is.Open *> F <* token is.Shut) (out.bracketed u) x
      closed u x h =
          after (nesting is.Open) (F <* token is.Shut) (lex is.Open ∷ []) (u ++ lex is.Shut ∷ []) 0 x (nesting_spelled is.Open)
          (before F (token is.Shut) u (lex is.Shut ∷ []) x 0 h (token_spelled is.Shut))

pub record PrintedFormula (x : Formula) (n : ℕ) : Type 0 where
  pub levels : (k : ℕ) → k ≤ 2 → Spells (FormulaAt k (formula_in n)) (print_formula x k) (erased.formula x)

none_below : (b : Bool) (l : ℕ) → nat_lt l 0 ≡ b → b ≡ false
none_below true l h = absurd (omega (arith, ltb-true l 0 h))
none_below false l h = refl

inward : (n : ℕ) (u : List Lexeme) (x : Formula) → Spells (FormulaAt 0 (formula_in n)) u x → Spells (formula_in (suc n)) u x
unfolding Spells g.formula_level
inward n u x h = h

-- without brackets, as a formula one level further in
pub formula_whole : (x : Formula) (n : ℕ) → PrintedFormula x n → Spells (formula_in (suc n)) (bare_formula x) (erased.formula x)
formula_whole x n p =
    inward n (bare_formula x) (erased.formula x)
    (subst (λ (w : List Lexeme). Spells (FormulaAt 0 (formula_in n)) w (erased.formula x)) (ap (λ b. bracketed_if b (bare_formula x)) (none_below (nat_lt (formula_level x) 0) (formula_level x) refl)) (p.levels 0 (omega arith)))

-- a formula that stands at a level, and in brackets at those above
formula_above : (x : Formula) (n t : ℕ) → formula_level x ≡ t → t ≤ 2
    → Spells (FormulaAt t (formula_in n)) (bare_formula x) (erased.formula x) → Spells (FormulaAt t (formula_in (suc n))) (bare_formula x) (erased.formula x) → PrintedFormula x (suc n)
formula_above x n t is_level top below here =
    let F = formula_in (suc n) in
    let u = bare_formula x in
    let z = erased.formula x in
    let same : (k : ℕ) → print_formula x k ≡ bracketed_if (nat_lt t k) u = λ k. ap (λ l. bracketed_if (nat_lt l k) u) is_level in
    let closed = in_brackets F u z (inward n u z (down (formula_in n) u z t 0 (omega arith) top below)) in
    let at : (k : ℕ) → k ≤ 2 → (b : Bool) → nat_lt t k ≡ b → Spells (FormulaAt k F) (bracketed_if b u) z =
    λ k le b is. elim b as (λ c. nat_lt t k ≡ c → Spells (FormulaAt k F) (bracketed_if c u) z) [
      | true ↦ λ _. down F (out.bracketed u) z 2 k le (omega arith) closed
      | false ↦ λ i. down F u z t k (ltb-false t k i) top here
    ] is in
    record { levels = λ k le. subst (λ (w : List Lexeme). Spells (FormulaAt k F) w z) (sym (same k)) (at k le (nat_lt t k) refl) }

input_printed : (nm : Name) (n : ℕ) → PrintedFormula (f.Input nm) n
input_printed nm n =
    record {
      levels = λ k le.
          let low : nat_lt 2 k ≡ false = by k (nat_lt 2 k) refl le in
          subst (λ (w : List Lexeme). Spells (FormulaAt k (formula_in n)) w (f.Input (erased.name nm))) (sym (ap (λ b. bracketed_if b (out.name nm ∷ [])) low))
          (down (formula_in n) (out.name nm ∷ []) (f.Input (erased.name nm)) 2 k le (omega arith) (input_spelled (formula_in n) nm));
    }
  where
    by : (k : ℕ) (b : Bool) → nat_lt 2 k ≡ b → k ≤ 2 → b ≡ false
    by k true h le = absurd (omega (arith, le, ltb-true 2 k h))
    by k false h le = refl

pub formula_printed : (x : Formula) (n : ℕ) → formula_need x ≤ n → PrintedFormula x n
unfolding X.shape-the_row-Formula-0 X.hidden-the_row-Formula-0 denote.Hole.Carrier.hidden denote.Hole.Carrier.shown denote.Hole.Carrier.roll denote.Hole.Carrier.out
formula_printed (f.Input nm) n le = input_printed nm n
formula_printed (f.Both' at p (more_of-Formula x end_of-Formula) q (more_of-Formula y end_of-Formula)) zero le = absurd (omega (arith, le))
formula_printed (f.Both' at p (more_of-Formula x end_of-Formula) q (more_of-Formula y end_of-Formula)) (suc n) le =
    let here : (j : ℕ) → formula_need x ≤ j → formula_need y ≤ j → Spells (FormulaAt 1 (formula_in j)) (print_formula x 1 ++ (lex is.And ∷ print_formula y 2)) (f.Both 0 (erased.formula x) (erased.formula y)) =
    λ j a b. both_spelled (formula_in j) (print_formula x 1) (print_formula y 2) (erased.formula x) (erased.formula y) ((formula_printed x j a).levels 1 (omega arith)) ((formula_printed y j b).levels 2 (omega arith)) in
    formula_above (f.Both at x y) n 1 refl (omega arith) (here n (omega (arith, le)) (omega (arith, le))) (here (suc n) (omega (arith, le)) (omega (arith, le)))
formula_printed (f.Either' at p (more_of-Formula x end_of-Formula) q (more_of-Formula y end_of-Formula)) zero le = absurd (omega (arith, le))
formula_printed (f.Either' at p (more_of-Formula x end_of-Formula) q (more_of-Formula y end_of-Formula)) (suc n) le =
    let here : (j : ℕ) → formula_need x ≤ j → formula_need y ≤ j → Spells (FormulaAt 0 (formula_in j)) (print_formula x 0 ++ (lex is.Or ∷ print_formula y 1)) (f.Either 0 (erased.formula x) (erased.formula y)) =
    λ j a b. either_spelled (formula_in j) (print_formula x 0) (print_formula y 1) (erased.formula x) (erased.formula y) ((formula_printed x j a).levels 0 (omega arith)) ((formula_printed y j b).levels 1 (omega arith)) in
    formula_above (f.Either at x y) n 0 refl (omega arith) (here n (omega (arith, le)) (omega (arith, le))) (here (suc n) (omega (arith, le)) (omega (arith, le)))
