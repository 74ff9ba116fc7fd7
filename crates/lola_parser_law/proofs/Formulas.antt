-- What formulas of pacings cost: no spelling has fewer nestings than the printed one.
use Rattle.std.proofs.Common.{◌≡◌, ℕ, zero, suc, ◌+◌, ◌≤◌, ◌<◌, List, [], ◌∷◌, refl, ap, ◌∙◌, arith, inl, inr, lt-ltb}
use Rattle.std.specs.Prelude.{nat_lt}
use Rattle.std.proofs.lemmas.Bool.{cases_lt}
use Rattle.lola_lexer.specs.declared.shape.TokenShape.TheVariants as is
use Rattle.lola_parser_grammar.specs.declared.literals.Name.{Name}
use Rattle.lola_parser_grammar.specs.declared.pacing.Formula.{Formula}
use Rattle.lola_parser_grammar.specs.declared.pacing.Formula.TheVariants as f
use Rattle.lola_parser_grammar.specs.declared.pacing.Formula.TheBlock as X
use Rattle.lola_parser_grammar.specs.declared.expressions.Binary.TheVariants as by
use Rattle.lola_parser_grammar.specs.Syntax.{Lexeme, Syntax, Then, Map, Spells}
use Rattle.lola_parser_grammar.specs.Nestings.{nestings_in}
use Rattle.lola_parser_grammar.specs.Grammar as g
use Rattle.lola_parser_grammar.specs.Grammar.{all_nestings, token, nesting, name, formula_in, formula_begins, formula_goes_on, ◌*>◌, ◌<*◌, ◌|>◌}
use Rattle.lola_parser_print.specs.Print.{lex, bare_formula, print_formula, formula_level}
use Rattle.lola_parser_print.proofs.Formulas.{bare_formula-Both, bare_formula-Either}
use Rattle.lola_parser_law.proofs.Counts.{count, count-nil, count-append, with_nestings, name_free, if_most, if_least, if_true, if_false, not_below, is-Open, is-operator}
use Rattle.lola_parser_law.proofs.Costs as costs
use Rattle.lola_parser_law.proofs.Costs.{Costs, Adds, past, known, both, mapped, either, behind_nesting, before, weaker, followed, joined}

-- the nestings of a formula without brackets, and as an operand of a tightness
abbrev pub alone : Formula → ℕ
alone x = count (bare_formula x)

abbrev pub at : ℕ → Formula → ℕ
at k x = count (print_formula x k)

at_least : (k : ℕ) (x : Formula) → alone x ≤ at k x
at_least k x = if_least (nat_lt (formula_level x) k) (bare_formula x)

at_most : (k : ℕ) (x : Formula) → at k x ≤ suc (alone x)
at_most k x = if_most (nat_lt (formula_level x) k) (bare_formula x)

at_tight : (k : ℕ) (x : Formula) → k ≤ formula_level x → at k x ≡ alone x
at_tight k x le = if_false (nat_lt (formula_level x) k) (bare_formula x) (not_below k (formula_level x) le)

at_loose : (k : ℕ) (x : Formula) → formula_level x < k → at k x ≡ suc (alone x)
at_loose k x lt = if_true (nat_lt (formula_level x) k) (bare_formula x) (lt-ltb (formula_level x) k lt)

at_rises : (j k : ℕ) (x : Formula) → j ≤ k → at j x ≤ at k x
at_rises j k x le = elim (cases_lt (formula_level x) j) [
  | inl lt ↦ omega (arith, at_loose j x lt, at_loose k x (omega (arith, lt, le)))
  | inr ge ↦ omega (arith, at_tight j x ge, at_least k x)
]

level-Both : (p : ℕ) (x y : Formula) → formula_level (f.Both p x y) ≡ 1
unfolding X.shape-the_row-Formula-0 X.hidden-the_row-Formula-0 denote.Hole.Carrier.hidden denote.Hole.Carrier.shown denote.Hole.Carrier.roll denote.Hole.Carrier.out
level-Both p x y = refl

at-Both : (p : ℕ) (x y : Formula) → at 1 (f.Both p x y) ≡ at 1 x + suc (at 2 y)
at-Both p x y =
    at_tight 1 (f.Both p x y) (omega (arith, level-Both p x y)) ∙ ap count (bare_formula-Both p x y)
    ∙ omega (arith, count-append (print_formula x 1) (lex is.And ∷ print_formula y 2), with_nestings is.And (is-operator by.And) (print_formula y 2))

at-Either : (p : ℕ) (x y : Formula) → at 0 (f.Either p x y) ≡ at 0 x + suc (at 1 y)
at-Either p x y =
    at_tight 0 (f.Either p x y) (omega arith) ∙ ap count (bare_formula-Either p x y)
    ∙ omega (arith, count-append (print_formula x 0) (lex is.Or ∷ print_formula y 1), with_nestings is.Or (is-operator by.Or) (print_formula y 1))

input_count : (n : Name) → at 2 (f.Input n) ≡ 0
input_count n = at_tight 2 (f.Input n) (omega arith) ∙ name_free n.text [] ∙ count-nil

module _ (F : Syntax Formula) (inner : Costs F alone) where
  atom_costs : Costs (g.atom F) (at 2)
  unfolding g.atom
  atom_costs =
      either (Map (λ n. f.Input n) name) (nesting is.Open *> F <* token is.Shut) (at 2) (mapped (λ n. f.Input n) name (at 2) (λ ts n h. omega (arith, input_count n)))
      (weaker (nesting is.Open *> F <* token is.Shut) (λ x. suc (alone x)) (at 2) (at_most 2) (behind_nesting is.Open (F <* token is.Shut) alone is-Open (before F (token is.Shut) alone inner)))

  conjunctions_add : Adds (g.conjunctions_of F) (at 1) (at 1)
  unfolding g.conjunctions_of
  conjunctions_add =
      joined g.both (Then (nesting is.And) (g.atom F)) (at 1)
      (λ ts p h left. omega (arith, at-Both p.0 left p.1, both (nesting is.And) (g.atom F) (λ _. 1) (at 2) (costs.with_nestings is.And (is-operator by.And)) atom_costs ts p h))

  conjunct_costs : Costs (g.conjunct F) (at 1)
  unfolding g.conjunct
  conjunct_costs = followed (g.atom F) (g.conjunctions_of F) (at 1) (at 1) (weaker (g.atom F) (at 2) (at 1) (λ x. at_rises 1 2 x (omega arith)) atom_costs) conjunctions_add

  alternatives_add : Adds (g.alternatives_of F) (at 0) (at 0)
  unfolding g.alternatives_of
  alternatives_add =
      joined g.either (Then (nesting is.Or) (g.conjunct F)) (at 0)
      (λ ts p h left. omega (arith, at-Either p.0 left p.1, both (nesting is.Or) (g.conjunct F) (λ _. 1) (at 1) (costs.with_nestings is.Or (is-operator by.Or)) conjunct_costs ts p h))

  formula_costs : Costs (g.formula_with F) alone
  unfolding g.formula_with
  formula_costs =
      weaker (g.conjunct F |> g.alternatives_of F) (at 0) alone (at_least 0)
      (followed (g.conjunct F) (g.alternatives_of F) (at 0) (at 0) (weaker (g.conjunct F) (at 1) (at 0) (λ x. at_rises 0 1 x (omega arith)) conjunct_costs) alternatives_add)

formula_at : (n : ℕ) → Costs (g.formula_level n) alone
unfolding g.formula_level
formula_at zero = past (Map (λ n. f.Input n) name) alone (mapped (λ n. f.Input n) name alone (λ ts n h. omega (arith, at_least 2 (f.Input n), input_count n)))
formula_at (suc n) = formula_costs (formula_in n) (known formula_begins formula_goes_on (g.formula_level n) alone (formula_at n))

pub formula_in_costs : (n : ℕ) → Costs (formula_in n) alone
formula_in_costs n = known formula_begins formula_goes_on (g.formula_level n) alone (formula_at n)

pub fewest_of_formula : (n : ℕ) (ts : List Lexeme) (x : Formula) → Spells (formula_in n) ts x → nestings_in all_nestings (bare_formula x) ≤ nestings_in all_nestings ts
unfolding count
fewest_of_formula n ts x h = formula_in_costs n ts x h
