-- How deep what is nested may be, by the one grammar and by the other.
use Rattle.std.proofs.Common.{◌≡◌, ℕ, zero, suc, ◌≤◌, List, inl, inr, arith, subst}
use Rattle.std.proofs.lemmas.Bool.{cases_lt}
use Rattle.lola_lexer.specs.declared.shape.TokenShape.{TokenShape}
use Rattle.lola_lexer.specs.declared.shape.TokenShape.TheVariants as is
use Rattle.lola_parser_grammar.specs.declared.expressions.Expr.{Expr}
use Rattle.lola_parser_grammar.specs.declared.pacing.Formula.{Formula}
use Rattle.lola_parser_grammar.specs.declared.pacing.Formula.TheVariants as f
use Rattle.lola_parser_grammar.specs.Syntax.{Terminal, Syntax, Map, Known, Spells}
use Rattle.lola_parser_grammar.specs.Grammar as g
use Rattle.lola_parser_grammar.specs.Grammar.{token, nesting, name, both, either}
use Rattle.lola_parser_law.specs.Plain as plain
use Rattle.lola_parser_law.proofs.PlainWithin.{Within, Same, within_self, within_chain, within_map, within_either, within_many, within_cases, within_left, within_right, same_chain, same_then}
use Rattle.lola_parser_law.proofs.Turns.{led_from_left, same_from_left}
use Rattle.lola_parser_law.proofs.Wider.{behind, before, then_behind, alone, unary_wider, other_wider, expr_wider, form_wider, post_wider, other_in_unary, innermost_in_other, innermost_in_unary, innermost_in_expr}
use Rattle.lola_parser_law.proofs.PlainOperands.{U, any_post, other_same, unary_same}
use Rattle.lola_parser_law.proofs.PlainExpressions.{expr_same}

pub in_known : {A : Type 0} (fs ms : List Terminal) (a : Syntax A) → Within a (Known fs ms a)
unfolding Spells
in_known fs ms a = record { spells = λ ts x s. s }

-- what is spelled at a level is spelled at each later one
pub later : {A : Type 0} (P : ℕ → Syntax A) → ((n : ℕ) → Within (P n) (P (suc n))) → (n m : ℕ) → n ≤ m → Within (P n) (P m)
later P next n zero le = let e : n ≡ zero = omega (arith, le) in subst (λ i. Within (P n) (P i)) e (within_self (P n))
later P next n (suc m) le = elim (cases_lt n (suc m)) [
  | inl lt ↦ within_chain _ _ _ (later P next n m (omega (arith, lt))) (next m)
  | inr ge ↦ (let e : n ≡ suc m = omega (arith, le, ge) in subst (λ i. Within (P n) (P i)) e (within_self (P n)))
]

-- ---- the plain grammar

abbrev PlainDeeper : ℕ → Type 0
PlainDeeper n = Within (plain.expr_in n) (plain.expr_in (suc n)) × Within (plain.unary_in n) (plain.unary_in (suc n)) × Within (plain.other_in n) (plain.other_in (suc n))

plain_deeper : (n : ℕ) → PlainDeeper n
unfolding plain.expr_in plain.unary_in plain.other_in
plain_deeper zero = (innermost_in_expr _ _ _, innermost_in_unary _ _ _, innermost_in_other _ _ _)
plain_deeper (suc n) =
    let h = plain_deeper n in
    (expr_wider _ _ _ _ _ _ h.0 h.1 h.2, unary_wider _ _ _ _ _ _ h.0 h.1 h.2, other_wider _ _ _ _ _ _ h.0 h.1 h.2)

pub plain_later : (n m : ℕ) → n ≤ m → Within (plain.expr_in n) (plain.expr_in m)
plain_later = later plain.expr_in (λ n. (plain_deeper n).0)

-- ---- the grammar that the parser reads by

number_wider : (E E' O O' : Syntax Expr) → Within E E' → Within (g.number E O) (g.number E' O')
unfolding g.number g.defaults g.dotted_default g.default
number_wider E E' O O' h =
    within_map _ _ _ (then_behind _ _ _ (within_map _ _ _ (within_many _ _ (then_behind _ _ _ (behind _ _ _ (behind _ _ _ (behind _ _ _ (behind _ _ _ (before _ _ _ h)))))))))

operand_wider : (E E' O O' : Syntax Expr) → Within E E' → Within O O' → Within (U E O) (U E' O')
unfolding g.operand
operand_wider E E' O O' h k = within_either _ _ _ _ (number_wider E E' O O' h) k

expr_factored_wider : (E E' O O' : Syntax Expr) → Within E E' → Within O O' → Within (g.expr_with E O) (g.expr_with E' O')
expr_factored_wider E E' O O' h k =
    within_chain _ _ _ (expr_same E O).to (within_chain _ _ _ (expr_wider E E' (U E O) (U E' O') O O' h (operand_wider E E' O O' h k) k) (expr_same E' O').back)

other_factored_wider : (E E' O O' : Syntax Expr) → Within E E' → Within O O' → Within (g.other_with E O) (g.other_with E' O')
other_factored_wider E E' O O' h k =
    within_chain _ _ _ (other_same E O).back (within_chain _ _ _ (other_wider E E' (U E O) (U E' O') O O' h (operand_wider E E' O O' h k) k) (other_same E' O').to)

abbrev Deeper : ℕ → Type 0
Deeper n = Within (g.expr_in n) (g.expr_in (suc n)) × Within (g.other_in n) (g.other_in (suc n))

known_wider : {A : Type 0} (fs ms fs' ms' : List Terminal) (a b : Syntax A) → Within a b → Within (Known fs ms a) (Known fs' ms' b)
unfolding Spells
known_wider fs ms fs' ms' a b h = record { spells = h.spells }

innermost_expr : (a : Syntax Expr) → Within plain.innermost a → Within (g.expr_in zero) a
unfolding Spells g.level plain.innermost
innermost_expr a h = record { spells = h.spells }

innermost_other : (a : Syntax Expr) → Within plain.innermost a → Within (g.other_in zero) a
unfolding Spells g.level plain.innermost
innermost_other a h = record { spells = h.spells }

deeper : (n : ℕ) → Deeper n
unfolding g.level
deeper zero = (
  within_chain _ _ _ (innermost_expr _ (innermost_in_expr _ _ _)) (within_chain _ _ _ (expr_same (g.expr_in zero) (g.other_in zero)).back (in_known _ _ _)),
  within_chain _ _ _ (innermost_other _ (innermost_in_other _ _ _)) (within_chain _ _ _ (other_same (g.expr_in zero) (g.other_in zero)).to (in_known _ _ _)),
)
deeper (suc n) =
    let h = deeper n in
    (known_wider _ _ _ _ _ _ (expr_factored_wider _ _ _ _ h.0 h.1), known_wider _ _ _ _ _ _ (other_factored_wider _ _ _ _ h.0 h.1))

pub factored_later : (n m : ℕ) → n ≤ m → Within (g.expr_in n) (g.expr_in m)
factored_later = later (λ n. g.expr_in n) (λ n. (deeper n).0)

-- an expression one level further out
pub expr_out : (n : ℕ) → Within (g.expr_with (g.expr_in n) (g.other_in n)) (g.expr_in (suc n))
unfolding g.level
expr_out n = in_known _ _ _

pub expr_next : (n : ℕ) → Within (g.expr_in n) (g.expr_with (g.expr_in n) (g.other_in n))
unfolding Spells g.level
expr_next n = let h = (deeper n).0 in record { spells = h.spells }

-- ---- what is plainly spelled at a level is read at that level

abbrev Read : ℕ → Type 0
Read n = Within (plain.expr_in n) (g.expr_in n) × Within (plain.unary_in n) (U (g.expr_in n) (g.other_in n)) × Within (plain.other_in n) (g.other_in n)

innermost_in_level : Within plain.innermost (g.expr_in zero) × Within plain.innermost (g.other_in zero)
unfolding Spells g.level plain.innermost
innermost_in_level = (record { spells = λ ts x s. s }, record { spells = λ ts x s. s })

plain_read : (n : ℕ) → Read n
unfolding plain.expr_in plain.unary_in plain.other_in g.level g.operand g.unary
plain_read zero = (innermost_in_level.0, within_chain _ _ _ innermost_in_level.1 (within_right _ _), innermost_in_level.1)
plain_read (suc n) =
    let h = plain_read n in
    let d = deeper n in (
      within_chain _ _ _ (expr_wider _ _ _ _ _ _ h.0 h.1 h.2) (within_chain _ _ _ (expr_same _ _).back (in_known _ _ _)),
      within_chain _ _ _ (unary_wider _ _ _ _ _ _ h.0 h.1 h.2) (within_chain _ _ _ (unary_same _ _).to (within_either _ _ _ _ (number_wider _ _ _ _ d.0) (in_known _ _ _))),
      within_chain _ _ _ (other_wider _ _ _ _ _ _ h.0 h.1 h.2) (within_chain _ _ _ (other_same _ _).to (in_known _ _ _)),
    )

pub expr_read : (n : ℕ) → Within (plain.expr_in n) (g.expr_in n)
expr_read n = (plain_read n).0

-- ---- and back, at twice the level

pub twice : ℕ → ℕ
twice zero = zero
twice (suc n) = suc (suc (twice n))

pub twice-le : (n : ℕ) → n ≤ twice n
unfolding twice
twice-le zero = omega arith
twice-le (suc n) = let h = twice-le n in omega (arith, h)

pub twice-more : (n : ℕ) → twice n ≤ twice (suc n)
unfolding twice
twice-more n = omega arith

abbrev Plain : ℕ → Type 0
Plain n = Within (g.expr_in n) (plain.expr_in (twice n)) × Within (g.other_in n) (plain.other_in (twice n))

out_of_known : {A : Type 0} (fs ms : List Terminal) (a b : Syntax A) → Within a b → Within (Known fs ms a) b
unfolding Spells
out_of_known fs ms a b h = record { spells = h.spells }

-- an operand is one a level further out
number_unary : (E U' O O' : Syntax Expr) → Within (g.number E O) (plain.unary_with E U' O')
unfolding plain.unary_with
number_unary E U' O O' =
    within_chain _ _ _ (within_left _ _) (within_chain _ _ _ (within_left _ _) (within_chain _ _ _ (any_post E O).back
    (within_chain _ _ _ (post_wider E E (within_self E) (U E O) U' O O' _ _ (within_self plain.literal)) (within_chain _ _ _ (within_right _ _) (within_right _ _)))))

operand_plain : (n k : ℕ) → Within (g.expr_in n) (plain.expr_in k) → Within (g.other_in n) (plain.other_in k) → Within (U (g.expr_in n) (g.other_in n)) (plain.unary_in (suc k))
unfolding g.operand plain.unary_in plain.other_in
operand_plain n k h i =
    within_cases _ _ _ (within_chain _ _ _ (number_wider _ _ (g.other_in n) (g.other_in n) h) (number_unary (plain.expr_in k) (plain.unary_in k) (g.other_in n) (plain.other_in k)))
    (within_chain _ _ _ i (within_chain _ _ _ (plain_deeper k).2 (other_in_unary _ _ _)))

read_plain : (n : ℕ) → Plain n
unfolding plain.expr_in plain.other_in plain.unary_in g.level twice
read_plain zero = (innermost_expr _ (within_self _), innermost_other _ (within_self _))
read_plain (suc n) =
    let h = read_plain n in
    let d = plain_deeper (twice n) in
    let e = within_chain _ _ _ h.0 d.0 in
    let o = within_chain _ _ _ h.1 d.2 in
    let u = operand_plain n (twice n) h.0 h.1 in (
      out_of_known _ _ _ _ (within_chain _ _ _ (expr_same _ _).to (expr_wider _ _ _ _ _ _ e u o)),
      out_of_known _ _ _ _ (within_chain _ _ _ (other_same _ _).back (other_wider _ _ _ _ _ _ e u o)),
    )

pub expr_plain : (n : ℕ) → Within (g.expr_in n) (plain.expr_in (twice n))
expr_plain n = (read_plain n).0

-- ---- formulas

module _ (X : Syntax Formula) where
  atom_same : Same (g.atom X) (plain.atom X)
  unfolding Spells g.atom plain.atom nesting token
  atom_same = record { to = record { spells = λ ts x s. s }; back = record { spells = λ ts x s. s } }

  operator_same : (s : TokenShape) → Same (nesting s) (token s)
  unfolding Spells nesting token
  operator_same s = record { to = record { spells = λ ts x s. s }; back = record { spells = λ ts x s. s } }

  conjunct_same : Same (g.conjunct X) (plain.conj X)
  unfolding g.conjunct g.conjunctions_of plain.conj
  conjunct_same = same_chain _ _ _ (led_from_left both (g.atom X) _) (same_from_left both _ _ _ _ atom_same (same_then _ _ _ _ (operator_same is.And) atom_same))

  formula_same : Same (g.formula_with X) (plain.form_with X)
  unfolding g.formula_with g.alternatives_of plain.form_with
  formula_same = same_chain _ _ _ (led_from_left either (g.conjunct X) _) (same_from_left either _ _ _ _ conjunct_same (same_then _ _ _ _ (operator_same is.Or) conjunct_same))

input_in_form : (X : Syntax Formula) → Within (Map (λ n. f.Input n) name) (plain.form_with X)
unfolding plain.atom plain.conj plain.form_with
input_in_form X = within_chain _ (plain.atom X) _ (within_left _ _) (within_chain _ (plain.conj X) _ (alone _ _ _) (alone _ _ _))

form_deeper : (n : ℕ) → Within (plain.form_in n) (plain.form_in (suc n))
unfolding plain.form_in
form_deeper zero = input_in_form _
form_deeper (suc n) = form_wider _ _ (form_deeper n)

pub form_later : (n m : ℕ) → n ≤ m → Within (plain.form_in n) (plain.form_in m)
form_later = later plain.form_in form_deeper

input_same : Same (g.formula_in zero) (plain.form_in zero)
unfolding Spells g.formula_level plain.form_in
input_same = record { to = record { spells = λ ts x s. s }; back = record { spells = λ ts x s. s } }

pub form_same : (n : ℕ) → Same (g.formula_in n) (plain.form_in n)
unfolding g.formula_level plain.form_in
form_same zero = input_same
form_same (suc n) =
    let h = form_same n in
    record {
      to = out_of_known _ _ _ _ (within_chain _ _ _ (formula_same _).to (form_wider _ _ h.to));
      back = within_chain _ _ _ (form_wider _ _ h.back) (within_chain _ _ _ (formula_same _).back (in_known _ _ _));
    }
