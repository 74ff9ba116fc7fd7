-- One token ahead is enough to read a specification.
use Rattle.std.proofs.Common.{◌≡◌, ℕ, zero, suc, Bool, true, false, [], ◌∷◌, ◌++◌, refl, codes}
use Rattle.lola_lexer.specs.declared.shape.TokenShape.{TokenShape}
use Rattle.lola_lexer.specs.declared.shape.TokenShape.TheVariants as is
use Rattle.lola_parser_grammar.specs.Syntax.{Of, Word, Other, is_fine, within, first, more, nullable, same_shape}
use Rattle.lola_parser_grammar.specs.Grammar.{token, nesting, word, name, other_name, integer, text, quantity, operator, product_operators, sum_operators, comparison_operators, and_operators, or_operators, word_literal, offset, over, window, arguments, stand_in, hold, get, last, default, reading, dotted_default, defaults, dotted, suffix, named, number, worded, bracketed, operand, negation, negative, minus, plain, other_with, unary, products, product, sums, sum, comparisons, comparison, conjunctions, conjunction, disjunctions, conditional, expr_with, atom, conjunctions_of, conjunct, alternatives_of, formula_with, typed, parameters, kind, clock, message, whole, whole_formula, whole_unbracketed, rhythm, pacing, part_behind, more_parts, one_part, forked, parts, with_parts, spawn, eval, close, short_eval, body, literal, inputs, constant, output, trigger, declaration, specification, open_operand, open_expr, closed, unbracketed, level, expr_begins, expr_goes_on, other_begins, other_goes_on, formula_level, formula_begins, formula_goes_on, open_begins, clock_words}

expr_first : (n : ℕ) → within (first (level true n)) expr_begins ≡ true
unfolding level first more nullable same_shape token nesting word name other_name integer text quantity operator product_operators sum_operators comparison_operators and_operators or_operators word_literal offset over window arguments stand_in hold get last default reading dotted_default defaults dotted suffix named number worded bracketed operand negation negative minus plain other_with unary products product sums sum comparisons comparison conjunctions conjunction disjunctions conditional expr_with
expr_first zero = refl
expr_first (suc n) = refl

expr_more : (n : ℕ) → within (more (level true n)) expr_goes_on ≡ true
unfolding level first more nullable same_shape token nesting word name other_name integer text quantity operator product_operators sum_operators comparison_operators and_operators or_operators word_literal offset over window arguments stand_in hold get last default reading dotted_default defaults dotted suffix named number worded bracketed operand negation negative minus plain other_with unary products product sums sum comparisons comparison conjunctions conjunction disjunctions conditional expr_with
expr_more zero = refl
expr_more (suc n) = refl

other_first : (n : ℕ) → within (first (level false n)) other_begins ≡ true
unfolding level first more nullable same_shape token nesting word name other_name integer text quantity operator product_operators sum_operators comparison_operators and_operators or_operators word_literal offset over window arguments stand_in hold get last default reading dotted_default defaults dotted suffix named number worded bracketed operand negation negative minus plain other_with unary products product sums sum comparisons comparison conjunctions conjunction disjunctions conditional expr_with
other_first zero = refl
other_first (suc n) = refl

other_more : (n : ℕ) → within (more (level false n)) other_goes_on ≡ true
unfolding level first more nullable same_shape token nesting word name other_name integer text quantity operator product_operators sum_operators comparison_operators and_operators or_operators word_literal offset over window arguments stand_in hold get last default reading dotted_default defaults dotted suffix named number worded bracketed operand negation negative minus plain other_with unary products product sums sum comparisons comparison conjunctions conjunction disjunctions conditional expr_with
other_more zero = refl
other_more (suc n) = refl

level_full : (b : Bool) (n : ℕ) → nullable (level b n) ≡ false
unfolding level first more nullable same_shape token nesting word name other_name integer text quantity operator product_operators sum_operators comparison_operators and_operators or_operators word_literal offset over window arguments stand_in hold get last default reading dotted_default defaults dotted suffix named number worded bracketed operand negation negative minus plain other_with unary products product sums sum comparisons comparison conjunctions conjunction disjunctions conditional expr_with
level_full true zero = refl
level_full false zero = refl
level_full true (suc n) = refl
level_full false (suc n) = refl

pub level_fine : (b : Bool) (n : ℕ) → is_fine (level b n) ≡ true
unfolding level is_fine first more nullable same_shape token nesting word name other_name integer text quantity operator product_operators sum_operators comparison_operators and_operators or_operators word_literal offset over window arguments stand_in hold get last default reading dotted_default defaults dotted suffix named number worded bracketed operand negation negative minus plain other_with unary products product sums sum comparisons comparison conjunctions conjunction disjunctions conditional expr_with
level_fine true zero = refl
level_fine false zero = refl
level_fine true (suc n) = rw (level_fine true n, level_fine false n, expr_first n, expr_more n, other_first n, other_more n, level_full true n, level_full false n) refl
level_fine false (suc n) = rw (level_fine true n, level_fine false n, expr_first n, expr_more n, other_first n, other_more n, level_full true n, level_full false n) refl

formula_first : (n : ℕ) → within (first (formula_level n)) formula_begins ≡ true
unfolding formula_level first more nullable same_shape token nesting word name other_name integer text quantity operator product_operators sum_operators comparison_operators and_operators or_operators word_literal offset over window atom conjunctions_of conjunct alternatives_of formula_with
formula_first zero = refl
formula_first (suc n) = refl

formula_more : (n : ℕ) → within (more (formula_level n)) formula_goes_on ≡ true
unfolding formula_level first more nullable same_shape token nesting word name other_name integer text quantity operator product_operators sum_operators comparison_operators and_operators or_operators word_literal offset over window atom conjunctions_of conjunct alternatives_of formula_with
formula_more zero = refl
formula_more (suc n) = refl

formula_full : (n : ℕ) → nullable (formula_level n) ≡ false
unfolding formula_level first more nullable same_shape token nesting word name other_name integer text quantity operator product_operators sum_operators comparison_operators and_operators or_operators word_literal offset over window atom conjunctions_of conjunct alternatives_of formula_with
formula_full zero = refl
formula_full (suc n) = refl

pub formula_fine : (n : ℕ) → is_fine (formula_level n) ≡ true
unfolding formula_level is_fine first more nullable same_shape token nesting word name other_name integer text quantity operator product_operators sum_operators comparison_operators and_operators or_operators word_literal offset over window atom conjunctions_of conjunct alternatives_of formula_with
formula_fine zero = refl
formula_fine (suc n) = rw (formula_fine n, formula_first n, formula_more n, formula_full n) refl

-- ---- the parts of declarations, each with what it begins with and what goes it on

whole_full : (n : ℕ) → nullable (whole n) ≡ false
unfolding is_fine first more nullable same_shape whole
whole_full n = refl

pub whole_first : (n : ℕ) → first (whole n) ≡ expr_begins
unfolding is_fine first more nullable same_shape whole
whole_first n = refl

whole_more : (n : ℕ) → more (whole n) ≡ expr_goes_on
unfolding is_fine first more nullable same_shape whole
whole_more n = refl

pub whole_fine : (n : ℕ) → is_fine (whole n) ≡ true
unfolding is_fine first more nullable same_shape whole
whole_fine n = simp (level_fine true n, level_fine false n, expr_first n, expr_more n, other_first n, other_more n, level_full true n, level_full false n)

rhythm_full : (n : ℕ) → nullable (rhythm n) ≡ false
unfolding is_fine first more nullable same_shape rhythm whole_formula clock token nesting word name other_name integer text quantity operator product_operators sum_operators comparison_operators and_operators or_operators word_literal offset over window
rhythm_full n = refl

pub rhythm_first : (n : ℕ) → first (rhythm n) ≡ Of is.Quantity ∷ Other clock_words ∷ Of is.Open ∷ Word (codes "Global") ∷ Word (codes "Local") ∷ []
unfolding is_fine first more nullable same_shape rhythm whole_formula clock token nesting word name other_name integer text quantity operator product_operators sum_operators comparison_operators and_operators or_operators word_literal offset over window
rhythm_first n = refl

rhythm_more : (n : ℕ) → more (rhythm n) ≡ []
unfolding is_fine first more nullable same_shape rhythm whole_formula clock token nesting word name other_name integer text quantity operator product_operators sum_operators comparison_operators and_operators or_operators word_literal offset over window
rhythm_more n = refl

pub rhythm_fine : (n : ℕ) → is_fine (rhythm n) ≡ true
unfolding is_fine first more nullable same_shape rhythm whole_formula clock token nesting word name other_name integer text quantity operator product_operators sum_operators comparison_operators and_operators or_operators word_literal offset over window
rhythm_fine n = simp (formula_fine n, formula_first n, formula_more n, formula_full n)

pacing_full : (n : ℕ) → nullable (pacing n) ≡ false
unfolding is_fine first more nullable same_shape pacing token
pacing_full n = refl

pub pacing_first : (n : ℕ) → first (pacing n) ≡ Of is.At ∷ []
unfolding is_fine first more nullable same_shape pacing token
pacing_first n = refl

pacing_more : (n : ℕ) → more (pacing n) ≡ []
unfolding is_fine first more nullable same_shape pacing token
pacing_more n = simp (rhythm_full n, rhythm_first n, rhythm_more n)

pub pacing_fine : (n : ℕ) → is_fine (pacing n) ≡ true
unfolding is_fine first more nullable same_shape pacing token
pacing_fine n = simp (rhythm_fine n, rhythm_first n, rhythm_more n, rhythm_full n)

part_behind_full : (n : ℕ) (s : TokenShape) → nullable (part_behind n s) ≡ false
unfolding is_fine first more nullable same_shape part_behind token
part_behind_full n s = refl

pub part_behind_first : (n : ℕ) (s : TokenShape) → first (part_behind n s) ≡ Of s ∷ []
unfolding is_fine first more nullable same_shape part_behind token
part_behind_first n s = refl

part_behind_more : (n : ℕ) (s : TokenShape) → more (part_behind n s) ≡ expr_goes_on
unfolding is_fine first more nullable same_shape part_behind token
part_behind_more n s = simp (whole_full n, whole_first n, whole_more n)

pub part_behind_fine : (n : ℕ) (s : TokenShape) → is_fine (part_behind n s) ≡ true
unfolding is_fine first more nullable same_shape part_behind token
part_behind_fine n s = simp (whole_fine n, whole_first n, whole_more n, whole_full n)

more_parts_full : (n : ℕ) → nullable (more_parts n) ≡ false
unfolding is_fine first more nullable same_shape more_parts token
more_parts_full n = simp (part_behind_full n is.Comma)

pub more_parts_first : (n : ℕ) → first (more_parts n) ≡ Of is.Comma ∷ []
unfolding is_fine first more nullable same_shape more_parts token
more_parts_first n = simp (part_behind_full n is.Comma, part_behind_first n is.Comma)

more_parts_more : (n : ℕ) → more (more_parts n) ≡ []
unfolding is_fine first more nullable same_shape more_parts token
more_parts_more n = refl

pub more_parts_fine : (n : ℕ) → is_fine (more_parts n) ≡ true
unfolding is_fine first more nullable same_shape more_parts token
more_parts_fine n = simp (part_behind_fine n is.Comma, part_behind_first n is.Comma, part_behind_more n is.Comma, part_behind_full n is.Comma)

one_part_full : (n : ℕ) → nullable (one_part n) ≡ false
unfolding is_fine first more nullable same_shape one_part closed token nesting word name other_name integer text quantity operator product_operators sum_operators comparison_operators and_operators or_operators word_literal offset over window arguments stand_in hold get last default reading dotted_default defaults dotted suffix named number worded bracketed operand negation negative minus plain other_with unary products product sums sum comparisons comparison conjunctions conjunction disjunctions conditional expr_with
one_part_full n = refl

pub one_part_first : (n : ℕ) → first (one_part n) ≡ Of is.Shut ∷ []
unfolding is_fine first more nullable same_shape one_part closed token nesting word name other_name integer text quantity operator product_operators sum_operators comparison_operators and_operators or_operators word_literal offset over window arguments stand_in hold get last default reading dotted_default defaults dotted suffix named number worded bracketed operand negation negative minus plain other_with unary products product sums sum comparisons comparison conjunctions conjunction disjunctions conditional expr_with
one_part_first n = refl

one_part_more : (n : ℕ) → more (one_part n) ≡ expr_goes_on
unfolding is_fine first more nullable same_shape one_part closed token nesting word name other_name integer text quantity operator product_operators sum_operators comparison_operators and_operators or_operators word_literal offset over window arguments stand_in hold get last default reading dotted_default defaults dotted suffix named number worded bracketed operand negation negative minus plain other_with unary products product sums sum comparisons comparison conjunctions conjunction disjunctions conditional expr_with
one_part_more n = refl

pub one_part_fine : (n : ℕ) → is_fine (one_part n) ≡ true
unfolding is_fine first more nullable same_shape one_part closed token nesting word name other_name integer text quantity operator product_operators sum_operators comparison_operators and_operators or_operators word_literal offset over window arguments stand_in hold get last default reading dotted_default defaults dotted suffix named number worded bracketed operand negation negative minus plain other_with unary products product sums sum comparisons comparison conjunctions conjunction disjunctions conditional expr_with
one_part_fine n = rw (level_fine true n, level_fine false n, expr_first n, expr_more n, other_first n, other_more n, level_full true n, level_full false n) refl

unbracketed_full : (n : ℕ) → nullable (unbracketed n) ≡ false
unfolding is_fine first more nullable same_shape unbracketed open_operand open_expr token nesting word name other_name integer text quantity operator product_operators sum_operators comparison_operators and_operators or_operators word_literal offset over window arguments stand_in hold get last default reading dotted_default defaults dotted suffix named number worded bracketed operand negation negative minus plain other_with unary products product sums sum comparisons comparison conjunctions conjunction disjunctions conditional expr_with
unbracketed_full n = refl

pub unbracketed_first : (n : ℕ) → first (unbracketed n) ≡ open_begins
unfolding is_fine first more nullable same_shape unbracketed open_operand open_expr token nesting word name other_name integer text quantity operator product_operators sum_operators comparison_operators and_operators or_operators word_literal offset over window arguments stand_in hold get last default reading dotted_default defaults dotted suffix named number worded bracketed operand negation negative minus plain other_with unary products product sums sum comparisons comparison conjunctions conjunction disjunctions conditional expr_with
unbracketed_first n = refl

unbracketed_more : (n : ℕ) → more (unbracketed n) ≡ expr_goes_on
unfolding is_fine first more nullable same_shape unbracketed open_operand open_expr token nesting word name other_name integer text quantity operator product_operators sum_operators comparison_operators and_operators or_operators word_literal offset over window arguments stand_in hold get last default reading dotted_default defaults dotted suffix named number worded bracketed operand negation negative minus plain other_with unary products product sums sum comparisons comparison conjunctions conjunction disjunctions conditional expr_with
unbracketed_more n = refl

pub unbracketed_fine : (n : ℕ) → is_fine (unbracketed n) ≡ true
unfolding is_fine first more nullable same_shape unbracketed open_operand open_expr token nesting word name other_name integer text quantity operator product_operators sum_operators comparison_operators and_operators or_operators word_literal offset over window arguments stand_in hold get last default reading dotted_default defaults dotted suffix named number worded bracketed operand negation negative minus plain other_with unary products product sums sum comparisons comparison conjunctions conjunction disjunctions conditional expr_with
unbracketed_fine n = rw (level_fine true n, level_fine false n, expr_first n, expr_more n, other_first n, other_more n, level_full true n, level_full false n) refl

parts_full : (n : ℕ) → nullable (parts n) ≡ false
unfolding is_fine first more nullable same_shape parts forked whole_unbracketed token
parts_full n = refl

pub parts_first : (n : ℕ) → first (parts n) ≡ expr_begins
unfolding is_fine first more nullable same_shape parts forked whole_unbracketed token
parts_first n = refl

parts_more : (n : ℕ) → more (parts n) ≡ expr_goes_on
unfolding is_fine first more nullable same_shape parts forked whole_unbracketed token
parts_more n = refl

pub parts_fine : (n : ℕ) → is_fine (parts n) ≡ true
unfolding is_fine first more nullable same_shape parts forked whole_unbracketed token
parts_fine n = simp (more_parts_fine n, more_parts_first n, more_parts_more n, more_parts_full n, one_part_fine n, one_part_first n, one_part_more n, one_part_full n, unbracketed_fine n, unbracketed_first n, unbracketed_more n, unbracketed_full n, level_fine true n, expr_first n, expr_more n, level_full true n)

with_parts_full : (n : ℕ) → nullable (with_parts n) ≡ false
unfolding is_fine first more nullable same_shape with_parts token
with_parts_full n = refl

pub with_parts_first : (n : ℕ) → first (with_parts n) ≡ Of is.With ∷ []
unfolding is_fine first more nullable same_shape with_parts token
with_parts_first n = refl

with_parts_more : (n : ℕ) → more (with_parts n) ≡ expr_goes_on
unfolding is_fine first more nullable same_shape with_parts token
with_parts_more n = simp (parts_full n, parts_first n, parts_more n)

pub with_parts_fine : (n : ℕ) → is_fine (with_parts n) ≡ true
unfolding is_fine first more nullable same_shape with_parts token
with_parts_fine n = simp (parts_fine n, parts_first n, parts_more n, parts_full n)

spawn_full : (n : ℕ) → nullable (spawn n) ≡ false
unfolding is_fine first more nullable same_shape spawn token
spawn_full n = refl

pub spawn_first : (n : ℕ) → first (spawn n) ≡ Of is.Spawn ∷ []
unfolding is_fine first more nullable same_shape spawn token
spawn_first n = refl

spawn_more : (n : ℕ) → more (spawn n) ≡ (Of is.With ∷ []) ++ expr_goes_on ++ (Of is.When ∷ []) ++ expr_goes_on ++ (Of is.At ∷ [])
unfolding is_fine first more nullable same_shape spawn token
spawn_more n = simp (pacing_full n, pacing_first n, pacing_more n, part_behind_full n is.When, part_behind_first n is.When, part_behind_more n is.When, with_parts_full n, with_parts_first n, with_parts_more n)

pub spawn_fine : (n : ℕ) → is_fine (spawn n) ≡ true
unfolding is_fine first more nullable same_shape spawn token
spawn_fine n = simp (pacing_fine n, pacing_first n, pacing_more n, pacing_full n, part_behind_fine n is.When, part_behind_first n is.When, part_behind_more n is.When, part_behind_full n is.When, with_parts_fine n, with_parts_first n, with_parts_more n, with_parts_full n)

eval_full : (n : ℕ) → nullable (eval n) ≡ false
unfolding is_fine first more nullable same_shape eval token
eval_full n = refl

pub eval_first : (n : ℕ) → first (eval n) ≡ Of is.Eval ∷ []
unfolding is_fine first more nullable same_shape eval token
eval_first n = refl

eval_more : (n : ℕ) → more (eval n) ≡ expr_goes_on
unfolding is_fine first more nullable same_shape eval token
eval_more n = simp (pacing_full n, pacing_first n, pacing_more n, part_behind_full n is.When, part_behind_first n is.When, part_behind_more n is.When, part_behind_full n is.With, part_behind_first n is.With, part_behind_more n is.With)

pub eval_fine : (n : ℕ) → is_fine (eval n) ≡ true
unfolding is_fine first more nullable same_shape eval token
eval_fine n = simp (pacing_fine n, pacing_first n, pacing_more n, pacing_full n, part_behind_fine n is.When, part_behind_first n is.When, part_behind_more n is.When, part_behind_full n is.When, part_behind_fine n is.With, part_behind_first n is.With, part_behind_more n is.With, part_behind_full n is.With)

close_full : (n : ℕ) → nullable (close n) ≡ false
unfolding is_fine first more nullable same_shape close token
close_full n = refl

pub close_first : (n : ℕ) → first (close n) ≡ Of is.Close ∷ []
unfolding is_fine first more nullable same_shape close token
close_first n = refl

close_more : (n : ℕ) → more (close n) ≡ expr_goes_on
unfolding is_fine first more nullable same_shape close token
close_more n = simp (pacing_full n, pacing_first n, pacing_more n, part_behind_full n is.When, part_behind_first n is.When, part_behind_more n is.When)

pub close_fine : (n : ℕ) → is_fine (close n) ≡ true
unfolding is_fine first more nullable same_shape close token
close_fine n = simp (pacing_fine n, pacing_first n, pacing_more n, pacing_full n, part_behind_fine n is.When, part_behind_first n is.When, part_behind_more n is.When, part_behind_full n is.When)

short_eval_full : (n : ℕ) → nullable (short_eval n) ≡ false
unfolding is_fine first more nullable same_shape short_eval token
short_eval_full n = simp (pacing_full n, part_behind_full n is.Define)

pub short_eval_first : (n : ℕ) → first (short_eval n) ≡ Of is.At ∷ Of is.Define ∷ []
unfolding is_fine first more nullable same_shape short_eval token
short_eval_first n = simp (pacing_full n, pacing_first n, part_behind_full n is.Define, part_behind_first n is.Define)

short_eval_more : (n : ℕ) → more (short_eval n) ≡ expr_goes_on
unfolding is_fine first more nullable same_shape short_eval token
short_eval_more n = simp (pacing_full n, pacing_first n, pacing_more n, part_behind_full n is.Define, part_behind_first n is.Define, part_behind_more n is.Define)

pub short_eval_fine : (n : ℕ) → is_fine (short_eval n) ≡ true
unfolding is_fine first more nullable same_shape short_eval token
short_eval_fine n = simp (pacing_fine n, pacing_first n, pacing_more n, pacing_full n, part_behind_fine n is.Define, part_behind_first n is.Define, part_behind_more n is.Define, part_behind_full n is.Define)

body_full : (n : ℕ) → nullable (body n) ≡ false
unfolding is_fine first more nullable same_shape body
body_full n = simp (short_eval_full n, eval_full n, spawn_full n, close_full n)

pub body_first : (n : ℕ) → first (body n) ≡ Of is.At ∷ Of is.Define ∷ Of is.Eval ∷ Of is.Spawn ∷ []
unfolding is_fine first more nullable same_shape body
body_first n = simp (short_eval_full n, short_eval_first n, eval_full n, eval_first n, spawn_full n, spawn_first n, close_full n, close_first n)

body_more : (n : ℕ) → more (body n) ≡ expr_goes_on ++ (expr_goes_on ++ (((Of is.Close ∷ []) ++ expr_goes_on) ++ expr_goes_on))
unfolding is_fine first more nullable same_shape body
body_more n = simp (short_eval_full n, short_eval_first n, short_eval_more n, eval_full n, eval_first n, eval_more n, spawn_full n, spawn_first n, spawn_more n, close_full n, close_first n, close_more n)

pub body_fine : (n : ℕ) → is_fine (body n) ≡ true
unfolding is_fine first more nullable same_shape body
body_fine n = simp (short_eval_fine n, short_eval_first n, short_eval_more n, short_eval_full n, eval_fine n, eval_first n, eval_more n, eval_full n, spawn_fine n, spawn_first n, spawn_more n, spawn_full n, close_fine n, close_first n, close_more n, close_full n)

pub specification_fine : (n : ℕ) → is_fine (specification n) ≡ true
unfolding is_fine first more nullable same_shape typed parameters kind message literal inputs constant output trigger declaration specification token nesting word name other_name integer text quantity operator product_operators sum_operators comparison_operators and_operators or_operators word_literal offset over window
specification_fine n = rw (body_fine n, body_first n, body_more n, body_full n, pacing_fine n, pacing_first n, pacing_more n, pacing_full n, whole_fine n, whole_first n, whole_more n, whole_full n) refl
