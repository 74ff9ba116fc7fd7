-- Clauses and declarations: what the plain grammar says of them, and what the parser reads by.
use Rattle.std.proofs.Common.{ℕ}
use Rattle.lola_lexer.specs.declared.shape.TokenShape.{TokenShape}
use Rattle.lola_lexer.specs.declared.shape.TokenShape.TheVariants as is
use Rattle.lola_parser_grammar.specs.declared.expressions.Expr.{Expr}
use Rattle.lola_parser_grammar.specs.declared.pacing.Formula.{Formula}
use Rattle.lola_parser_grammar.specs.Syntax.{Syntax, Whole, Either, Spells}
use Rattle.lola_parser_grammar.specs.Nestings.{Fits}
use Rattle.lola_parser_grammar.specs.Grammar as g
use Rattle.lola_parser_grammar.specs.Grammar.{token, ◌<*◌}
use Rattle.lola_parser_law.specs.Plain as plain
use Rattle.lola_parser_law.proofs.PlainWithin.{Within, within_chain}
use Rattle.lola_parser_law.proofs.Fitting.{Fitting, fitting_self, fitting_chain, fitting_map, fitting_then, fitting_either, fitting_maybe, fitting_many, then_behind, behind, before, once, in_turn}
use Rattle.lola_parser_law.proofs.Lists.{one, in_brackets, parts_read, parts_plain}
use Rattle.lola_parser_law.proofs.Depths.{expr_next}

-- ---- what is plainly spelled is read

module _ (n : ℕ) (E : Syntax Expr) (form : Syntax Formula) (in_E : Within E (g.expr_in n)) (in_form : Within form (g.formula_in n)) where
  whole_read : Fitting (Whole E) (g.whole n)
  unfolding Spells Fits g.whole
  whole_read = record { spells = in_E.spells; fits = λ ts x s. (in_E.spells ts x s.0, s.1) }

  formula_read : Fitting (Whole form) (g.whole_formula n)
  unfolding Spells Fits g.whole_formula
  formula_read = record { spells = in_form.spells; fits = λ ts x s. (in_form.spells ts x s.0, s.1) }

  pace_read : Fitting (plain.pace (Whole E) (Whole form)) (g.pacing n)
  unfolding plain.pace g.pacing g.rhythm g.clock
  pace_read = fitting_map _ _ _ (then_behind _ _ _ (fitting_either _ _ _ _ (fitting_self _) (fitting_either _ _ _ _ (fitting_self _) (fitting_either _ _ _ _ (fitting_map _ _ _ (behind _ _ _ (before _ _ _ formula_read))) (fitting_self _)))))

  part_read : (s : TokenShape) → Fitting (plain.behind (Whole E) (Whole form) s) (g.part_behind n s)
  unfolding plain.behind g.part_behind
  part_read s = fitting_map _ _ _ (then_behind _ _ _ whole_read)

  one_read : Fitting (Whole E) (Whole (g.expr_with (g.expr_in n) (g.other_in n)))
  unfolding Spells Fits
  one_read = let h = within_chain _ _ _ in_E (expr_next n) in record { spells = h.spells; fits = λ ts x s. (h.spells ts x s.0, s.1) }

  exprs_read : Fitting (plain.exprs (Whole E) (Whole form)) (g.parts n)
  unfolding plain.exprs
  exprs_read = fitting_chain _ (Either (one n) (in_brackets n)) _ (fitting_either _ _ _ _ (fitting_map _ _ _ one_read) (fitting_map _ _ _ (before _ _ _ (fitting_then _ _ _ _ (part_read is.Open) (fitting_then _ _ _ _ (part_read is.Comma) (fitting_many _ _ (part_read is.Comma))))))) (parts_read n)

  spawn_read : Fitting (plain.spawn (Whole E) (Whole form)) (g.spawn n)
  unfolding plain.spawn g.spawn g.with_parts
  spawn_read = fitting_map _ _ _ (then_behind _ _ _ (fitting_then _ _ _ _ (fitting_maybe _ _ pace_read) (fitting_then _ _ _ _ (fitting_maybe _ _ (part_read is.When)) (fitting_maybe _ _ (fitting_map _ _ _ (then_behind _ _ _ exprs_read))))))

  eval_read : Fitting (plain.eval (Whole E) (Whole form)) (g.eval n)
  unfolding plain.eval g.eval
  eval_read = fitting_map _ _ _ (then_behind _ _ _ (fitting_then _ _ _ _ (fitting_maybe _ _ pace_read) (fitting_then _ _ _ _ (fitting_maybe _ _ (part_read is.When)) (part_read is.With))))

  close_read : Fitting (plain.close (Whole E) (Whole form)) (g.close n)
  unfolding plain.close g.close
  close_read = fitting_map _ _ _ (then_behind _ _ _ (fitting_then _ _ _ _ (fitting_maybe _ _ pace_read) (part_read is.When)))

  body_read : Fitting (plain.body (Whole E) (Whole form)) (g.body n)
  unfolding plain.body g.body g.short_eval
  body_read = fitting_either _ _ _ _ (fitting_chain _ _ _ (fitting_map _ _ _ (fitting_then _ _ _ _ (fitting_maybe _ _ pace_read) (part_read is.Define))) (in_turn _ _ _))
      (fitting_either _ _ _ _ (fitting_map _ _ _ eval_read) (fitting_map _ _ _ (fitting_then _ _ _ _ spawn_read (fitting_then _ _ _ _ eval_read (fitting_maybe _ _ close_read)))))

  output_read : Fitting (plain.output (Whole E) (Whole form)) (g.output n)
  unfolding plain.output plain.param g.output g.parameters g.typed g.kind
  output_read = fitting_map _ _ _ (then_behind _ _ _ (then_behind _ _ _ (then_behind _ _ _ (then_behind _ _ _ body_read))))

  trigger_read : Fitting (plain.trigger (Whole E) (Whole form)) (g.trigger n)
  unfolding plain.trigger g.trigger g.message
  trigger_read = fitting_map _ _ _ (then_behind _ _ _ (fitting_then _ _ _ _ (fitting_maybe _ _ pace_read) (fitting_then _ _ _ _ whole_read (fitting_self _))))

  pub spec_read : Fitting (plain.spec (Whole E) (Whole form)) (g.specification n)
  unfolding plain.spec plain.input plain.param plain.constant plain.literal plain.other_literal g.specification g.declaration g.inputs g.typed g.constant g.literal g.word_literal
  spec_read = fitting_many _ _ (fitting_either _ _ _ _ (fitting_self _) (fitting_either _ _ _ _ (fitting_self _) (fitting_either _ _ _ _ output_read trigger_read)))

-- ---- what is read is plainly spelled

module _ (n : ℕ) (E : Syntax Expr) (form : Syntax Formula) (in_E : Within (g.expr_in n) E) (out_E : Within (g.expr_with (g.expr_in n) (g.other_in n)) E) (in_form : Within (g.formula_in n) form) where
  whole_plain : Fitting (g.whole n) (Whole E)
  unfolding Spells Fits g.whole
  whole_plain = record { spells = in_E.spells; fits = λ ts x s. (in_E.spells ts x s.0, s.1) }

  formula_plain : Fitting (g.whole_formula n) (Whole form)
  unfolding Spells Fits g.whole_formula
  formula_plain = record { spells = in_form.spells; fits = λ ts x s. (in_form.spells ts x s.0, s.1) }

  pace_plain : Fitting (g.pacing n) (plain.pace (Whole E) (Whole form))
  unfolding plain.pace g.pacing g.rhythm g.clock
  pace_plain = fitting_map _ _ _ (then_behind _ _ _ (fitting_either _ _ _ _ (fitting_self _) (fitting_either _ _ _ _ (fitting_self _) (fitting_either _ _ _ _ (fitting_map _ _ _ (behind _ _ _ (before _ _ _ formula_plain))) (fitting_self _)))))

  part_plain : (s : TokenShape) → Fitting (g.part_behind n s) (plain.behind (Whole E) (Whole form) s)
  unfolding plain.behind g.part_behind
  part_plain s = fitting_map _ _ _ (then_behind _ _ _ whole_plain)

  one_plain : Fitting (Whole (g.expr_with (g.expr_in n) (g.other_in n))) (Whole E)
  unfolding Spells Fits
  one_plain = record { spells = out_E.spells; fits = λ ts x s. (out_E.spells ts x s.0, s.1) }

  exprs_plain : Fitting (g.parts n) (plain.exprs (Whole E) (Whole form))
  unfolding plain.exprs
  exprs_plain = fitting_chain _ (Either (one n) (in_brackets n)) _ (parts_plain n) (fitting_either _ _ _ _ (fitting_map _ _ _ one_plain) (fitting_map _ _ _ (before _ _ _ (fitting_then _ _ _ _ (part_plain is.Open) (fitting_then _ _ _ _ (part_plain is.Comma) (fitting_many _ _ (part_plain is.Comma)))))))

  spawn_plain : Fitting (g.spawn n) (plain.spawn (Whole E) (Whole form))
  unfolding plain.spawn g.spawn g.with_parts
  spawn_plain = fitting_map _ _ _ (then_behind _ _ _ (fitting_then _ _ _ _ (fitting_maybe _ _ pace_plain) (fitting_then _ _ _ _ (fitting_maybe _ _ (part_plain is.When)) (fitting_maybe _ _ (fitting_map _ _ _ (then_behind _ _ _ exprs_plain))))))

  eval_plain : Fitting (g.eval n) (plain.eval (Whole E) (Whole form))
  unfolding plain.eval g.eval
  eval_plain = fitting_map _ _ _ (then_behind _ _ _ (fitting_then _ _ _ _ (fitting_maybe _ _ pace_plain) (fitting_then _ _ _ _ (fitting_maybe _ _ (part_plain is.When)) (part_plain is.With))))

  close_plain : Fitting (g.close n) (plain.close (Whole E) (Whole form))
  unfolding plain.close g.close
  close_plain = fitting_map _ _ _ (then_behind _ _ _ (fitting_then _ _ _ _ (fitting_maybe _ _ pace_plain) (part_plain is.When)))

  body_plain : Fitting (g.body n) (plain.body (Whole E) (Whole form))
  unfolding plain.body g.body g.short_eval
  body_plain = fitting_either _ _ _ _ (fitting_chain _ _ _ (once _ _ _) (fitting_map _ _ _ (fitting_then _ _ _ _ (fitting_maybe _ _ pace_plain) (part_plain is.Define))))
      (fitting_either _ _ _ _ (fitting_map _ _ _ eval_plain) (fitting_map _ _ _ (fitting_then _ _ _ _ spawn_plain (fitting_then _ _ _ _ eval_plain (fitting_maybe _ _ close_plain)))))

  output_plain : Fitting (g.output n) (plain.output (Whole E) (Whole form))
  unfolding plain.output plain.param g.output g.parameters g.typed g.kind
  output_plain = fitting_map _ _ _ (then_behind _ _ _ (then_behind _ _ _ (then_behind _ _ _ (then_behind _ _ _ body_plain))))

  trigger_plain : Fitting (g.trigger n) (plain.trigger (Whole E) (Whole form))
  unfolding plain.trigger g.trigger g.message
  trigger_plain = fitting_map _ _ _ (then_behind _ _ _ (fitting_then _ _ _ _ (fitting_maybe _ _ pace_plain) (fitting_then _ _ _ _ whole_plain (fitting_self _))))

  pub spec_plain : Fitting (g.specification n) (plain.spec (Whole E) (Whole form))
  unfolding plain.spec plain.input plain.param plain.constant plain.literal plain.other_literal g.specification g.declaration g.inputs g.typed g.constant g.literal g.word_literal
  spec_plain = fitting_many _ _ (fitting_either _ _ _ _ (fitting_self _) (fitting_either _ _ _ _ (fitting_self _) (fitting_either _ _ _ _ output_plain trigger_plain)))
