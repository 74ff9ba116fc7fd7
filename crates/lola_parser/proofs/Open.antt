-- In a specification, each token that may go an expression on behind a bracket begins some sentence.
use Rattle.std.proofs.Common.{◌≡◌, ℕ, true, refl}
use Rattle.lola_parser_grammar.specs.Syntax.{same_shape, first, nullable}
use Rattle.lola_parser_grammar.specs.Grammar.{token, word, name, other_name, integer, text, quantity, word_literal, closed, typed, parameters, kind, clock, message, whole, whole_formula, whole_unbracketed, rhythm, pacing, part_behind, more_parts, one_part, forked, parts, with_parts, spawn, eval, close, short_eval, body, literal, inputs, constant, output, trigger, declaration, specification}
use Rattle.lola_parser.proofs.Opening.{is_open, forks_open}

one_part_open : (n : ℕ) → is_open (one_part n) ≡ true
unfolding is_open first nullable same_shape one_part closed token
one_part_open n = refl

more_parts_open : (n : ℕ) → forks_open (more_parts n) ≡ true
unfolding forks_open more_parts part_behind whole token
more_parts_open n = refl

with_parts_open : (n : ℕ) → forks_open (with_parts n) ≡ true
unfolding forks_open with_parts parts forked whole_unbracketed token
with_parts_open n = rw (one_part_open n, more_parts_open n) refl

pub specification_open : (n : ℕ) → forks_open (specification n) ≡ true
unfolding forks_open specification declaration inputs constant output trigger typed parameters kind message literal word_literal name integer text token body short_eval eval spawn close part_behind pacing rhythm clock quantity other_name word whole_formula whole
specification_open n = rw (with_parts_open n) refl
