use Rattle.std.proofs.Common.{rules, arith}
use Rattle.std.proofs.lemmas.Grind.{common_steps}
use Rattle.lola_parser_grammar.specs.Grammar.{sum, comparison_operators, expr_in, other_in}
use Rattle.lola_parser_cursor.proofs.Joins.{comparison_full, once_ends, once_fails, once_breaks, once_goes}
use Rattle.lola_parser_expressions.proofs.rules.Rules.further_comparison.Goals as goal

pub returns-in_err-op : goal.returns-in_err-op
returns-in_err-op g c =
    let f = once_fails comparison_operators (sum (expr_in c.args.self.now.depth) (other_in c.args.self.now.depth)) comparison_full c.args.start c.args.parser.now.room c.args.parser.now.rest in
    first_of (search (rules, f), grind (arith, common_steps, f))

pub returns-in_default : goal.returns-in_default
returns-in_default g c =
    let f = once_ends comparison_operators (sum (expr_in c.args.self.now.depth) (other_in c.args.self.now.depth)) comparison_full c.args.start c.args.parser.now.room c.args.parser.now.rest in
    first_of (search (rules, f), grind (arith, common_steps, f))

pub returns-in_err-right : goal.returns-in_err-right
returns-in_err-right g c =
    let f = once_breaks comparison_operators (sum (expr_in c.args.self.now.depth) (other_in c.args.self.now.depth)) comparison_full c.args.start c.args.parser.now.room c.args.parser.now.rest in
    first_of (search (rules, f), grind (arith, common_steps, f))

pub returns : goal.returns
returns g c =
    let f = once_goes comparison_operators (sum (expr_in c.args.self.now.depth) (other_in c.args.self.now.depth)) comparison_full c.args.start c.args.parser.now.room c.args.parser.now.rest in
    first_of (search (rules, f), grind (arith, common_steps, f))
