use Rattle.std.proofs.Common.{◌≡◌, arith}
use Rattle.lola_parser_expressions.proofs.Inward.{nested_ends, nested_whole, nested_other}
use Rattle.lola_parser_expressions.proofs.nested.+nested.Goals as goal

pub returns-then-depth-eq0 : goal.returns-then-depth-eq0
returns-then-depth-eq0 t c = let none : c.args.depth ≡ 0 = omega arith in nested_ends c.args.is_whole c.args.depth c.args.parser.now.room c.args.parser.now.rest none

pub returns-then-is_whole : goal.returns-then-is_whole
returns-then-is_whole t c = rw (nested_whole c.args.is_whole c.args.depth c.args.parser.now.room c.args.parser.now.rest c.if-is_whole.true (omega arith)) c.expr_with.ensures

pub returns-else-is_whole : goal.returns-else-is_whole
returns-else-is_whole t c = rw (nested_other c.args.is_whole c.args.depth c.args.parser.now.room c.args.parser.now.rest c.if-is_whole.false (omega arith)) c.other_with.ensures
