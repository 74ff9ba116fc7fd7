use Rattle.std.proofs.Common.{refl}
use Rattle.lola_lexer.specs.declared.shape.TokenShape.TheVariants as is
use Rattle.lola_parser_print.specs.Print as out
use Rattle.lola_parser_print.specs.Print.{lex, spelled_out}
use Rattle.lola_parser_print.proofs.Writing.{ends_more}
use Rattle.lola_parser_print.proofs.clauses.short_eval.Goals as goal

pub returns : goal.returns
returns c =
    let x = c.args.x.now in
    ends_more c.part.result _ _ _ (out.maybe out.pacing x.pacing) (out.part is.Define x.with) (out.short_eval x) refl c.in_ok-pacing.ensures c.part.ensures
