use Rattle.std.proofs.Common.{Some, None, sym, ap, ◌∙◌}
use Rattle.lola_lexer.specs.declared.shape.TokenShape.TheVariants as is
use Rattle.lola_parser_grammar.specs.Syntax.{fits}
use Rattle.lola_parser.specs.Looking.{is_either}
use Rattle.lola_parser.specs.Places.{clause_words, is_spawn}
use Rattle.lola_parser.proofs.Cuts.{either_tells, cut_of}
use Rattle.lola_parser.proofs.looking_back.is_spawn.Goals as goal

pub returns-in-None : goal.returns-in-None
returns-in-None c = λ bytes. sym (ap is_spawn (cut_of clause_words (is_either is.Spawn is.Eval) (either_tells is.Spawn is.Eval) bytes c.args.tokens.now None c.in-None.ensures))

pub returns-in-Some : goal.returns-in-Some
unfolding fits
returns-in-Some c = λ bytes. c.same.ensures ∙ sym (ap is_spawn ((cut_of clause_words (is_either is.Spawn is.Eval) (either_tells is.Spawn is.Eval) bytes c.args.tokens.now (Some c.in-Some.at) c.in-Some.ensures).1 _))
