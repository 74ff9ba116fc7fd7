use Rattle.std.proofs.Common.{◌++◌, ap, ◌∙◌, append_assoc}
use Rattle.lola_parser_print.specs.Print as out
use Rattle.lola_parser_print.specs.Print.{lex, spelled_out}
use Rattle.lola_parser_print.proofs.Writing.{ends_more, adds_more}
use Rattle.lola_parser_print.proofs.declarations.trigger.Goals as goal

pub returns : goal.returns
returns c =
    let x = c.args.x.now in
    let p = out.maybe out.pacing x.pacing in
    let b = out.bare x.when.expr in
    let text = c.as_bytes.result.now in
    let two = adds_more _ _ _ p b c.in_ok-pacing.ensures c.in_ok-bare.ensures in
    ends_more c.message.result _ _ _ (p ++ b) (out.message text) (out.trigger x)
    (append_assoc p b (out.message text) ∙ ap (λ l. p ++ (b ++ out.message l)) c.as_bytes.ensures) two c.message.ensures
