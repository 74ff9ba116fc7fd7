use Rattle.std.proofs.Common.{◌≡◌, ◌++◌, sym, ap, ◌∙◌, append_assoc}
use Rattle.lola_lexer.specs.declared.shape.TokenShape.TheVariants as is
use Rattle.lola_parser_print.specs.Print as out
use Rattle.lola_parser_print.specs.Print.{lex, spelled_out}
use Rattle.lola_parser_print.proofs.Writing.{ends_bytes, bytes_more, spelled-append}
use Rattle.lola_parser_print.proofs.clauses.clause.Goals as goal

pub returns : goal.returns
returns c =
    let word = c.args.word.now in
    let p = out.maybe out.pacing c.args.x.now in
    let w = out.maybe (out.part is.When) c.args.condition.now in
    let two = bytes_more _ _ _ word (spelled_out p) c.in_ok-append.ensures.ok c.in_ok-pacing.ensures in
    let same : (word ++ spelled_out p) ++ spelled_out w ≡ word ++ spelled_out (p ++ w) =
    append_assoc word (spelled_out p) (spelled_out w) ∙ ap (λ l. word ++ l) (sym (spelled-append p w)) in
    ends_bytes c.when.result _ _ _ (word ++ spelled_out p) (spelled_out w) (word ++ spelled_out (p ++ w)) same two c.when.ensures
