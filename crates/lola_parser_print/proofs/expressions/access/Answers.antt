use Rattle.std.proofs.Common.{◌∷◌, [], ◌++◌, sym, ap}
use Rattle.lola_parser_print.specs.Print as out
use Rattle.lola_parser_print.proofs.Writing.{ends_more, adds_more}
use Rattle.lola_parser_print.proofs.expressions.access.Goals as goal

pub returns-in_ok-put_quantity-in-Window : goal.returns-in_ok-put_quantity-in-Window
returns-in_ok-put_quantity-in-Window c =
    let w = c.in-Window in
    let two = adds_more _ _ _ (out.over w.exactly) (out.quantity w.length ∷ []) c.in_ok-over-in-Window.ensures c.in_ok-put_quantity-in-Window.ensures in
    ends_more c.using.result _ _ _ (out.over w.exactly ++ out.quantity w.length ∷ []) (out.using w.function) (out.access c.args.how.now) (ap out.access (sym w.is)) two c.using.ensures
