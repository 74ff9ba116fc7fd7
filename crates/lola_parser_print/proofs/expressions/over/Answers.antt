use Rattle.std.specs.Prelude.{codes}
use Rattle.std.proofs.Common.{true, refl}
use Rattle.lola_parser_print.specs.Print as out
use Rattle.lola_parser_print.proofs.Writing.{ends_bytes}
use Rattle.lola_parser_print.proofs.expressions.over.Goals as goal

pub returns-then-exactly : goal.returns-then-exactly
returns-then-exactly c =
    rw (c.if-exactly.true)
    (ends_bytes c.append-then-exactly.result _ _ _ (codes ". aggregate ( ") (codes "over_exactly : ") (out.spelled_out (out.over true)) refl
    c.in_ok-append.ensures.ok c.append-then-exactly.ensures.ok)
