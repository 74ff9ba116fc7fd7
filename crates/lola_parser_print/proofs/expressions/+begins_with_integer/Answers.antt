use Rattle.std.proofs.Common.{sym, ap, ◌∙◌}
use Rattle.lola_parser_print.specs.Print.{heads}
use Rattle.lola_parser_print.proofs.Equations.{heads-Defaults}
use Rattle.lola_parser_print.proofs.expressions.+begins_with_integer.Goals as goal

pub returns-in-Defaults : goal.returns-in-Defaults
returns-in-Defaults t c =
    c.begins_with_integer.ensures ∙ ap heads c.get.ensures ∙ sym (heads-Defaults c.in-Defaults.field-0 c.in-Defaults.x c.in-Defaults.field-2) ∙ ap heads (sym c.in-Defaults.is)
