use Rattle.std.proofs.Common.{Some, sym, subst}
use Rattle.lola_value.specs.declared.value.Kind.{Kind}
use Rattle.lola_parser_grammar.specs.declared.declarations.Declaration.{Declaration}
use Rattle.lola_names.specs.Resolved.{IsConstantUse, IsLiteral}
use Rattle.lola_names.proofs.expressions.literal_of.Goals as goal

pub returns-in_ok-expr-in-Constant-clause-constant : goal.returns-in_ok-expr-in-Constant-clause-constant
returns-in_ok-expr-in-Constant-clause-constant c = λ declared texts windows b.
    let x = c.in-Constant.x in
    let r = c.in_ok-expr-in-Constant.expr in
    subst (λ (d : Declaration). IsConstantUse texts c.args.name.now.at (Some d) r) (sym c.in-Constant.is)
    (subst (λ (k : Kind). IsLiteral texts (record { at = c.args.name.now.at; kind = Some k }) x.literal.value r) c.kind.ensures (c.in_ok-expr-in-Constant.ensures.literal texts windows b))
