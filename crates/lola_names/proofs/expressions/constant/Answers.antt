use Rattle.std.proofs.Common.{◌≡◌, Option, Some, length, sym, ap, subst, ◌∙◌}
use Rattle.std.specs.Prelude.{slice_get}
use Rattle.std.proofs.lemmas.Bool.{ltb-true}
use Rattle.std.proofs.lemmas.Option.{slice_get-get_or}
use Rattle.lola_parser_grammar.specs.declared.declarations.Declaration.{Declaration}
use Rattle.lola_names.specs.Parted.{IsConstantTo}
use Rattle.lola_names.proofs.expressions.constant.Goals as goal

pub returns-in_ok-expr-in-Some-clause-constant : goal.returns-in_ok-expr-in-Some-clause-constant
returns-in_ok-expr-in-Some-clause-constant c =
    let at : slice_get c.args.scope.now.declarations.now c.args.number ≡ Some c.in-Some.declaration.now = slice_get-get_or c.args.scope.now.declarations.now c.args.number c.in-Some.declaration.now (ltb-true c.args.number (length c.args.scope.now.declarations.now) (sym c.in-Some.ensures.lookup.0)) ∙ ap Some (sym c.in-Some.ensures.lookup.1) in
    subst (λ (d : Option Declaration). IsConstantTo d c.literal_of.new.made c.args.name.now c.in_ok-expr-in-Some.expr) (sym at) c.in_ok-expr-in-Some.ensures.constant
