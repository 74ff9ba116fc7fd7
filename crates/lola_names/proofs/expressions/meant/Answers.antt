use Rattle.std.proofs.Common.{◌≡◌, Option, Some, refl, sym, ap, subst, ◌∙◌}
use Rattle.lola_names.specs.Parted.{IsOpen, IsClosed, IsNamedTo}
use Rattle.lola_names.specs.declared.expressions.Named.{Named}
use Rattle.lola_names.specs.declared.expressions.Named.TheVariants as named
use Rattle.lola_names.specs.declared.targets.Target.{Target}
use Rattle.lola_names.specs.declared.targets.Target.TheVariants as target
use Rattle.lola_names.proofs.expressions.meant.Goals as goal

closed : (t : Option Target) (n : Named) → IsOpen n → IsClosed t n
closed t (named.Whole r) lacks = absurd lacks
closed t (named.Read s how) lacks = tt
closed t (named.Window w) lacks = tt

pub returns-in_ok-named-in-Some-Input-clause-named : goal.returns-in_ok-named-in-Some-Input-clause-named
returns-in_ok-named-in-Some-Input-clause-named c =
    let n = c.in_ok-named-in-Some-Input in
    let which = rw c.in-Some-Input.is at c.in-Some-Input.field-0-is in
    let is : c.args.target ≡ Some (target.Input c.in-Some-Input.stream c.in-Some-Input.field-0-1) = c.in-Some-Input.is ∙ ap Some which in
    subst (λ (t : Option Target). IsNamedTo c.args.scope.now t c.access.new.made c.args.name.now c.args.how.now n.named) (sym is) (
      closed (Some (target.Input c.in-Some-Input.stream c.in-Some-Input.field-0-1)) n.named n.ensures.open,
      λ args targets parameters there texts windows b. n.ensures.access c.args.name.now args targets parameters texts windows b,
    )

pub returns-in_ok-named-in-Some-Output-clause-named : goal.returns-in_ok-named-in-Some-Output-clause-named
returns-in_ok-named-in-Some-Output-clause-named c =
    let n = c.in_ok-named-in-Some-Output in
    let which = rw c.in-Some-Output.is at c.in-Some-Output.field-0-is in
    let is : c.args.target ≡ Some (target.Output c.in-Some-Output.stream) = c.in-Some-Output.is ∙ ap Some which in
    subst (λ (t : Option Target). IsNamedTo c.args.scope.now t c.access-in-Some-Output.new.made c.args.name.now c.args.how.now n.named) (sym is) (
      closed (Some (target.Output c.in-Some-Output.stream)) n.named n.ensures.open,
      λ args targets parameters there texts windows b. n.ensures.access c.args.name.now args targets parameters texts windows b,
    )

pub returns-in_ok-expr-in-Some-Constant-clause-named : goal.returns-in_ok-expr-in-Some-Constant-clause-named
returns-in_ok-expr-in-Some-Constant-clause-named c =
    let r = c.in_ok-expr-in-Some-Constant in
    let which = rw c.in-Some-Constant.is at c.in-Some-Constant.field-0-is in
    let is : c.args.target ≡ Some (target.Constant c.in-Some-Constant.number) = c.in-Some-Constant.is ∙ ap Some which in
    subst (λ (t : Option Target). IsNamedTo c.args.scope.now t c.constant.new.made c.args.name.now c.args.how.now (named.Whole r.expr)) (sym is)
    (refl, λ args targets parameters there texts windows b. r.ensures.constant there texts windows b)
