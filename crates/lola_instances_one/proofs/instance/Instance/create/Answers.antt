use Rattle.std.proofs.Common.{◌≡◌, sym, subst}
use Rattle.lola_instances_one.specs.Holdings.{Holdings, holdings}
use Rattle.lola_instances_one.specs.Memories.{RemembersNothing}
use Rattle.lola_instances_one.specs.Unborn.{unborn}
use Rattle.lola_instances_one.proofs.Births.{unborn-nothing}
use Rattle.lola_instances_one.proofs.instance.Instance.create.Goals as goal

pub returns-clause-nothing : goal.returns-clause-nothing
returns-clause-nothing c =
    let e : unborn c.args.capacity c.args.windows.now ≡ holdings c.without_parameters.result 0 0 c.missing.result c.in_ok-values.values c.in_ok-panes.panes.items =
    λ i. holdings (sym c.without_parameters.ensures i) 0 0 (sym c.missing.ensures i) (sym c.in_ok-values.ensures i) (sym c.in_ok-panes.ensures i) in
    subst (λ (w : Holdings). RemembersNothing w) e (unborn-nothing c.args.capacity c.args.windows.now c.requires.capacity)
