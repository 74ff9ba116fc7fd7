use Rattle.std.proofs.Common.{sym, subst, IsTrue}
use Rattle.lola_value.specs.declared.value.Params.{Params}
use Rattle.lola_value.specs.Kinds.{are_of_kinds}
use Rattle.lola_value.specs.Naming.{the_values}
use Rattle.lola_instances_stream.proofs.instances.Instances.params_of.Goals as goal

pub returns-clause-kinds : goal.returns-clause-kinds
returns-clause-kinds c =
    subst (λ (p : Params). IsTrue (are_of_kinds c.args.self.now.layout.parameters (the_values p))) (sym c.params.ensures.value) (c.requires.steady c.args.index c.slot.result.now c.slot.ensures).kinds
