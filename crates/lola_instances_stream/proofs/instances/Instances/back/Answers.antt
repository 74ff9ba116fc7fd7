use Rattle.std.proofs.Common.{arith, IsTrue, subst, sym}
use Rattle.lola_value.specs.declared.value.Outcome.{Outcome}
use Rattle.lola_value.specs.Kinds.{is_outcome_of}
use Rattle.lola_instances_stream.proofs.Finding.{found_below}
use Rattle.lola_instances_stream.proofs.instances.Instances.back.Goals as goal

pub slot-requires : goal.slot-requires
slot-requires c = found_below c.args.params.now c.args.self.now.slots c.in-Some.i c.in-Some.ensures

pub back-requires-clause-high : goal.back-requires-clause-high
back-requires-clause-high c = omega (arith, c.requires.k_high, (c.requires.steady c.in-Some.i c.slot.result.now c.slot.ensures).capacity)

pub returns-in-Some-clause-kind : goal.returns-in-Some-clause-kind
returns-in-Some-clause-kind c =
    subst (λ (o : Outcome). IsTrue (is_outcome_of c.args.self.now.layout.kind o)) (sym c.widen.ensures)
    (c.back.ensures.kind c.args.self.now.layout.kind (c.requires.steady c.in-Some.i c.slot.result.now c.slot.ensures).values)
