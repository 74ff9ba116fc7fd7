use Rattle.lola_names_refused.specs.declared.names.Meaning.TheVariants as is
use Rattle.lola_names_refused.proofs.Repeats.{repeated_turn, repeated_end, names_turn, names_end}
use Rattle.lola_names_refused.proofs.declaring.declare_inputs.Goals as goal

pub loop-input-preserved : goal.loop-input-preserved
loop-input-preserved c = (
  repeated_turn is.Input c.args.inputs.now c.loop-input.input-index c.input-item.result _ _ _ _ _ c.loop-input-test.true c.input-item.is c.in_ok-declare.ensures.found c.in_ok-declare.ensures.names c.loop-input.invariant.0,
  names_turn is.Input c.args.inputs.now c.loop-input.input-index c.input-item.result _ _ _ c.loop-input-test.true c.input-item.is c.in_ok-declare.ensures.names c.loop-input.invariant.1,
)

pub returns-clause-found : goal.returns-clause-found
returns-clause-found c = repeated_end is.Input c.args.inputs.now c.loop-input.input-index _ _ _ c.loop-input-test.false c.loop-input.invariant.0

pub returns-clause-names : goal.returns-clause-names
returns-clause-names c = names_end is.Input c.args.inputs.now c.loop-input.input-index _ _ c.loop-input-test.false c.loop-input.invariant.1
