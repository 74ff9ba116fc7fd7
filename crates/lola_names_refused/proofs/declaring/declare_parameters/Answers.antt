use Rattle.lola_names_refused.proofs.Repeats.{parameters_turn, parameters_end}
use Rattle.lola_names_refused.proofs.declaring.declare_parameters.Goals as goal

pub loop-parameter-preserved : goal.loop-parameter-preserved
loop-parameter-preserved c =
    parameters_turn c.args.names.now c.args.parameters.now c.loop-parameter.parameter-index c.parameter-item.result _ _ _ _ _ c.loop-parameter-test.true c.parameter-item.is
    c.in_ok-declare_parameter.ensures.found c.in_ok-declare_parameter.ensures.own c.loop-parameter.invariant

pub returns : goal.returns
returns c = parameters_end c.args.names.now c.args.parameters.now c.loop-parameter.parameter-index _ _ _ c.loop-parameter-test.false c.loop-parameter.invariant
