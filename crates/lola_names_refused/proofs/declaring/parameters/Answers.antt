use Rattle.lola_names_refused.specs.declared.names.Meaning.TheVariants as is
use Rattle.lola_names_refused.proofs.Repeats.{names_turn, names_end}
use Rattle.lola_names_refused.proofs.declaring.parameters.Goals as goal

pub loop-parameter-preserved : goal.loop-parameter-preserved
loop-parameter-preserved c =
    names_turn is.Parameter c.args.parameters.now c.loop-parameter.parameter-index c.parameter-item.result _ _ _ c.loop-parameter-test.true c.parameter-item.is c.in_ok-put.ensures c.loop-parameter.invariant

pub returns : goal.returns
returns c = names_end is.Parameter c.args.parameters.now c.loop-parameter.parameter-index _ _ c.loop-parameter-test.false c.loop-parameter.invariant
