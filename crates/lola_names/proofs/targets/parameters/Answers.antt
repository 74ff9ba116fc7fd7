use Rattle.std.proofs.Common.{ℕ, ◌+◌, ◌++◌, drop, refl, ap, ◌∙◌}
use Rattle.lola_names_refused.specs.Table.{meaning_in}
use Rattle.lola_names.specs.Targets.{parameter_targets}
use Rattle.lola_names.specs.declared.targets.Target.TheVariants as target
use Rattle.lola_names.proofs.TableLemmas.{puts_name, parameters_turn, means_end}
use Rattle.lola_names.proofs.targets.parameters.Goals as goal

pub loop-parameter-preserved : goal.loop-parameter-preserved
loop-parameter-preserved c =
    let l = c.loop-parameter in
    let turn =
    parameters_turn l.table c.put.new.self (parameter_targets 0 c.args.parameters.now) l.number l.parameter-index c.args.parameters.now c.parameter-item.result c.loop-parameter-test.true c.parameter-item.is
    (puts_name l.table c.put.new.self c.parameter-item.result.name (target.Parameter l.number) c.in_ok-put.ensures) l.invariant in
    λ rest text. ap (λ (n : ℕ). meaning_in (c.put.new.self ++ (parameter_targets n (drop (l.parameter-index + 1) c.args.parameters.now) ++ rest)) text) c.in_ok-number.ensures ∙ turn rest text

pub returns : goal.returns
returns c =
    means_end (parameter_targets c.loop-parameter.number) c.args.parameters.now c.loop-parameter.parameter-index c.loop-parameter.table (parameter_targets 0 c.args.parameters.now) refl c.loop-parameter-test.false
    c.loop-parameter.invariant
