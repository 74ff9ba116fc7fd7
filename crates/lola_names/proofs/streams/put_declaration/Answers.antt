use Rattle.std.proofs.Common.{◌++◌, ◌∙◌, List, ap, map}
use Rattle.lola_parser_grammar.specs.declared.literals.Typed.{Typed}
use Rattle.lola_parser_grammar.specs.declared.declarations.Declaration.TheVariants as d
use Rattle.lola_names.specs.Clauses.{input_stream}
use Rattle.lola_names.proofs.StreamLemmas.{puts_same, puts_inputs, puts_constant, puts_trigger}
use Rattle.lola_names.proofs.streams.put_declaration.Goals as goal

pub returns-in_ok-put_inputs-in-Inputs : goal.returns-in_ok-put_inputs-in-Inputs
returns-in_ok-put_inputs-in-Inputs c =
    puts_same c.args.declarations.now c.args.x.now (d.Inputs c.in-Inputs.x) _ _ _ _ _ _ c.in-Inputs.is
    (puts_inputs c.args.declarations.now c.in-Inputs.x c.args.triggers.now c.args.streams.now c.put_inputs.new.streams c.args.made.now
    (c.in_ok-put_inputs-in-Inputs.ensures ∙ ap (λ (l : List Typed). c.args.streams.now ++ map input_stream l) c.as_slice.ensures))

pub returns-in-Constant : goal.returns-in-Constant
returns-in-Constant c =
    puts_same c.args.declarations.now c.args.x.now (d.Constant c.in-Constant.field-0) _ _ _ _ _ _ c.in-Constant.is
    (puts_constant c.args.declarations.now c.in-Constant.field-0 c.args.triggers.now c.args.streams.now c.args.made.now)

pub returns-in_ok-push-in-Trigger : goal.returns-in_ok-push-in-Trigger
returns-in_ok-push-in-Trigger c =
    puts_same c.args.declarations.now c.args.x.now (d.Trigger c.in-Trigger.x) _ _ _ _ _ _ c.in-Trigger.is
    (puts_trigger c.args.declarations.now c.in-Trigger.x c.args.triggers.now c.in_ok-k-in-Trigger.k c.in_ok-n-in-Trigger.n c.args.streams.now c.push-in-Trigger.new.self
    c.args.made.now c.trigger.new.made c.in_ok-stream-in-Trigger.stream c.in_ok-k-in-Trigger.ensures c.in_ok-n-in-Trigger.ensures c.in_ok-push-in-Trigger.ensures.ok
    c.in_ok-stream-in-Trigger.ensures.resolved c.in_ok-stream-in-Trigger.ensures.grown)
