use Rattle.lola_names_refused.specs.Refused as refused
use Rattle.lola_names_refused.proofs.Noting.{find_turn, find_end}
use Rattle.lola_parser_grammar.specs.declared.clauses.Part.{Part}
use Rattle.lola_names_refused.proofs.uses.with_uses.Goals as goal

pub loop-part-preserved : goal.loop-part-preserved
loop-part-preserved c =
    find_turn (λ (x : Part). refused.uses c.args.parameters.now c.args.names.now x.expr) c.args.parts.now c.loop-part.part-index c.part-item.result _ _ _ c.loop-part-test.true c.part-item.is c.expr_uses.ensures c.loop-part.invariant

pub returns : goal.returns
returns c = find_end (λ (x : Part). refused.uses c.args.parameters.now c.args.names.now x.expr) c.args.parts.now c.loop-part.part-index _ _ c.loop-part-test.false c.loop-part.invariant
