use Rattle.lola_names_refused.specs.Refused as refused
use Rattle.lola_names_refused.proofs.Noting.{find_turn, find_end}
use Rattle.lola_parser_grammar.specs.declared.literals.Typed.{Typed}
use Rattle.lola_names_refused.proofs.uses.kind_uses.Goals as goal

pub loop-item-preserved : goal.loop-item-preserved
loop-item-preserved c =
    find_turn (λ (t : Typed). refused.kind_use t.kind) c.args.items.now c.loop-item.item-index c.item-item.result _ _ _ c.loop-item-test.true c.item-item.is c.kind_use.ensures c.loop-item.invariant

pub returns : goal.returns
returns c = find_end (λ (t : Typed). refused.kind_use t.kind) c.args.items.now c.loop-item.item-index _ _ c.loop-item-test.false c.loop-item.invariant
