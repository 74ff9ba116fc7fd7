use Rattle.lola_names_refused.proofs.Repeats.{all_turn, all_end, declarations_turn, declarations_end}
use Rattle.lola_names_refused.proofs.declaring.names.Goals as goal

pub loop-declaration-preserved : goal.loop-declaration-preserved
loop-declaration-preserved c = (
  all_turn c.args.declarations.now c.loop-declaration.declaration-index c.declaration-item.result _ _ _ _ _ c.loop-declaration-test.true c.declaration-item.is
      c.in_ok-declare_all.ensures.found c.in_ok-declare_all.ensures.names c.loop-declaration.invariant.0,
  declarations_turn c.args.declarations.now c.loop-declaration.declaration-index c.declaration-item.result _ _ _ c.loop-declaration-test.true c.declaration-item.is
      c.in_ok-declare_all.ensures.names c.loop-declaration.invariant.1,
)

pub returns-clause-found : goal.returns-clause-found
returns-clause-found c = all_end c.args.declarations.now c.loop-declaration.declaration-index _ _ _ c.loop-declaration-test.false c.loop-declaration.invariant.0

pub returns-clause-names : goal.returns-clause-names
returns-clause-names c = declarations_end c.args.declarations.now c.loop-declaration.declaration-index _ _ c.loop-declaration-test.false c.loop-declaration.invariant.1
