use Rattle.std.proofs.Common.{List, sym, subst, IsTrue}
use Rattle.lola_value.specs.declared.value.Kind.{Kind}
use Rattle.lola_value.specs.Naming.{the_values}
use Rattle.lola_model.specs.Store.{are_of_kinds}
use Rattle.lola_store.proofs.Asking.{owned}
use Rattle.lola_store.proofs.reading.params_of.Goals as goal

pub returns-clause-kinds : goal.returns-clause-kinds
returns-clause-kinds c =
    let o = owned c.args.s.now c.args.stream c.args.index c.instance.result.now c.instance.ensures in
    subst (λ (ks : List Kind). IsTrue (are_of_kinds ks (the_values c.instance.result.now.params))) (sym o.parameters_is) o.right.kinds

pub returns-clause-places : goal.returns-clause-places
returns-clause-places c = (owned c.args.s.now c.args.stream c.args.index c.instance.result.now c.instance.ensures).right.formed
