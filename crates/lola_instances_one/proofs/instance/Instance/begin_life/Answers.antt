use Rattle.std.proofs.Common.{sym, subst}
use Rattle.lola_instances_one.specs.Holdings.{Holdings}
use Rattle.lola_instances_one.specs.Memories.{RemembersNothing}
use Rattle.lola_instances_one.proofs.Births.{begun-nothing}
use Rattle.lola_instances_one.proofs.instance.Instance.begin_life.Goals as goal

pub returns-clause-nothing : goal.returns-clause-nothing
returns-clause-nothing c = λ h. subst (λ (w : Holdings). RemembersNothing (record w { params = c.args.params; born = c.args.time })) (sym c.self.view_is) (begun-nothing c.args.self.now c.args.params c.args.time h)
