use Rattle.std.proofs.Common.{[], length, slice_get, true, sym, subst, Option}
use Rattle.lola_instances_one.specs.Holdings.{Holdings}
use Rattle.lola_instances_stream.specs.Births.{newborn}
use Rattle.lola_instances_stream.specs.Crowds.{Crowd, RemembersAt}
use Rattle.lola_instances_stream.specs.Rights.{AreRight, SlotRight}
use Rattle.lola_instances_stream.proofs.Lists.{each-append, got_last}
use Rattle.lola_instances_stream.proofs.Newborns.{newborn_right, newborn_remembers, past_append}
use Rattle.lola_instances_stream.proofs.instances.Instances.spawn.Goals as goal

pub returns-clause-right : goal.returns-clause-right
returns-clause-right c =
    let k = c.args.self.now in
    let step = c.args.step in
    let off = c.args._offset in
    subst (AreRight true step off) (sym c.give_birth.ensures.born)
    (each-append (SlotRight k.layout k.windows true step off) k.slots (newborn k.layout.kept k.windows c.args.time c.args.params) c.requires.right
    (newborn_right k.layout k.windows true step off c.args.time c.args.params c.requires.step_ge c.give_birth.ensures.onto c.requires.kinds c.requires.places))

pub returns-clause-past : goal.returns-clause-past
returns-clause-past c = λ start time names i values m.
    let k = c.args.self.now in
    subst (λ (z : Crowd). RemembersAt start time c.args.step names (slice_get z.slots i) values) (sym c.give_birth.ensures.born)
    (past_append (λ o. RemembersAt start time c.args.step names o values) k.slots (newborn k.layout.kept k.windows c.args.time c.args.params) i (λ z. z) m)

pub returns-clause-new : goal.returns-clause-new
returns-clause-new c = λ room start time names.
    let k = c.args.self.now in
    let x = newborn k.layout.kept k.windows c.args.time c.args.params in
    subst (λ (z : Crowd). RemembersAt start time c.args.step names (slice_get z.slots (length k.slots)) []) (sym c.give_birth.ensures.born)
    (subst (λ (o : Option Holdings). RemembersAt start time c.args.step names o []) (sym (got_last k.slots x)) (newborn_remembers k.layout.kept k.windows c.args.time c.args.params start time c.args.step names c.give_birth.ensures.kept))
