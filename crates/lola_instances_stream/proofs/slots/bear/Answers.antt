use Rattle.std.proofs.Common.{◌≡◌, ◌∙◌, ◌++◌, ◌∷◌, [], length, slice_get, ap, subst}
use Rattle.lola_instances_one.specs.Holdings.{Holdings}
use Rattle.lola_instances_one.specs.Unborn.{unborn}
use Rattle.lola_instances_stream.specs.Each.{Each}
use Rattle.lola_instances_stream.proofs.Lists.{each-front, got_last}
use Rattle.lola_instances_stream.proofs.slots.bear.Goals as goal

pub returns-in-Some-clause-slots : goal.returns-in-Some-clause-slots
returns-in-Some-clause-slots c =
    let new = c.pop.new.self.items in
    let s = c.in-Some.spare in
    let g : c.args.spares.now.items ≡ new ++ s ∷ [] = c.in-Some.ensures.items in
    let e : s ≡ unborn c.args._kept c.args._windows.now = c.requires.blank (length new) s (ap (λ xs. slice_get xs (length new)) g ∙ got_last new s) in
    let old = c.args.slots.now in
    c.add.ensures.rest
    ∙ ap (λ (x : Holdings). record old { items = old.items ++ x ∷ []; room = c.add.new.self.room }) (c.begin_life.ensures.slot ∙ ap (λ (x : Holdings). record x { params = c.args.params; born = c.args.time }) e)

pub returns-in-Some-clause-rest : goal.returns-in-Some-clause-rest
returns-in-Some-clause-rest c =
    let P = λ (x : Holdings). x ≡ unborn c.args._kept c.args._windows.now in
    each-front P c.pop.new.self.items c.in-Some.spare (subst (Each P) c.in-Some.ensures.items c.requires.blank)
