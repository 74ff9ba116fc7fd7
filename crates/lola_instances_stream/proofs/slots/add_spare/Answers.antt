use Rattle.std.proofs.Common.{◌≡◌, ◌++◌, ◌∷◌, [], ◌∙◌, ap, sym, subst}
use Rattle.lola_instances_one.specs.Holdings.{Holdings}
use Rattle.lola_instances_one.specs.Unborn.{unborn}
use Rattle.lola_instances_stream.specs.Each.{Each}
use Rattle.lola_instances_stream.proofs.Lists.{each-append}
use Rattle.lola_instances_stream.proofs.slots.add_spare.Goals as goal

pub returns-in-Ok-create-clause-blank : goal.returns-in-Ok-create-clause-blank
returns-in-Ok-create-clause-blank c = λ h.
    let P = λ (s : Holdings). s ≡ unborn c.args.kept c.args.windows.now in
    let s = c.in-Ok-create.spare in
    let g : c.push_reserved.new.self.items ≡ c.args.spares.now.items ++ s ∷ [] = c.push_reserved.ensures.items ∙ ap (λ xs. xs ++ s ∷ []) c.in-Ok.ensures.items in
    subst (Each P) (sym g) (each-append P c.args.spares.now.items s h c.in-Ok-create.ensures.unborn)
