use Rattle.std.proofs.Common.{◌∙◌, ◌++◌, ◌∷◌, [], ap, refl, subst, if◌then◌else◌, eq-eqb}
use Rattle.circular_buffer.specs.Buffer.{keep_last}
use Rattle.lola_value.specs.declared.value.Outcome.TheVariants as outcome
use Rattle.lola_buffer.specs.Kept.{Kept}
use Rattle.lola_instances_one.specs.Holdings.{Holdings, holdings}
use Rattle.lola_instances_one.specs.Telling.{ToldAll}
use Rattle.lola_instances_one.proofs.Remembering.{remembers-told}
use Rattle.lola_instances_one.proofs.instance.Instance.add_value.Goals as goal

pub returns-clause-past : goal.returns-clause-past
returns-clause-past c = λ start time names values h held none o l.
    let s = c.args.self.now in
    let v = c.args.value in
    let ps = c.tell_panes.new.panes.items in
    let w = c.self.view_is in
    let given = c.given-self-inside.ensures in
    remembers-told start time c.args.step c.args.offset names s (holdings c.self.inside.params c.self.inside.born c.args.step c.given-self-inside.result c.push.new.self ps) v values h held none o l
    (ap (λ b. if b then c.given-self-inside.result else outcome.Missing) (eq-eqb c.args.step c.args.step refl) ∙ given)
    (ap (λ (b : Kept). b.capacity) c.push.ensures ∙ ap (λ (x : Holdings). x.ring.capacity) w)
    (ap (λ (b : Kept). b.values) c.push.ensures ∙ ap (λ (x : Holdings). keep_last x.ring.capacity (x.ring.values ++ v ∷ [])) w)
    (subst (λ (x : Holdings). ToldAll c.args.offset v x.panes ps) w c.tell_panes.ensures)
