use Rattle.std.proofs.Common.{◌≡◌, ◌∙◌, ℕ, Option, ap, sym, subst}
use Rattle.lola_value.specs.declared.value.Outcome.TheVariants as outcome
use Rattle.lola_model.specs.Store.{now_seen}
use Rattle.lola_instances_one.specs.Holdings.{Holdings, shown}
use Rattle.lola_instances_one.specs.Saved.{MayHaveHad}
use Rattle.lola_instances_one.proofs.Silent.{silent-remembers}
use Rattle.lola_instances_stream.specs.Crowds.{RemembersAt, shown_at}
use Rattle.lola_instances_stream.proofs.Outcomes.{is_missing}
use Rattle.lola_instances.specs.Phases.{start_in, time_in}
use Rattle.lola_instances.specs.Stores.{bounded_seen}
use Rattle.lola_instances.proofs.Asking.{shows_at}
use Rattle.lola_instances.proofs.Phases.{phase_start}
use Rattle.lola_instances.proofs.law.silent_remembers.Goals as goal

pub returns : goal.returns
returns c = λ n i x names values at silent had.
    let s = c.args._store.now in
    let shows : now_seen (bounded_seen s) n i ≡ shown s.step x = shows_at s.step s.streams.items n i ∙ ap (shown_at s.step) at in
    let none : shown s.step x ≡ outcome.Missing = sym shows ∙ is_missing (now_seen (bounded_seen s) n i) silent in
    subst (λ (o : Option Holdings). RemembersAt (start_in s.phase) (time_in s.phase) s.step names o values) (sym at)
    (silent-remembers (start_in s.phase) (time_in s.phase) s.step names x values none (subst (λ (k : ℕ). MayHaveHad k names x values) (phase_start s.phase) had))
