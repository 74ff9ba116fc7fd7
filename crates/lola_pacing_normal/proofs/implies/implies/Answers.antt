use Rattle.std.proofs.Common.{◌≡◌, subst, ◌↔◌, IsTrue, All, true, List}
use Rattle.lola_model.proofs.Implied.{implies_by_sets}
use Rattle.lola_model.specs.Activity.{satisfies_some}
use Rattle.lola_model.specs.declared.pacing.InputSet.{InputSet}
use Rattle.lola_pacing_normal.proofs.implies.implies.Goals as goal

pub returns-in-Event-Event : goal.returns-in-Event-Event
returns-in-Event-Event c =
    let told : IsTrue c.each_has_all_of_one.result ↔ All (λ (s : InputSet). satisfies_some s.0 c.in-Event-Event.second ≡ true) c.in-Event-Event.first =
    subst (λ (b : List InputSet). IsTrue c.each_has_all_of_one.result ↔ All (λ (s : InputSet). satisfies_some s.0 b ≡ true) c.in-Event-Event.first) c.as_slice-in-Event-Event.ensures
    (subst (λ (a : List InputSet). IsTrue c.each_has_all_of_one.result ↔ All (λ (s : InputSet). satisfies_some s.0 c.as_slice-in-Event-Event.result.now ≡ true) a) c.as_slice.ensures c.each_has_all_of_one.ensures) in
    let law = implies_by_sets c.in-Event-Event.first c.in-Event-Event.second in
    rw (c.in-Event-Event.is-0, c.in-Event-Event.is-1) (λ e. law.1 (told.0 e), λ i. told.1 (law.0 i))
