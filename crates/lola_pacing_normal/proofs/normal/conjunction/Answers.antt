use Rattle.std.proofs.Common.{◌≡◌, ◌∙◌, ap, ℕ, List, ◌&&◌}
use Rattle.lola_model.specs.Activity.{satisfies_some}
use Rattle.lola_model.specs.declared.pacing.InputSet.{InputSet}
use Rattle.lola_pacing_normal.specs.Kept.{unions_of}
use Rattle.lola_pacing_normal.proofs.LeastLemmas.{passes_some, answers_by_test, unions_pass}
use Rattle.lola_pacing_normal.proofs.normal.conjunction.Goals as goal

pub returns : goal.returns
returns c =
    let candidates : c.in_ok-candidates.candidates.items ≡ unions_of c.args.first.now c.args.second.now =
    c.in_ok-candidates.ensures ∙ (ap (λ (a : List InputSet). unions_of a c.as_slice-2.result.now) c.as_slice.ensures ∙ ap (λ (b : List InputSet). unions_of c.args.first.now b) c.as_slice-2.ensures) in
    answers_by_test (passes_some c.in_ok-candidates.candidates.items) (λ inputs. satisfies_some inputs c.args.first.now && satisfies_some inputs c.args.second.now) c.least.result
    (λ inputs. ap (λ (cs : List ℕ). passes_some cs inputs) candidates ∙ unions_pass c.args.first.now c.args.second.now inputs)
    c.least.ensures
