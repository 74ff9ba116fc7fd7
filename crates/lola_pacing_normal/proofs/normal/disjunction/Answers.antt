use Rattle.std.proofs.Common.{◌≡◌, ◌∙◌, ap, ℕ, List, ◌++◌, map, ◌||◌}
use Rattle.lola_model.specs.Activity.{satisfies_some}
use Rattle.lola_model.specs.declared.pacing.InputSet.{InputSet}
use Rattle.lola_pacing_normal.specs.Kept.{candidate_of}
use Rattle.lola_pacing_normal.proofs.LeastLemmas.{passes_some, answers_by_test, both_pass}
use Rattle.lola_pacing_normal.proofs.normal.disjunction.Goals as goal

pub returns : goal.returns
returns c =
    let candidates : c.in_ok-candidates.candidates.items ≡ map candidate_of (c.args.first.now ++ c.args.second.now) =
    c.in_ok-candidates.ensures ∙ (ap (λ (a : List InputSet). map candidate_of (a ++ c.as_slice-2.result.now)) c.as_slice.ensures ∙ ap (λ (b : List InputSet). map candidate_of (c.args.first.now ++ b)) c.as_slice-2.ensures) in
    answers_by_test (passes_some c.in_ok-candidates.candidates.items) (λ inputs. satisfies_some inputs c.args.first.now || satisfies_some inputs c.args.second.now) c.least.result
    (λ inputs. ap (λ (cs : List ℕ). passes_some cs inputs) candidates ∙ both_pass c.args.first.now c.args.second.now inputs)
    c.least.ensures
