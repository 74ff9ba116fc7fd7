use Rattle.std.proofs.Common.{◌≡◌, ◌∙◌, ap, ℕ, List, [], ◌∷◌, ◌++◌, ◌^◌, ◌*◌, ◌%◌, ◌<◌, one-mul}
use Rattle.std.proofs.Math.Nat.{mod-eq_of_lt}
use Rattle.std.proofs.Math.Pow.{pow-lt}
use Rattle.lola_model.specs.Implication.{has_input}
use Rattle.lola_pacing_normal.proofs.LeastLemmas.{passes_some, answers_by_test}
use Rattle.lola_pacing_normal.proofs.FormulaLemmas.{input_passes}
use Rattle.lola_pacing_normal.proofs.normal.single.Goals as goal

pub returns : goal.returns
returns c =
    let small : 2 ^ c.args.input < 2 ^ 64 = pow-lt c.requires in
    let one : 1 * 2 ^ c.args.input % 2 ^ 64 ≡ 2 ^ c.args.input = ap (λ x. x % 2 ^ 64) (one-mul (2 ^ c.args.input)) ∙ mod-eq_of_lt small in
    let items : c.push.new.self.items ≡ 2 ^ c.args.input ∷ [] =
    c.in_ok-push.ensures.items ∙ (ap (λ (xs : List ℕ). xs ++ (1 * 2 ^ c.args.input % 2 ^ 64 ∷ [])) c.new-candidates.ensures.items ∙ ap (λ x. x ∷ []) one) in
    answers_by_test (passes_some c.push.new.self.items) (λ inputs. has_input inputs c.args.input) c.least.result
    (λ inputs. ap (λ (cs : List ℕ). passes_some cs inputs) items ∙ input_passes c.args.input inputs) c.least.ensures
