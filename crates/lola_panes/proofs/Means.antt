-- Means, and the least and the greatest, as they are answered.
use Rattle.std.proofs.Common.{◌≡◌, List, [], ◌∷◌, length, refl, ap, sym, ◌∙◌, arith, ℤ, pos, nat_eq, int_div, if◌then◌else◌}
use Rattle.std.proofs.lemmas.Bool.{ne_eqb}
use Rattle.lola_model.specs.declared.spec.Agg.TheVariants as agg
use Rattle.lola_model.specs.Windows.{total, minimum_of, maximum_of, mean_of}
use Rattle.lola_value.specs.declared.value.Kind.{Kind}
use Rattle.lola_value.specs.declared.text.Field.TheVariants as field
use Rattle.lola_value.specs.Answer.{Given, Missing}
use Rattle.lola_value.specs.Arithmetic.{within}
use Rattle.lola_panes.specs.Answers.{best_answer}
use Rattle.lola_panes.specs.Weights.{best_of, best_after}
use Rattle.lola_panes.proofs.Folds.{least_is, greatest_is}
use Rattle.lola_panes.proofs.Ranges.{AllIn, given, best_in, mean_in}

-- the tested mean, least and greatest are those of the model, since each is of the kind
pub mean_is : (k : Kind) (zs : List ℤ) → AllIn k zs → (if nat_eq (length zs) 0 then Missing else within k (int_div (total zs) (pos (length zs)))) ≡ mean_of zs
mean_is k [] h = refl
mean_is k (z ∷ zs) h = rw (ne_eqb (length (z ∷ zs)) 0 (λ q. omega arith)) (given k (int_div (total (z ∷ zs)) (pos (length (z ∷ zs)))) (mean_in k z zs h))

pub least-best : (k : Kind) (zs : List ℤ) → AllIn k zs → best_answer k (best_of agg.Min zs) ≡ minimum_of zs
least-best k [] h = refl
least-best k (z ∷ zs) h = given k (best_after agg.Min z (best_of agg.Min zs)) (best_in agg.Min k z zs h) ∙ ap (λ x. Given (field.Int x)) (sym (least_is z zs))

pub greatest-best : (k : Kind) (zs : List ℤ) → AllIn k zs → best_answer k (best_of agg.Max zs) ≡ maximum_of zs
greatest-best k [] h = refl
greatest-best k (z ∷ zs) h = given k (best_after agg.Max z (best_of agg.Max zs)) (best_in agg.Max k z zs h) ∙ ap (λ x. Given (field.Int x)) (sym (greatest_is z zs))
