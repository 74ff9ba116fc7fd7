-- One value more in a tally.
use Rattle.std.proofs.Common.{◌≡◌, ◌∙◌, refl, ap, arith, ◌+◌, ℤ, ◌+ℤ◌, List, [], ◌∷◌, Option, Some, None, map, ◌&&◌, ◌||◌}
use Rattle.lola_value.specs.declared.text.Field.{Field}
use Rattle.lola_value.specs.declared.text.Field.TheVariants as field
use Rattle.lola_value.specs.Answer.{Answer, Given}
use Rattle.lola_model.specs.Windows.{greater, greatest_of, least_of, lesser, maximum_of, minimum_of, number_of, truth_of}
use Rattle.lola_replay_table.specs.Tallies.{IsTally, greatest_with, least_with, number_or_missing}
use Rattle.lola_replay_table.specs.declared.tally.Tally.{Tally}

same-number : (a b : ℤ) → (let x : Answer = Given (field.Int a) in x) ≡ Given (field.Int b) → a ≡ b
same-number a b e = cc e

least-more : (o : Option ℤ) (z : ℤ) (zs : List ℤ) → number_or_missing o ≡ minimum_of zs → number_or_missing (Some (least_with o z)) ≡ minimum_of (z ∷ zs)
least-more None z [] e = refl
least-more (Some y) z [] e = absurd (cc e)
least-more None z (x ∷ xs) e = absurd (cc e)
least-more (Some y) z (x ∷ xs) e = ap (λ k. Given (field.Int (lesser z k))) (same-number y (least_of x xs) e)

greatest-more : (o : Option ℤ) (z : ℤ) (zs : List ℤ) → number_or_missing o ≡ maximum_of zs → number_or_missing (Some (greatest_with o z)) ≡ maximum_of (z ∷ zs)
greatest-more None z [] e = refl
greatest-more (Some y) z [] e = absurd (cc e)
greatest-more None z (x ∷ xs) e = absurd (cc e)
greatest-more (Some y) z (x ∷ xs) e = ap (λ k. Given (field.Int (greater z k))) (same-number y (greatest_of x xs) e)

-- with one value more
pub tally-more : (v : Field) (vs : List Field) (t u : Tally) → IsTally vs t
    → u.count ≡ t.count + 1 → u.total ≡ number_of v +ℤ t.total → u.least ≡ Some (least_with t.least (number_of v)) → u.greatest ≡ Some (greatest_with t.greatest (number_of v))
    → u.all ≡ (truth_of v && t.all) → u.some ≡ (truth_of v || t.some) → IsTally (v ∷ vs) u
tally-more v vs t u is count total-is least greatest all some = record {
  count = (let c = count in let e = is.count in omega (arith, c, e));
  total_is = total-is ∙ ap (λ z. number_of v +ℤ z) is.total_is;
  least = ap number_or_missing least ∙ least-more t.least (number_of v) (map number_of vs) is.least;
  greatest = ap number_or_missing greatest ∙ greatest-more t.greatest (number_of v) (map number_of vs) is.greatest;
  all = all ∙ ap (λ b. truth_of v && b) is.all;
  some = some ∙ ap (λ b. truth_of v || b) is.some;
}
