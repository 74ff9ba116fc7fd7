use Rattle.std.proofs.Common.{length, ◌∙◌, ap, unwrap_or, subst, sym, ◌≤◌}
use Rattle.std.proofs.lemmas.List.Sums.{prefix_len-le-length}
use Rattle.lola_value.proofs.Reading.{place_is}
use Rattle.lola_value.proofs.times.point_place.Goals as goal

pub returns-clause-place : goal.returns-clause-place
returns-clause-place c = c.unwrap_or.ensures ∙ ap (λ p. unwrap_or p (length c.args.bytes.now)) c.first_point.ensures ∙ place_is c.args.bytes.now

pub returns-clause-within : goal.returns-clause-within
returns-clause-within c = subst (λ n. n ≤ length c.args.bytes.now) (sym (returns-clause-place c)) (prefix_len-le-length _ c.args.bytes.now)
