use Rattle.std.proofs.Common.{ap, ◌∙◌, ◌++◌, ℕ, List}
use Rattle.lola_model.specs.Leaves.{followed, followed_in}
use Rattle.lola_model.proofs.Fused.{gathered_clause}
use Rattle.lola_model.proofs.Passing.{any_clause}
use Rattle.lola_pacing.specs.Reading.{followed_part}
use Rattle.lola_pacing.proofs.PartLemmas.{followed_each}
use Rattle.lola_pacing.proofs.follow.followed_from.Goals as goal

pub visit_clause-requires-clause-parts : goal.visit_clause-requires-clause-parts
visit_clause-requires-clause-parts c = any_clause c.args.clause.now

pub returns : goal.returns
returns c =
    gathered_clause (λ (xs : List ℕ). xs) followed_part followed followed_each c.args.clause.now c.create-list.result c.visit_clause.new.target c.in_ok-visit_clause.ensures
    ∙ ap (λ (xs : List ℕ). xs ++ followed_in c.args.clause.now) c.create-list.ensures
