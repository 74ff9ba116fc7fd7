use Rattle.std.proofs.Common.{ap, ◌∙◌, ◌++◌, List}
use Rattle.lola_model.specs.Parts.{listed_clause}
use Rattle.lola_model.specs.PacingRefused.{used}
use Rattle.lola_model.specs.declared.uses.Use.{Use}
use Rattle.lola_model.proofs.Fused.{gathered_clause}
use Rattle.lola_model.proofs.Passing.{any_clause}
use Rattle.lola_pacing.specs.Reading.{used_part}
use Rattle.lola_pacing.proofs.PartLemmas.{used_each}
use Rattle.lola_pacing.proofs.uses.uses_of.Goals as goal

pub visit_clause-requires-clause-parts : goal.visit_clause-requires-clause-parts
visit_clause-requires-clause-parts c = any_clause c.args.clause.now

pub returns : goal.returns
returns c =
    gathered_clause (λ v. v.items) used_part used used_each c.args.clause.now c.new-list.result c.visit_clause.new.target c.in_ok-visit_clause.ensures
    ∙ ap (λ (xs : List Use). xs ++ listed_clause used c.args.clause.now) c.new-list.ensures.items
