use Rattle.std.proofs.Common.{sym, subst, ◌∙◌}
use Rattle.lola_value.specs.declared.value.TextId.{TextId}
use Rattle.std.specs.Prelude.{Option}
use Rattle.lola_names.specs.Numbered.{IsPlaceIn}
use Rattle.lola_names.proofs.Numbering.{found_in, not_in}
use Rattle.lola_names.proofs.made.TextNumbers.find.Goals as goal

pub returns-in_err-place : goal.returns-in_err-place
returns-in_err-place c =
    subst (λ (o : Option TextId). IsPlaceIn c.args.self.now c.args.text.now o) (sym c.from_residual.ensures)
    (not_in c.args.self.now c.args.text.now c.self.inside.entries.keys c.self.view_is (sym c.get_index_of.ensures.index ∙ c.in_err-place.was))

pub returns : goal.returns
returns c = found_in c.args.self.now c.args.text.now c.self.inside.entries.keys c.in_ok-place.place c.self.view_is c.self.invariant (sym c.get_index_of.ensures.index ∙ c.in_ok-place.was)
