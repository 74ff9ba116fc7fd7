use Rattle.std.proofs.Common.{Ok, Err, List, ℕ, sym, subst, ◌∙◌}
use Rattle.lola_monitor.specs.Outcomes.{IsReadFront}
use Rattle.lola_monitor.proofs.Specifications.{all_read, planned}
use Rattle.lola_monitor.proofs.stating.read_specification.Goals as goal

pub returns-in-Ok-plan_of-clause-plan : goal.returns-in-Ok-plan_of-clause-plan
returns-in-Ok-plan_of-clause-plan g c =
    planned c.deref.result.now c.args.name.now (g.F.Shelf.state c.args.shelf.now) (g.F.Shelf.state c.read_name.new.shelf) (Ok c.in-Ok-plan_of.plan)
    (λ all told. subst (λ (b : List ℕ). IsReadFront 1048576 b all) (sym c.deref.ensures.value) (c.in-Ok.ensures.bytes all told)) c.in-Ok.ensures.noted c.in-Ok-plan_of.ensures

pub returns-in-Ok-plan_of-clause-text : goal.returns-in-Ok-plan_of-clause-text
returns-in-Ok-plan_of-clause-text g c = λ all told.
    sym c.deref.ensures.value
    ∙ all_read c.deref.result.now all c.in-Ok-plan_of.plan (subst (λ (b : List ℕ). IsReadFront 1048576 b all) (sym c.deref.ensures.value) (c.in-Ok.ensures.bytes all told)) c.in-Ok-plan_of.ensures.0

pub returns-in-Ok-plan_of-clause-literals : goal.returns-in-Ok-plan_of-clause-literals
returns-in-Ok-plan_of-clause-literals g c = c.plan_texts_are_utf8.ensures c.deref.result.now c.in-Ok-plan_of.plan c.in-Ok-plan_of.ensures.0

pub returns-in-Err-clause-plan : goal.returns-in-Err-clause-plan
returns-in-Err-clause-plan g c =
    planned c.deref.result.now c.args.name.now (g.F.Shelf.state c.args.shelf.now) (g.F.Shelf.state c.read_name.new.shelf) (Err c.in-Err.end)
    (λ all told. subst (λ (b : List ℕ). IsReadFront 1048576 b all) (sym c.deref.ensures.value) (c.in-Ok.ensures.bytes all told)) c.in-Ok.ensures.noted c.in-Err.ensures
