use Rattle.std.proofs.Common.{rules, ◌+◌, ◌∙◌, ap, slice_get}
use Rattle.lola_intake.specs.Turns.{one_more, newcomer}
use Rattle.lola_intake.specs.Intakes.{shown, setting, new_seat}
use Rattle.lola_intake.proofs.Seating.{of_new}
use Rattle.lola_intake.proofs.Telling.{get_snoc, seat_made}
use Rattle.lola_intake.proofs.intake.Intake.create.Goals as goal

pub loop-source-preserved : goal.loop-source-preserved
loop-source-preserved c = let inv = c.loop-source.invariant in let n = c.loop-source.source in let k = setting c.args.sources c.args.start in let id = c.in_ok-lock.lock.table.shared.table_id in let new = c.another.result in record {
  own = search rules;
  first = search rules;
  view = c.another.ensures.same.2 ∙ ap one_more inv.view;
  count = search rules;
  room = search rules;
  seats = λ s l. ap (λ xs. slice_get xs s) c.push_reserved.ensures.items
      ∙ get_snoc (λ s. new_seat id k (s + 1) s) c.loop-source.seats.items (shown new.table_id n new.me.0) n inv.count inv.seats
      (ap (λ z. shown z n new.me.0) (c.another.ensures.new.0 ∙ inv.own) ∙ seat_made id k n new.me.0 (c.another.ensures.new.2 ∙ ap newcomer inv.view)) s l;
}

pub returns-clause-own : goal.returns-clause-own
returns-clause-own c = of_new c.in_ok-lock.lock.table.shared.table_id (setting c.args.sources c.args.start) c.loop-source.seats.items c.args.sources (search rules) (λ s l. c.loop-source.invariant.seats s (search (rules, l)))
