use Rattle.std.proofs.Common.{rules, ◌∙◌, List, ap, slice_get}
use Rattle.crossbeam_queue.specs.Passes.{Pass, view}
use Rattle.lola_queue_intake.specs.declared.item.Item.{Item}
use Rattle.lola_queue_intake.specs.declared.delivery.View.{View}
use Rattle.lola_queue_intake.specs.Deliveries.{with_source_made}
use Rattle.lola_queue_intake.specs.Intakes.{source_shown, new_source}
use Rattle.lola_queue_intake.proofs.QueueSteps.{begins, forks}
use Rattle.lola_queue_intake.proofs.Views.{get_made}
use Rattle.lola_queue_intake.proofs.Seating.{of_new, seat_made}
use Rattle.lola_queue_intake.proofs.intake.QueueIntake.create.Goals as goal

abbrev knows_mine : Pass Item View → List Item
knows_mine p = let v : View = view p in v.mine

pub ruled-requires-clause-rule : goal.ruled-requires-clause-rule
ruled-requires-clause-rule c = begins

pub another-theirs-requires-clause-rule : goal.another-theirs-requires-clause-rule
another-theirs-requires-clause-rule c = let p = c.loop-source.pass in forks p.id (view p) (ap (λ v. v.role) c.loop-source.invariant.made)

pub loop-source-preserved : goal.loop-source-preserved
loop-source-preserved c =
    let inv = c.loop-source.invariant in
    let n = c.loop-source.source in
    let queue = c.in_ok-queue.queue.table.shared.table_id in
    let word = c.in_ok-word.word.table.shared.table_id in
    let theirs = c.another-theirs in
    let their_word = c.another-their_word in
    let t = c.of-counted.result in
    let of = c.of-counted.ensures in record {
      own = (theirs.ensures.queue.0.0 ∙ inv.own.0, theirs.ensures.queue.0.2 ∙ inv.own.1);
      made = theirs.ensures.rule.0 ∙ ap with_source_made inv.made;
      word = (their_word.ensures.same.0 ∙ inv.word.0, their_word.ensures.same.1 ∙ inv.word.1, their_word.ensures.same.2 ∙ inv.word.2);
      count = search rules;
      room = search rules;
      seats = λ s l. ap (λ xs. slice_get xs s) c.push_reserved.ensures.items
          ∙ get_made (new_source record { queue = queue; word = word }) c.loop-source.seats.items (source_shown t.pass.table_id their_word.result.table_id n (view t.pass).mine their_word.result.me.0.found t.full) n inv.count inv.seats
          (seat_made queue t.pass.table_id word their_word.result.table_id n (view t.pass).mine their_word.result.me.0.found t.full (ap (λ z. z.table_id) of.0 ∙ theirs.ensures.queue.1.0) (their_word.ensures.new.0 ∙ inv.word.0)
          (ap (λ (z : Pass Item View). knows_mine z) of.0 ∙ ap (λ (u : View). u.mine) theirs.ensures.rule.1) (ap (λ m. m.0.found) their_word.ensures.new.1) of.1) s l;
    }

pub returns-clause-own : goal.returns-clause-own
returns-clause-own c = of_new record { queue = c.in_ok-queue.queue.table.shared.table_id; word = c.in_ok-word.word.table.shared.table_id } c.loop-source.seats.items c.args.sources (search rules) (λ s l. c.loop-source.invariant.seats s (search (rules, l)))
