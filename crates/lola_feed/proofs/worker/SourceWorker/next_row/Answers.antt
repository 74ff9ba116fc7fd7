use Rattle.std.proofs.Common.{◌≡◌, ◌∙◌, Option, Some, None, Result, Err, sym, ap, subst}
use Rattle.lola_model.specs.declared.journal.Row.{Row}
use Rattle.lola_feed.specs.Feeding.{IsNext, NextRow, Working}
use Rattle.lola_feed.specs.declared.worker.SourceEnd.{SourceEnd}
use Rattle.lola_feed.proofs.Workers.{Answered, answered, waits-next}
use Rattle.lola_feed.proofs.worker.SourceWorker.next_row.Goals as goal

pub returns-in-Some-clause-next : goal.returns-in-Some-clause-next
returns-in-Some-clause-next g c =
    let i = c.self.inside in
    let row = c.in-Some.row in
    let kept : i.kept ≡ Some row = sym c.in-Some.ensures.value in (
      subst (λ (w : Working). IsNext row w i.reader) c.self.view_is (waits-next record { reader = i.reader; kept = i.kept; end = i.end } row kept (c.self.invariant.waits row kept) (c.self.invariant.given row kept)),
      c.take.ensures.after,
      ap (λ (w : Working). w.end) c.self.view_is ∙ c.requires,
    )

pub returns-in-Err-clause-next : goal.returns-in-Err-clause-next
returns-in-Err-clause-next g c =
    let i = c.self.inside in
    let w : Working = record { reader = i.reader; kept = i.kept; end = i.end } in
    let going = c.self.invariant.going (ap (λ (w : Working). w.end) c.self.view_is ∙ c.requires) in
    let said = answered w c.next.result c.next.new.self (sym c.in_default.ensures.value) (c.next.ensures.going going) in
    let ended : NextRow (Err c.in-Err.end) w record { reader = c.next.new.self; kept = None; end = Some c.in-Err.end }
    = subst (λ (r : Result Row SourceEnd). Answered w c.next.new.self r) (sym c.in-Err.ensures) said in
    subst (λ (w : Working). NextRow (Err c.in-Err.end) w record { reader = c.next.new.self; kept = c.take.new.self; end = Some c.in-Err.end }) c.self.view_is
    (subst (λ (k : Option Row). NextRow (Err c.in-Err.end) w record { reader = c.next.new.self; kept = k; end = Some c.in-Err.end }) (sym c.take.ensures.after) ended)
