use Rattle.std.proofs.Common.{rules, ◌%◌, ◌^◌, ◌∙◌, sym, ap, subst}
use Rattle.lola_intake.specs.Turns.{Taken, ticket_of}
use Rattle.lola_intake.proofs.Keeps.{draws, looks}
use Rattle.lola_intake.proofs.lock.TicketLock.enter.Goals as goal

pub fetch_add-ticket-requires : goal.fetch_add-ticket-requires
fetch_add-ticket-requires g c = (search rules, search rules, draws _ _ _ _ _ _ c.requires.idle.0.0 c.requires.idle.0.1.0 c.requires.idle.0.1.1)

pub load-requires : goal.load-requires
load-requires g c = let drawn = c.loop.invariant.1 in (
  search rules,
  search rules,
  looks _ _ _ _ _ _ drawn.0 (ap (λ m. m.0.stage) drawn.1) c.requires.idle.0.1.0 (ap (λ m. m.0.setting) drawn.1 ∙ c.requires.idle.0.1.1),
)

pub returns-then-load-ticket-clause-turn : goal.returns-then-load-ticket-clause-turn
returns-then-load-ticket-clause-turn g c = let drawn = c.loop.invariant.1 in
    subst (λ m. Taken g.O.Object.opens g.O.Object.moves m c.load.new.seat.me) drawn.1
    (c.load.ensures.2.0 (c.if-load-ticket.true ∙ (drawn.2 ∙ sym (ap (λ m. ticket_of m.0.stage % 2 ^ 64) drawn.1))))

pub loop-preserved : goal.loop-preserved
loop-preserved g c = let drawn = c.loop.invariant.1 in (
  search rules,
  (
    drawn.0,
    c.load.ensures.2.1 (λ hit. c.if-load-ticket.false (hit ∙ (ap (λ m. ticket_of m.0.stage % 2 ^ 64) drawn.1 ∙ sym drawn.2))) ∙ drawn.1,
    drawn.2,
  ),
)
