use Rattle.std.proofs.Common.{◌∷◌, Some, ◌∙◌, sym, ap, subst}
use Rattle.atomic_table.specs.Table.{rest}
use Rattle.lola_intake.specs.Turns.{turn_by, MayTell}
use Rattle.lola_intake.proofs.Keeps.{may_tell, turned, idle_again, changed}
use Rattle.lola_intake.proofs.lock.TicketLock.turn.Goals as goal

pub slot_mut-object-requires : goal.slot_mut-object-requires
slot_mut-object-requires g c = let t = c.enter.ensures.turn in (
  c.enter.ensures.same.0 ∙ c.requires.own,
  (t.1, ap (λ m. m.1) t.4 ∙ ap (λ l. (0, t.1) ∷ l) (sym (ap (λ m. rest m.1) t.4))),
)

pub leave-requires-clause-turn : goal.leave-requires-clause-turn
leave-requires-clause-turn g c = let t = c.enter.ensures.turn in let m = c.args.seat.now.me in let m1 = c.enter.new.seat.me in let x1 = c.act-reply.new.self in
    let opens = g.O.Object.opens in let moves = g.O.Object.moves in let key = c.args.self.now.table.shared.key in let reply = c.act-reply.result in let e = g.O.Act.event c.args.call reply in
    subst (λ z. MayTell opens moves (Some (g.O.Act.event z reply)) (m1.0, (0, x1) ∷ rest m1.1)) (sym c.of-made.ensures)
    (may_tell opens moves key m m1 x1 e c.requires.idle.1 t (changed opens moves key m m1 t _ x1 (turn_by m.0.caller e) c.slot_mut-object.ensures.value (c.act-reply.ensures m.0.caller c.requires.call)))

pub returns-clause-same : goal.returns-clause-same
returns-clause-same g c = let t = c.enter.ensures.turn in let m = c.args.seat.now.me in let m1 = c.enter.new.seat.me in let x1 = c.act-reply.new.self in
    let opens = g.O.Object.opens in let moves = g.O.Object.moves in let key = c.args.self.now.table.shared.key in let reply = c.act-reply.result in let e = g.O.Act.event c.args.call reply in (
      (c.leave.ensures.same.0 ∙ c.enter.ensures.same.0, c.leave.ensures.same.1 ∙ c.enter.ensures.same.1),
      idle_again opens moves key m m1 x1 e c.requires.idle.1 t (changed opens moves key m m1 t _ x1 (turn_by m.0.caller e) c.slot_mut-object.ensures.value (c.act-reply.ensures m.0.caller c.requires.call)) c.leave.new.seat.me
          (c.leave.ensures.told e (ap (λ z. Some (g.O.Act.event z reply)) c.of-made.ensures)),
    )

pub returns-clause-turned : goal.returns-clause-turned
returns-clause-turned g c = let t = c.enter.ensures.turn in let m = c.args.seat.now.me in let m1 = c.enter.new.seat.me in let x1 = c.act-reply.new.self in
    let opens = g.O.Object.opens in let moves = g.O.Object.moves in let key = c.args.self.now.table.shared.key in let reply = c.act-reply.result in let e = g.O.Act.event c.args.call reply in
    turned opens moves key m m1 x1 e c.requires.idle.1 t (changed opens moves key m m1 t _ x1 (turn_by m.0.caller e) c.slot_mut-object.ensures.value (c.act-reply.ensures m.0.caller c.requires.call)) c.leave.new.seat.me
    (c.leave.ensures.told e (ap (λ z. Some (g.O.Act.event z reply)) c.of-made.ensures))
