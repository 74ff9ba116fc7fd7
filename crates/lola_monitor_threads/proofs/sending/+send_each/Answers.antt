use Rattle.std.proofs.Common.{◌≡◌, ◌<◌, arith, length, subst, sym}
use Rattle.lola_monitor_threads.specs.Seated.{WentOn}
use Rattle.lola_monitor_threads.specs.Seated.{Seated}
use Rattle.lola_monitor_threads.proofs.SentWorkers.{came_back, none_came, of_last, room_left, some_here, stayed_here, still_at}
use Rattle.lola_monitor_threads.proofs.Passing.{goes_on_twice}
use Rattle.lola_monitor_threads.proofs.sending.+send_each.Goals as goal

-- none waits
pub returns-in_default-clause-back : goal.returns-in_default-clause-back
returns-in_default-clause-back g t c = none_came c.args.waiting.items c.args.back.items (let none = c.in_default.ensures.cases in let long = c.args.waiting.ok.0 in omega arith)

-- the last seated worker that waits, and those before it
pub start-requires-clause-intake : goal.start-requires-clause-intake
start-requires-clause-intake g t c κs within =
    (of_last (λ (p : Seated). p.seat.intake ≡ (g.I.SourceIntake.id c.args.context.now.intake.now)) c.args.waiting.items c.pop.new.self.items c.in-Some.seated c.in-Some.ensures.items c.requires.waiting).1

pub start-requires-clause-flag : goal.start-requires-clause-flag
start-requires-clause-flag g t c κs within =
    (of_last (λ (p : Seated). p.seat.source < length c.args.context.now.flags.now) c.args.waiting.items c.pop.new.self.items c.in-Some.seated c.in-Some.ensures.items c.requires.flags).1

pub send_each-here-requires-clause-waiting : goal.send_each-here-requires-clause-waiting
send_each-here-requires-clause-waiting g t c κs within =
    (of_last (λ (p : Seated). p.seat.intake ≡ (g.I.SourceIntake.id c.args.context.now.intake.now)) c.args.waiting.items c.pop.new.self.items c.in-Some.seated c.in-Some.ensures.items c.requires.waiting).0

pub send_each-here-requires-clause-flags : goal.send_each-here-requires-clause-flags
send_each-here-requires-clause-flags g t c κs within =
    (of_last (λ (p : Seated). p.seat.source < length c.args.context.now.flags.now) c.args.waiting.items c.pop.new.self.items c.in-Some.seated c.in-Some.ensures.items c.requires.flags).0

pub push_reserved-requires : goal.push_reserved-requires
push_reserved-requires g t c =
    let left = room_left c.args.waiting.items c.pop.new.self.items c.in-Some.seated c.args.back.items c.send_each-here.result.1.items _ c.in-Some.ensures.items c.send_each-here.ensures.back
    c.requires.room_back in omega (arith, c.send_each-here.result.1.ok.0, c.send_each-here.ensures.room_back)

-- the seated worker that its thread gave back stands behind those that came back before
pub returns-in-Ok-clause-back : goal.returns-in-Ok-clause-back
returns-in-Ok-clause-back g t c =
    came_back c.args.waiting.items c.pop.new.self.items c.in-Some.seated c.args.back.items c.send_each-here.result.1.items c.push_reserved.new.self.items c.join.result
    c.in-Some.ensures.items c.send_each-here.ensures.back c.push_reserved.ensures.items (subst (λ (p : Seated). WentOn p c.join.result) c.in-Ok.ensures.sent c.join.ensures)

pub send_each-here-requires-in-Err-clause-waiting : goal.send_each-here-requires-in-Err-clause-waiting
send_each-here-requires-in-Err-clause-waiting g t c κs within =
    (of_last (λ (p : Seated). p.seat.intake ≡ (g.I.SourceIntake.id c.args.context.now.intake.now)) c.args.waiting.items c.pop.new.self.items c.in-Some.seated c.in-Some.ensures.items c.requires.waiting).0

pub send_each-here-requires-in-Err-clause-flags : goal.send_each-here-requires-in-Err-clause-flags
send_each-here-requires-in-Err-clause-flags g t c κs within =
    (of_last (λ (p : Seated). p.seat.source < length c.args.context.now.flags.now) c.args.waiting.items c.pop.new.self.items c.in-Some.seated c.in-Some.ensures.items c.requires.flags).0

pub create-requires-after_bounds : goal.create-requires-after_bounds
create-requires-after_bounds g t c κs within =
    still_at (g.I.SourceIntake.id c.args.context.now.intake.now) c.in-Some.seated c.in-Err.seated
    (of_last (λ (p : Seated). p.seat.intake ≡ (g.I.SourceIntake.id c.args.context.now.intake.now)) c.args.waiting.items c.pop.new.self.items c.in-Some.seated c.in-Some.ensures.items c.requires.waiting).1
    c.in-Err.ensures.kept

pub move_last-requires-clause-some : goal.move_last-requires-clause-some
move_last-requires-clause-some g t c κs within =
    some_here c.args.here.items c.push_reserved-in-Err.new.self.items c.send_each-here-in-Err.result.0.items c.create.result c.push_reserved-in-Err.ensures.items
    c.send_each-here-in-Err.ensures.here

pub move_last-requires-clause-room : goal.move_last-requires-clause-room
move_last-requires-clause-room g t c κs within =
    rw c.send_each-here-in-Err.ensures.room_back (room_left c.args.waiting.items c.pop.new.self.items c.in-Some.seated c.args.back.items c.send_each-here-in-Err.result.1.items _
    c.in-Some.ensures.items c.send_each-here-in-Err.ensures.back c.requires.room_back)

pub returns-in-Err-clause-here : goal.returns-in-Err-clause-here
returns-in-Err-clause-here g t c =
    (stayed_here c.args.here.items c.push_reserved-in-Err.new.self.items c.send_each-here-in-Err.result.0.items c.move_last.new.here.items c.create.result c.move_last.ensures.moved.0
    c.push_reserved-in-Err.ensures.items c.send_each-here-in-Err.ensures.here c.move_last.ensures.moved.1).0

-- the seated worker went on where it was kept, and then at its turns
pub returns-in-Err-clause-back : goal.returns-in-Err-clause-back
returns-in-Err-clause-back g t c =
    let moved = c.move_last.ensures.moved in
    let stayed =
    stayed_here c.args.here.items c.push_reserved-in-Err.new.self.items c.send_each-here-in-Err.result.0.items c.move_last.new.here.items c.create.result moved.0
    c.push_reserved-in-Err.ensures.items c.send_each-here-in-Err.ensures.here moved.1 in
    came_back c.args.waiting.items c.pop.new.self.items c.in-Some.seated c.args.back.items c.send_each-here-in-Err.result.1.items c.move_last.new.back.items moved.0
    c.in-Some.ensures.items c.send_each-here-in-Err.ensures.back moved.2 (goes_on_twice c.in-Some.seated c.create.result moved.0 (subst (λ (p : Seated). WentOn c.in-Some.seated p) (sym c.create.ensures) c.in-Err.ensures.kept) stayed.1)
