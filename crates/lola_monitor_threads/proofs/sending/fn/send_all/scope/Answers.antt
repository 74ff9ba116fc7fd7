use Rattle.std.proofs.Common.{◌∙◌, ◌++◌, ap, refl, subst, sym}
use Rattle.std.specs.List.{AllZip}
use Rattle.lola_monitor_threads.specs.Seated.{WentOn}
use Rattle.lola_monitor_threads.proofs.sending.fn.send_all.scope.Goals as goal

pub returns : goal.returns
returns g c =
    let went = c.send_each-back.ensures in
    let came = went.back in
    record {
      same_taker = refl;
      same_run = refl;
      same_out = refl;
      same_trace = refl;
      sent = record {
        halts = went.halts;
        done = went.done;
        marked = went.marked;
        seat = went.seat;
        plan = went.plan;
        back = subst (AllZip WentOn c.captures.waiting.items) (sym (came.1 ∙ ap (λ l. l ++ came.0) c.requires.none_back)) came.2;
      };
    }
